-- Short spellings: each form with a good shape has one, which opens no more nests than its height,
-- and which begins a line, or doesn't, where the shape says that it may.
use Rattle.std.proofs.Common.{◌≡◌, ℕ, suc, ◌+◌, ◌≤◌, Bool, true, false, cond, ◌&&◌, ◌||◌, inl, inr}
use Rattle.std.proofs.Common.{List, [], ◌∷◌, ◌++◌, length, refl, sym, ◌∙◌, ap, subst, arith, not}
use Rattle.std.proofs.lemmas.List.{append-nil}
use Rattle.std.proofs.Math.Nat.{le-max_left, le-max_right}
use Rattle.sw_token.specs.declared.Fixity.TheVariants as fixities
use Rattle.sw_token.specs.Spelling.{Spelled}
use Rattle.sw_grammar_forms.specs.Sets.{has, word}
use Rattle.sw_grammar_forms.specs.Form.{Shape, Terminal, Form, empty, one, is_usable, is_shorter}
use Rattle.sw_grammar_forms.specs.Form.{claimed, listed_some, ending}
use Rattle.sw_grammar_forms.specs.Form as forms
use Rattle.sw_grammar_forms.specs.Relations.{Relation, head, is_first_on_line, FollowedBy, Either}
use Rattle.sw_grammar_forms.specs.Relations.{may_start}
use Rattle.sw_grammar_forms.specs.Relations.{stays, spelled, OneMore, Turns, Only, Chosen, NoToken}
use Rattle.sw_grammar_forms.specs.Relations.Turns.{stop}
use Rattle.sw_grammar_forms.proofs.Fresh.{fresh, fresh_in_word, fresh_is_token, fresh_is_other}
use Rattle.sw_grammar_forms.proofs.ReaderLaws.{Fills, past, Fills-append, Filled}
use Rattle.sw_grammar_forms.proofs.SetLemmas.{and_left, and_right, or_left, not_true, sample_is_token}
use Rattle.sw_grammar_forms.proofs.FormLemmas.{Covers, covers, GoodItem, good_item, GoodEnding}
use Rattle.sw_grammar_forms.proofs.FormLemmas.{good_ending}

-- some tokens, the first of which is the first on its line or isn't
pub record Led (lead : Bool) (tokens : List Spelled) : Type 0 where
  pub token : Spelled
  pub others : List Spelled
  pub whole : tokens ≡ token ∷ others
  pub is : token.first ≡ lead

-- a short spelling: none where the shape may be empty, and else one whose first token is the first
-- on its line or isn't
pub record Short {A : Type 0} (R : Relation A) (bare lead : Bool) (from : ℕ) : Type 0 where
  pub value : A
  pub filler : List Spelled
  pub spelled : R value filler
  pub fills : Fills from filler
  pub empty : bare ≡ true → filler ≡ []
  pub led : bare ≡ false → Led lead filler

-- whether a short spelling may begin a line, or may not
abbrev pub may : Shape → Bool → Bool
may s true = s.begins_line
may s false = s.stays_on_line

-- one of the two ways
abbrev pub some_way : Shape → Bool
some_way s = s.begins_line

way_of : (s : Shape) → is_usable s ≡ true → may s (some_way s) ≡ true
way_of s h = by_lead s.begins_line refl h
  where
    by_lead : (b : Bool) → s.begins_line ≡ b → (b || s.stays_on_line) ≡ true → may s b ≡ true
    by_lead true is h = is
    by_lead false is h = h

abbrev example : {A : Type 0} → Terminal A → Bool → ℕ → Spelled
example t lead from = record { text = t.text; at = from; fixity = t.fixity; first = lead }

example_in : {A : Type 0} (t : Terminal A) (lead : Bool) (from : ℕ) → may (one t) lead ≡ true
    → has t.set (example t lead from) ≡ true
unfolding has
example_in t true from h = h
example_in t false from h = h

abbrev fresh_token : List (List ℕ) → Bool → ℕ → Spelled
fresh_token texts lead from =
    record { text = fresh texts; at = from; fixity = fixities.None; first = lead }

fresh_member : (texts : List (List ℕ)) (lead : Bool) (from : ℕ)
    → has word (fresh_token texts lead from) ≡ true
unfolding has
fresh_member texts lead from = fresh_in_word texts fixities.None lead

not_both : (b : Bool) → b ≡ false → b ≡ true → ⊥
not_both b h k = let both : false ≡ true = sym h ∙ k in cc

ways : {N : Type 0} (El : N → Type 0) (shape_of : N → Shape) {s : Shape} {A : Type 0}
    (form : Form El shape_of s A) → s.ok ≡ true
    → is_usable s ≡ true
ways El shape_of (forms.done value) ok = refl
ways El shape_of (forms.terminal t) ok = and_right _ _ ok
ways El shape_of (forms.word_but texts value) ok = refl
ways El shape_of (forms.followed p f) ok = and_right _ _ ok
ways El shape_of (forms.either p q) ok = and_right _ _ ok
ways El shape_of (forms.turns is_open state f) ok = refl
ways El shape_of (forms.until is_open state f last) ok = and_right _ _ ok
ways El shape_of (forms.more_items state p) ok = refl
ways El shape_of (forms.some_items {s = s} p) ok = or_left _ _ (good_item s ok).begins_line
ways El shape_of (forms.when is_so p q) ok = and_right _ _ ok
ways El shape_of (forms.unless is_so p q) ok = and_right _ _ ok
ways El shape_of (forms.nest t n) ok = and_right _ _ (and_left _ _ ok)
ways El shape_of (forms.line_start {s = s} asked p) ok =
    or_left s.begins_line false (and_left _ _ (and_right _ _ ok))
ways El shape_of (forms.same_line p) ok = and_left _ _ (and_right _ _ ok)
ways El shape_of (forms.shaped {s = s} claim p) ok = (covers s claim ok).some

-- the parts of a short spelling of one form after another

short_then : {A B : Type 0} (s t : Shape) (P : Relation A) (Q : A → Relation B)
    (lead first second : Bool) (from : ℕ)
    → (one : Short P s.bare first from)
    → Short (Q one.value) t.bare second (past from one.filler)
    → (s.bare ≡ false → first ≡ lead) → (s.bare ≡ true → second ≡ lead)
    → Short (FollowedBy P Q) (s.bare && t.bare) lead from
short_then s t P Q lead first second from one two outer inner = record {
  value = two.value;
  filler = one.filler ++ two.filler;
  spelled = record {
    value = one.value;
    left = one.filler;
    right = two.filler;
    first = one.spelled;
    second = two.spelled;
    whole = refl;
  };
  fills = Fills-append from one.filler two.filler one.fills two.fills;
  empty = λ h. ap (λ us. us ++ two.filler) (one.empty (and_left _ _ h))
      ∙ two.empty (and_right _ _ h);
  led = by_first s.bare refl;
}
  where
    by_first : (b : Bool) → s.bare ≡ b → (b && t.bare) ≡ false
        → Led lead (one.filler ++ two.filler)
    by_first true is h = let right = two.led h in
        record {
          token = right.token;
          others = right.others;
          whole = ap (λ us. us ++ two.filler) (one.empty is) ∙ right.whole;
          is = right.is ∙ inner is;
        }
    by_first false is h = let left = one.led is in
        record {
          token = left.token;
          others = left.others ++ two.filler;
          whole = ap (λ us. us ++ two.filler) left.whole;
          is = left.is ∙ outer is;
        }

relate : {A : Type 0} {R S : Relation A} {bare lead : Bool} {from : ℕ}
    → ((a : A) (ts : List Spelled) → R a ts → S a ts)
    → Short R bare lead from → Short S bare lead from
relate {A} {R} {S} {bare} {lead} {from} more one = record {
  value = one.value;
  filler = one.filler;
  spelled = more one.value one.filler one.spelled;
  fills = one.fills;
  empty = one.empty;
  led = one.led;
}

-- where something is spelled
solidly : {A : Type 0} {R : Relation A} {bare lead : Bool} {from : ℕ} → bare ≡ false
    → Short R bare lead from → Short R false lead from
solidly {A} {R} {bare} {lead} {from} some one = record {
  value = one.value;
  filler = one.filler;
  spelled = one.spelled;
  fills = one.fills;
  empty = λ h. absurd (not_both false refl h);
  led = λ h. one.led some;
}

first_passes : (asked : Bool) (us : List Spelled) → Led true us → may_start asked (head us) ≡ true
first_passes true us h = ap (λ vs. is_first_on_line (head vs)) h.whole ∙ h.is
first_passes false us h = refl

inline_passes : (us : List Spelled) → Led false us → stays (head us) ≡ true
inline_passes us h = ap (λ vs. stays (head vs)) h.whole
    ∙ ap (λ b. not b) h.is

module _ {N : Type 0} (El : N → Type 0) (shape_of : N → Shape) (depth : ℕ)
    (inside : (n : N) → Relation (El n))
    (fill : (n : N) → suc (shape_of n).height ≤ depth → (from : ℕ) → Filled (inside n) [] from)
  where
    pub short_form : {s : Shape} {A : Type 0} (form : Form El shape_of s A) → s.ok ≡ true
        → s.height ≤ depth
        → (lead : Bool) → may s lead ≡ true → (from : ℕ)
        → Short (spelled El shape_of inside form) s.bare lead from
    short_form (forms.done value) ok low lead way from =
        record {
          value = value;
          filler = [];
          spelled = (refl, refl);
          fills = tt;
          empty = λ h. refl;
          led = λ h. absurd (not_both true h refl);
        }
    short_form (forms.terminal t) ok low lead way from = record {
      value = t.value (example t lead from);
      filler = example t lead from ∷ [];
      spelled = record {
        token = example t lead from;
        member = example_in t lead from way;
        value = refl;
        alone = refl;
      };
      fills = (refl, sample_is_token t.text (and_left _ _ ok), tt);
      empty = λ h. absurd (not_both false refl h);
      led = λ h. record { token = example t lead from; others = []; whole = refl; is = refl };
    }
    short_form (forms.word_but texts value) ok low lead way from = record {
      value = value (fresh_token texts lead from);
      filler = fresh_token texts lead from ∷ [];
      spelled = (
        record {
          token = fresh_token texts lead from;
          member = fresh_member texts lead from;
          value = refl;
          alone = refl;
        },
        fresh_is_other texts,
      );
      fills = (refl, fresh_is_token texts, tt);
      empty = λ h. absurd (not_both false refl h);
      led = λ h. record {
        token = fresh_token texts lead from;
        others = [];
        whole = refl;
        is = refl;
      };
    }
    short_form (forms.followed {A = C} {s = s} {t = t} p f) ok low lead way from =
        let both = and_left _ _ (and_left _ _ ok) in
        let low_s : s.height ≤ depth = omega (arith, le-max_left s.height t.height) in
        let low_t : t.height ≤ depth = omega (arith, le-max_right s.height t.height) in
        by_first s.bare refl (and_left _ _ both) (and_right _ _ both) low_s low_t way
        (short_form p (and_left _ _ both) low_s) (λ a. short_form (f a) (and_right _ _ both) low_t)
      where
        by_first : (b : Bool) → s.bare ≡ b → s.ok ≡ true → t.ok ≡ true → s.height ≤ depth
            → t.height ≤ depth → may (cond b t s) lead ≡ true
            → ((lead : Bool) → may s lead ≡ true → (from : ℕ)
            → Short (spelled El shape_of inside p) s.bare lead from)
            → ((a : C) (lead : Bool) → may t lead ≡ true → (from : ℕ)
            → Short (spelled El shape_of inside (f a)) t.bare lead from)
            → Short (FollowedBy (spelled El shape_of inside p)
            (λ a. spelled El shape_of inside (f a)))
            (s.bare && t.bare) lead from
        by_first true is ok_s ok_t low_s low_t way one two =
            let first = one (some_way s) (way_of s (ways El shape_of p ok_s)) from in
            short_then s t _ _ lead (some_way s) lead from first
            (two first.value lead way (past from first.filler))
            (λ h. absurd (not_both s.bare h is)) (λ h. refl)
        by_first false is ok_s ok_t low_s low_t way one two =
            let first = one lead way from in
            short_then s t _ _ lead lead (some_way t) from first
            (two first.value (some_way t) (way_of t (ways El shape_of (f first.value) ok_t))
            (past from first.filler))
            (λ h. refl) (λ h. absurd (not_both s.bare is h))
    short_form (forms.either {s = s} {t = t} p q) ok low lead way from =
        let three = and_left _ _ (and_left _ _ ok) in let two = and_left _ _ three in
        by_shorter (is_shorter s t) refl low way (short_form p (and_left _ _ two))
        (short_form q (and_right _ _ two))
      where
        by_shorter : (b : Bool) → is_shorter s t ≡ b → (cond b s t).height ≤ depth
            → may (cond b s t) lead ≡ true
            → (s.height ≤ depth → (lead : Bool) → may s lead ≡ true → (from : ℕ)
            → Short (spelled El shape_of inside p) s.bare lead from)
            → (t.height ≤ depth → (lead : Bool) → may t lead ≡ true → (from : ℕ)
            → Short (spelled El shape_of inside q) t.bare lead from)
            → Short (Either (spelled El shape_of inside p) (spelled El shape_of inside q))
            (cond b s t).bare lead from
        by_shorter true is low way one two = relate (λ a ts h. inl h) (one low lead way from)
        by_shorter false is low way one two = relate (λ a ts h. inr h) (two low lead way from)
    short_form (forms.turns is_open state f) ok low lead way from =
        record {
          value = state;
          filler = [];
          spelled = stop state;
          fills = tt;
          empty = λ h. refl;
          led = λ h. absurd (not_both true h refl);
        }
    short_form (forms.until {s = s} {t = t} is_open state f last) ok low lead way from =
        let is = good_ending (is_open state) s t ok in
        by_last is (short_form (last state) is.last low lead (by_way lead way) from)
      where
        by_way : (lead : Bool) → may (ending (is_open state) s t) lead ≡ true
            → may t lead ≡ true
        by_way true way = way
        by_way false way = way

        by_last : GoodEnding (is_open state) s t
            → (one : Short (spelled El shape_of inside (last state)) t.bare lead from)
            → Short (FollowedBy
            (Turns (λ now. Only (is_open now) (spelled El shape_of inside (f now))) state)
            (λ now. Chosen (is_open now) (spelled El shape_of inside (last now)) (NoToken now)))
            false lead from
        by_last is one = record {
          value = one.value;
          filler = one.filler;
          spelled = record {
            value = state;
            left = [];
            right = one.filler;
            first = stop state;
            second = subst (λ b. Chosen b (spelled El shape_of inside (last state)) (NoToken state)
                one.value one.filler) (sym is.goes_on) one.spelled;
            whole = refl;
          };
          fills = one.fills;
          empty = λ h. absurd (not_both false refl h);
          led = λ h. one.led is.solid;
        }
    short_form (forms.more_items state p) ok low lead way from =
        record {
          value = state;
          filler = [];
          spelled = stop state;
          fills = tt;
          empty = λ h. refl;
          led = λ h. absurd (not_both true h refl);
        }
    short_form (forms.some_items {s = s} p) ok low lead way from =
        let is = good_item s ok in
        by_item is (short_form p is.ok low lead (by_way lead way) from)
      where
        by_way : (lead : Bool) → may (listed_some s) lead ≡ true → may s lead ≡ true
        by_way true way = way
        by_way false way = way

        by_item : GoodItem s → (one : Short (spelled El shape_of inside p) s.bare lead from)
            → Short (FollowedBy (OneMore (spelled El shape_of inside p) ([], true))
            (Turns (OneMore (spelled El shape_of inside p)))) false lead from
        by_item is one = record {
          value = (one.value ∷ [], false);
          filler = one.filler;
          spelled = record {
            value = (one.value ∷ [], false);
            left = one.filler;
            right = [];
            first = record {
              value = one.value;
              left = one.filler;
              right = [];
              first = (one.spelled, refl);
              second = record {
                value = false;
                left = [];
                right = [];
                first = inr (refl, refl);
                second = (refl, refl);
                whole = refl;
              };
              whole = sym (append-nil one.filler);
            };
            second = stop (one.value ∷ [], false);
            whole = sym (append-nil one.filler);
          };
          fills = one.fills;
          empty = λ h. absurd (not_both false refl h);
          led = λ h. one.led is.solid;
        }
    short_form (forms.when is_so p q) ok low lead way from =
        let two = and_left _ _ (and_left _ _ (and_left _ _ ok)) in
        relate (λ a ts h. inr h) (short_form q (and_right _ _ two) low lead way from)
    short_form (forms.unless is_so p q) ok low lead way from =
        let two = and_left _ _ (and_left _ _ (and_left _ _ ok)) in
        relate (λ a ts h. inl h) (short_form p (and_left _ _ two) low lead way from)
    short_form (forms.nest t n) ok low lead way from =
        let rest = fill n low (from + length t.text) in
        record {
          value = (t.value (example t lead from), rest.value);
          filler = example t lead from ∷ rest.filler;
          spelled = record {
            value = t.value (example t lead from);
            left = example t lead from ∷ [];
            right = rest.filler;
            first = record {
              token = example t lead from;
              member = example_in t lead from way;
              value = refl;
              alone = refl;
            };
            second = record {
              value = rest.value;
              left = rest.filler;
              right = [];
              first = rest.spelled;
              second = (refl, refl);
              whole = sym (append-nil rest.filler);
            };
            whole = refl;
          };
          fills = (refl, sample_is_token t.text (and_left _ _ (and_left _ _ ok)), rest.fills);
          empty = λ h. absurd (not_both false refl h);
          led = λ h. record {
            token = example t lead from;
            others = rest.filler;
            whole = refl;
            is = refl;
          };
        }
    short_form (forms.line_start {s = s} asked p) ok low true way from =
        let two = and_left _ _ ok in let some = not_true _ (and_right _ _ (and_right _ _ ok)) in
        let one = solidly some (short_form p (and_left _ _ two) low true way from) in
        record {
          value = one.value;
          filler = one.filler;
          spelled = (one.spelled, first_passes asked one.filler (one.led refl));
          fills = one.fills;
          empty = one.empty;
          led = one.led;
        }
    short_form (forms.line_start asked p) ok low false way from = absurd (not_both false refl way)
    short_form (forms.same_line {s = s} p) ok low false way from =
        let two = and_left _ _ ok in let some = not_true _ (and_right _ _ (and_right _ _ ok)) in
        let one = solidly some (short_form p (and_left _ _ two) low false way from) in
        record {
          value = one.value;
          filler = one.filler;
          spelled = (one.spelled, inline_passes one.filler (one.led refl));
          fills = one.fills;
          empty = one.empty;
          led = one.led;
        }
    short_form (forms.same_line p) ok low true way from = absurd (not_both false refl way)
    short_form (forms.shaped {s = s} claim p) ok low lead way from =
        let is = covers s claim ok in
        let height = is.height in
        by_claim is (short_form p is.ok (omega arith) lead (by_lead lead is way) from)
      where
        by_lead : (lead : Bool) → Covers s claim → may (claimed s claim) lead ≡ true
            → may s lead ≡ true
        by_lead true is way = is.begins_line way
        by_lead false is way = is.stays_on_line way

        by_claim : Covers s claim → Short (spelled El shape_of inside p) s.bare lead from
            → Short (spelled El shape_of inside p) claim.bare lead from
        by_claim is one = record {
          value = one.value;
          filler = one.filler;
          spelled = one.spelled;
          fills = one.fills;
          empty = λ h. one.empty (is.bare ∙ h);
          led = λ h. one.led (is.bare ∙ h);
        }

    -- a short spelling of some way
    pub fill_form : {s : Shape} {A : Type 0} (form : Form El shape_of s A) → s.ok ≡ true
        → s.height ≤ depth
        → (from : ℕ) → Filled (spelled El shape_of inside form) [] from
    fill_form {s} form ok low from =
        let one = short_form form ok low (some_way s) (way_of s (ways El shape_of form ok)) from in
        record { value = one.value; filler = one.filler; spelled = one.spelled; fills = one.fills }
