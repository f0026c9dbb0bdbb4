-- What a form's shape says of its spellings: with which tokens they begin, and that there is a
-- short one.
use Rattle.std.proofs.Common.{◌≡◌, ◌≤◌, Bool, true, false, cond, not, ◌||◌, inl, inr, List, [], ◌∷◌}
use Rattle.std.proofs.Common.{◌++◌, refl, sym, ◌∙◌, ap, subst, append_assoc}
use Rattle.std.proofs.lemmas.Bool.{leb-true}
use Rattle.sw_token.specs.Spelling.{Spelled}
use Rattle.sw_grammar_forms.specs.Sets.{Set, has}
use Rattle.sw_grammar_forms.specs.Sets as sets
use Rattle.sw_grammar_forms.specs.Form.{Shape, Claim, Form, one, seq, choice}
use Rattle.sw_grammar_forms.specs.Form.{is_shorter, star, nested, started, inline, claimed, listed}
use Rattle.sw_grammar_forms.specs.Form.{listed_some, a_word, ending, is_usable}
use Rattle.sw_grammar_forms.specs.Form as forms
use Rattle.sw_grammar_forms.specs.Relations.{Relation, head, Turns, stays, spelled, Only, OneMore}
use Rattle.sw_grammar_forms.specs.Relations.{Chosen, NoToken}
use Rattle.sw_grammar_forms.specs.Relations.Turns.{stop, turn}
use Rattle.sw_grammar_forms.proofs.SetLemmas.{and_left, and_right, and_both, or_left, or_right, not_true}
use Rattle.sw_grammar_forms.proofs.SetLemmas.{implied, has-append, has-within, has-not_first}

-- FIRST: a spelling begins with a token of `first`, or is empty where the shape says so

abbrev pub StartsWith : Shape → List Spelled → Type 0
StartsWith s [] = s.nullable ≡ true
StartsWith s (token ∷ _) = has s.first token ≡ true

same_bool : (a b : Bool) → cond a b (not b) ≡ true → a ≡ b
same_bool true true h = refl
same_bool true false h = absurd (cc)
same_bool false true h = absurd (cc)
same_bool false false h = refl

pub in_either : (b : Bool) (set other : Set) (token : Spelled) → has set token ≡ true
    → has (cond b (set ++ other) set) token ≡ true
in_either true set other token h = has-append set other token ∙ or_left _ _ h
in_either false set other token h = h

pub starts_then : (s t : Shape) (us vs : List Spelled) → StartsWith s us → StartsWith t vs
    → StartsWith (seq s t) (us ++ vs)
starts_then s t [] [] h k = and_both _ _ h k
starts_then s t [] (v ∷ vs) h k = ap (λ b. has (cond b (s.first ++ t.first) s.first) v) h
    ∙ (has-append s.first t.first v ∙ or_right _ _ k)
starts_then s t (u ∷ us) vs h k = in_either s.nullable s.first t.first u h

clash : (b : Bool) → b ≡ true → b ≡ false → ⊥
clash b h k = let both : true ≡ false = sym h ∙ k in cc

pub starts_left : (s t short : Shape) (us : List Spelled) → s.nullable ≡ false → StartsWith s us
    → StartsWith (choice s t short) us
starts_left s t short [] some h = absurd (clash _ h some)
starts_left s t short (u ∷ us) some h = has-append s.first t.first u ∙ or_left _ _ h

pub starts_right : (s t short : Shape) (us : List Spelled) → StartsWith t us
    → StartsWith (choice s t short) us
starts_right s t short [] h = h
starts_right s t short (u ∷ us) h = has-append s.first t.first u ∙ or_right _ _ h

starts_turns : {S : Type 0} (s : Shape) (Turn : S → Relation S) → s.nullable ≡ false
    → ((a b : S) (us : List Spelled) → Turn a b us → StartsWith s us)
    → (a b : S) (us : List Spelled) → Turns Turn a b us → StartsWith (star s) us
starts_turns s Turn some each a b us (stop _) = refl
starts_turns s Turn some each a b us (turn _ next _ [] vs h rest) =
    absurd (clash _ (each a next [] h) some)
starts_turns s Turn some each a b us (turn _ next _ (w ∷ ws) vs h rest) = each a next (w ∷ ws) h

pub starts_inline : (s : Shape) (us : List Spelled) → s.nullable ≡ false → stays (head us) ≡ true
    → StartsWith s us → StartsWith (inline s) us
starts_inline s [] some calm h = absurd (clash _ h some)
starts_inline s (u ∷ us) some calm h = has-not_first s.first u (not_true u.first calm) h

pub starts_started : (s : Shape) (us : List Spelled) → s.nullable ≡ false → StartsWith s us
    → StartsWith (started s) us
starts_started s [] some h = absurd (clash _ h some)
starts_started s (u ∷ us) some h = h

-- what a claim that covers a shape says
pub record Covers (s : Shape) (c : Claim) : Type 0 where
  pub ok : s.ok ≡ true
  pub nullable : s.nullable ≡ c.nullable
  pub bare : s.bare ≡ c.bare
  pub first : (token : Spelled) → has s.first token ≡ true → has c.first token ≡ true
  pub ext : (token : Spelled) → has s.ext token ≡ true → has c.ext token ≡ true
  pub height : s.height ≤ c.height
  pub begins_line : c.begins_line ≡ true → s.begins_line ≡ true
  pub stays_on_line : c.stays_on_line ≡ true → s.stays_on_line ≡ true
  pub some : (c.begins_line || c.stays_on_line) ≡ true

pub covers : (s : Shape) (c : Claim) → (claimed s c).ok ≡ true → Covers s c
covers s c h =
    let eight = and_left _ _ h in
    let seven = and_left _ _ eight in
    let six = and_left _ _ seven in
    let five = and_left _ _ six in
    let four = and_left _ _ five in
    let three = and_left _ _ four in
    let two = and_left _ _ three in
    record {
      ok = and_left _ _ two;
      nullable = same_bool _ _ (and_right _ _ two);
      first = λ token k. has-within s.first c.first token (and_right _ _ three) k;
      ext = λ token k. has-within s.ext c.ext token (and_right _ _ four) k;
      bare = same_bool _ _ (and_right _ _ five);
      height = leb-true s.height c.height (and_right _ _ six);
      begins_line = implied _ _ (and_right _ _ seven);
      stays_on_line = implied _ _ (and_right _ _ eight);
      some = and_right _ _ h;
    }

pub starts_held : (s : Shape) (c : Claim) (us : List Spelled) → Covers s c → StartsWith s us
    → StartsWith (claimed s c) us
starts_held s c [] is h = sym is.nullable ∙ h
starts_held s c (u ∷ us) is h = is.first u h

-- what a good choice says
pub record GoodChoice (s t short : Shape) : Type 0 where
  pub left : s.ok ≡ true
  pub right : t.ok ≡ true
  pub some : s.nullable ≡ false
  pub apart : sets.apart s.first t.first ≡ true

pub good_choice : (s t short : Shape) → (choice s t short).ok ≡ true → GoodChoice s t short
good_choice s t short h =
    let four = and_left _ _ h in let three = and_left _ _ four in let two = and_left _ _ three in
    record {
      left = and_left _ _ two;
      right = and_right _ _ two;
      some = not_true _ (and_right _ _ three);
      apart = and_right _ _ four;
    }

-- what good turns with a last form say
pub record GoodEnding (is_open : Bool) (s t : Shape) : Type 0 where
  pub goes_on : is_open ≡ true
  pub turn : s.ok ≡ true
  pub last : t.ok ≡ true
  pub some : s.nullable ≡ false
  pub some_last : t.nullable ≡ false
  pub solid : t.bare ≡ false
  pub going : sets.apart s.ext s.first ≡ true
  pub ending : sets.apart s.ext t.first ≡ true
  pub apart : sets.apart s.first t.first ≡ true
  pub usable : is_usable t ≡ true

pub good_ending : (is_open : Bool) (s t : Shape) → (ending is_open s t).ok ≡ true
    → GoodEnding is_open s t
good_ending is_open s t h =
    let six = and_left _ _ h in let five = and_left _ _ six in let four = and_left _ _ five in
    let three = and_left _ _ four in let two = and_left _ _ three in
    record {
      goes_on = and_left _ _ two;
      turn = and_left _ _ (and_right _ _ two);
      last = and_right _ _ (and_right _ _ two);
      some = not_true _ (and_left _ _ (and_right _ _ three));
      some_last = not_true _ (and_right _ _ (and_right _ _ three));
      solid = not_true _ (and_right _ _ four);
      going = and_left _ _ (and_right _ _ five);
      ending = and_right _ _ (and_right _ _ five);
      apart = and_right _ _ six;
      usable = and_right _ _ h;
    }

pub starts_ending_turn : (is_open : Bool) (s t : Shape) (us vs : List Spelled)
    → s.nullable ≡ false → StartsWith s us → StartsWith (ending is_open s t) (us ++ vs)
starts_ending_turn is_open s t [] vs some h = absurd (clash _ h some)
starts_ending_turn is_open s t (u ∷ us) vs some h = has-append s.first t.first u ∙ or_left _ _ h

pub starts_ending_last : (is_open : Bool) (s t : Shape) (us : List Spelled)
    → t.nullable ≡ false → StartsWith t us → StartsWith (ending is_open s t) us
starts_ending_last is_open s t [] some h = absurd (clash _ h some)
starts_ending_last is_open s t (u ∷ us) some h = has-append s.first t.first u ∙ or_right _ _ h

-- what items that can be distinguished say
pub record GoodItem (s : Shape) : Type 0 where
  pub ok : s.ok ≡ true
  pub some : s.nullable ≡ false
  pub begins_line : s.begins_line ≡ true
  pub solid : s.bare ≡ false
  pub next_line : sets.apart s.ext (sets.first_only s.first) ≡ true
  pub next_mark : sets.apart s.ext forms.semicolon ≡ true
  pub no_mark : sets.apart s.first forms.semicolon ≡ true

pub good_item : (s : Shape) → forms.is_item s ≡ true → GoodItem s
good_item s h =
    let five = and_left _ _ h in let four = and_left _ _ five in let three = and_left _ _ four in
    let two = and_left _ _ three in let line = and_right _ _ three in
    record {
      ok = and_left _ _ two;
      some = not_true _ (and_right _ _ two);
      begins_line = and_left _ _ line;
      solid = not_true _ (and_right _ _ line);
      next_line = and_right _ _ four;
      next_mark = and_right _ _ five;
      no_mark = and_right _ _ h;
    }

starts_more : {A : Type 0} (s : Shape) (P : Relation A) → s.nullable ≡ false
    → ((a : A) (us : List Spelled) → P a us → StartsWith s us)
    → (a b : List A × Bool) (us vs : List Spelled) → OneMore P a b us
    → StartsWith (listed_some s) (us ++ vs)
starts_more s P some each a b us vs h =
    subst (λ ws. StartsWith (listed_some s) (ws ++ vs)) (sym h.whole)
    (by_left h.left (each h.value h.left h.first.0))
  where
    by_left : (left : List Spelled) → StartsWith s left
        → StartsWith (listed_some s) ((left ++ h.right) ++ vs)
    by_left [] k = absurd (clash _ k some)
    by_left (w ∷ ws) k = k

starts_listed : {A : Type 0} (s : Shape) (P : Relation A) → s.nullable ≡ false
    → ((a : A) (us : List Spelled) → P a us → StartsWith s us)
    → (a b : List A × Bool) (us : List Spelled) → Turns (OneMore P) a b us
    → StartsWith (listed s) us
starts_listed s P some each a b us (stop _) = refl
starts_listed s P some each a b us (turn _ next _ ws vs h rest) =
    by_all (ws ++ vs) (starts_more s P some each a next ws vs h)
  where
    by_all : (all : List Spelled) → StartsWith (listed_some s) all → StartsWith (listed s) all
    by_all [] k = refl
    by_all (u ∷ all) k = k

pub Turns-map : {S : Type 0} {One Two : S → Relation S}
    → ((a b : S) (us : List Spelled) → One a b us → Two a b us)
    → (a b : S) (us : List Spelled) → Turns One a b us → Turns Two a b us
Turns-map {S} {One} {Two} each a b us (stop _) = stop a
Turns-map {S} {One} {Two} each a b us (turn _ next _ vs ws h rest) =
    turn a next b vs ws (each a next vs h) (Turns-map each next b ws rest)

pub Chosen-map : {A : Type 0} {P Q : Relation A} (R : Relation A) (b : Bool)
    → ((a : A) (us : List Spelled) → P a us → Q a us) → (a : A) (us : List Spelled)
    → Chosen b P R a us → Chosen b Q R a us
Chosen-map R true more a us h = more a us h
Chosen-map R false more a us h = h

pub OneMore-map : {A : Type 0} {P Q : Relation A} → ((a : A) (us : List Spelled) → P a us → Q a us)
    → (state next : List A × Bool) (us : List Spelled) → OneMore P state next us
    → OneMore Q state next us
OneMore-map {A} {P} {Q} each state next us h = record {
  value = h.value;
  left = h.left;
  right = h.right;
  first = (each h.value h.left h.first.0, h.first.1);
  second = h.second;
  whole = h.whole;
}

module _ {N : Type 0} (El : N → Type 0) (shape_of : N → Shape) where
  pub starts_form : (inside : (n : N) → Relation (El n)) {s : Shape} {A : Type 0}
      (form : Form El shape_of s A) → s.ok ≡ true
      → (a : A) (ts : List Spelled) → spelled El shape_of inside form a ts → StartsWith s ts
  starts_form inside (forms.done value) ok a ts h =
      subst (λ us. StartsWith forms.empty us) (sym h.1) refl
  starts_form inside (forms.terminal t) ok a ts h =
      subst (λ us. StartsWith (one t) us) (sym h.alone) h.member
  starts_form inside (forms.word_but texts value) ok a ts h =
      subst (λ us. StartsWith (one (a_word value)) us) (sym h.0.alone) h.0.member
  starts_form inside (forms.followed {s = s} {t = t} p f) ok b ts h =
      let both = and_left _ _ (and_left _ _ ok) in
      subst (λ us. StartsWith (seq s t) us) (sym h.whole)
      (starts_then s t h.left h.right
      (starts_form inside p (and_left _ _ both) h.value h.left h.first)
      (starts_form inside (f h.value) (and_right _ _ both) b h.right h.second))
  starts_form inside (forms.either {s = s} {t = t} p q) ok a ts (inl h) =
      let three = and_left _ _ (and_left _ _ ok) in let two = and_left _ _ three in
      starts_left s t (cond (is_shorter s t) s t) ts (not_true _ (and_right _ _ three))
      (starts_form inside p (and_left _ _ two) a ts h)
  starts_form inside (forms.either {s = s} {t = t} p q) ok a ts (inr h) =
      let three = and_left _ _ (and_left _ _ ok) in let two = and_left _ _ three in
      starts_right s t (cond (is_shorter s t) s t) ts
      (starts_form inside q (and_right _ _ two) a ts h)
  starts_form inside (forms.turns {s = s} is_open state f) ok a ts h =
      let two = and_left _ _ ok in
      starts_turns s (λ now. Only (is_open now) (spelled El shape_of inside (f now)))
      (not_true _ (and_right _ _ two))
      (λ now next us k. starts_form inside (f now) (and_left _ _ two) next us k.1) state a ts h
  starts_form inside (forms.until {S = S} {s = s} {t = t} is_open state f last) ok a ts h =
      let is = good_ending (is_open state) s t ok in
      subst (λ us. StartsWith (ending (is_open state) s t) us) (sym h.whole)
      (by_turns is (λ now k. starts_form inside (last now) is.last a h.right k)
      (λ next vs k. starts_form inside (f state) is.turn next vs k) h.value h.left h.first
      (is_open h.value) refl h.second)
    where
      by_turns : GoodEnding (is_open state) s t
          → ((now : S) → spelled El shape_of inside (last now) a h.right → StartsWith t h.right)
          → ((next : S) (vs : List Spelled) → spelled El shape_of inside (f state) next vs
          → StartsWith s vs) → (now : S) (us : List Spelled)
          → Turns (λ now. Only (is_open now) (spelled El shape_of inside (f now))) state now us
          → (b : Bool) → is_open now ≡ b
          → Chosen b (spelled El shape_of inside (last now)) (NoToken now) a h.right
          → StartsWith (ending (is_open state) s t) (us ++ h.right)
      by_turns is end part now us (stop _) true same k =
          starts_ending_last (is_open state) s t h.right is.some_last (end state k)
      by_turns is end part now us (stop _) false same k = absurd (clash _ is.goes_on same)
      by_turns is end part now us (turn _ next _ vs ws one others) b same k =
          subst (λ xs. StartsWith (ending (is_open state) s t) xs)
          (sym (append_assoc vs ws h.right))
          (starts_ending_turn (is_open state) s t vs (ws ++ h.right) is.some
          (part next vs one.1))
  starts_form inside (forms.unless {s = s} {t = t} is_so p q) ok a ts (inl h) =
      let three = and_left _ _ (and_left _ _ ok) in let two = and_left _ _ three in
      starts_left s t s ts (not_true _ (and_right _ _ three))
      (starts_form inside p (and_left _ _ two) a ts h)
  starts_form inside (forms.unless {s = s} {t = t} is_so p q) ok a ts (inr h) =
      let three = and_left _ _ (and_left _ _ ok) in let two = and_left _ _ three in
      starts_right s t s ts (starts_form inside q (and_right _ _ two) a ts h.1)
  starts_form inside (forms.more_items {s = s} state p) ok a ts h =
      let is = good_item s ok in
      starts_listed s (spelled El shape_of inside p) is.some (starts_form inside p is.ok) state a ts
      h
  starts_form inside (forms.some_items {s = s} p) ok a ts h =
      let is = good_item s ok in
      subst (λ us. StartsWith (listed_some s) us) (sym h.whole)
      (starts_more s (spelled El shape_of inside p) is.some (starts_form inside p is.ok)
      ([], true) h.value h.left h.right h.first)
  starts_form inside (forms.when {s = s} {t = t} is_so p q) ok a ts (inl h) =
      let three = and_left _ _ (and_left _ _ ok) in let two = and_left _ _ three in
      starts_left s t t ts (not_true _ (and_right _ _ three))
      (starts_form inside p (and_left _ _ two) a ts h.1)
  starts_form inside (forms.when {s = s} {t = t} is_so p q) ok a ts (inr h) =
      let three = and_left _ _ (and_left _ _ ok) in let two = and_left _ _ three in
      starts_right s t t ts (starts_form inside q (and_right _ _ two) a ts h)
  starts_form inside (forms.nest t n) ok a ts h =
      subst (λ us. StartsWith (nested t (shape_of n)) us)
      (sym (h.whole ∙ ap (λ us. us ++ h.right) h.first.alone)) h.first.member
  starts_form inside (forms.line_start {s = s} asked p) ok a ts h =
      let two = and_left _ _ ok in
      starts_started s ts (not_true _ (and_right _ _ two))
      (starts_form inside p (and_left _ _ two) a ts h.0)
  starts_form inside (forms.same_line {s = s} p) ok a ts h =
      let two = and_left _ _ ok in
      starts_inline s ts (not_true _ (and_right _ _ two)) h.1
      (starts_form inside p (and_left _ _ two) a ts h.0)
  starts_form inside (forms.shaped {s = s} claim p) ok a ts h =
      let is = covers s claim ok in starts_held s claim ts is (starts_form inside p is.ok a ts h)

  -- What is spelled with some nests is spelled where the nests spell more.
  pub spelled_more : (inside more : (n : N) → Relation (El n))
      → ((n : N) (x : El n) (ts : List Spelled) → inside n x ts → more n x ts)
      → {s : Shape} {A : Type 0} (form : Form El shape_of s A) (a : A) (ts : List Spelled)
      → spelled El shape_of inside form a ts → spelled El shape_of more form a ts
  spelled_more inside more grows (forms.done value) a ts h = h
  spelled_more inside more grows (forms.terminal t) a ts h = h
  spelled_more inside more grows (forms.word_but texts value) a ts h = h
  spelled_more inside more grows (forms.followed p f) b ts h = record {
    value = h.value;
    left = h.left;
    right = h.right;
    first = spelled_more inside more grows p h.value h.left h.first;
    second = spelled_more inside more grows (f h.value) b h.right h.second;
    whole = h.whole;
  }
  spelled_more inside more grows (forms.either p q) a ts (inl h) =
      inl (spelled_more inside more grows p a ts h)
  spelled_more inside more grows (forms.either p q) a ts (inr h) =
      inr (spelled_more inside more grows q a ts h)
  spelled_more inside more grows (forms.turns is_open state f) a ts h =
      Turns-map (λ now next us k. (k.0, spelled_more inside more grows (f now) next us k.1)) state a
      ts h
  spelled_more inside more grows (forms.until is_open state f last) a ts h = record {
    value = h.value;
    left = h.left;
    right = h.right;
    first = Turns-map (λ now next us k. (k.0, spelled_more inside more grows (f now) next us k.1))
        state h.value h.left h.first;
    second = Chosen-map (NoToken h.value) (is_open h.value) (spelled_more inside more grows (last h.value)) a h.right
        h.second;
    whole = h.whole;
  }
  spelled_more inside more grows (forms.unless is_so p q) a ts (inl h) =
      inl (spelled_more inside more grows p a ts h)
  spelled_more inside more grows (forms.unless is_so p q) a ts (inr h) =
      inr (h.0, spelled_more inside more grows q a ts h.1)
  spelled_more inside more grows (forms.more_items state p) a ts h =
      Turns-map (OneMore-map (spelled_more inside more grows p)) state a ts h
  spelled_more inside more grows (forms.some_items p) a ts h = record {
    value = h.value;
    left = h.left;
    right = h.right;
    first = OneMore-map (spelled_more inside more grows p) ([], true) h.value h.left h.first;
    second = Turns-map (OneMore-map (spelled_more inside more grows p)) h.value a h.right h.second;
    whole = h.whole;
  }
  spelled_more inside more grows (forms.when is_so p q) a ts (inl h) =
      inl (h.0, spelled_more inside more grows p a ts h.1)
  spelled_more inside more grows (forms.when is_so p q) a ts (inr h) =
      inr (spelled_more inside more grows q a ts h)
  spelled_more inside more grows (forms.nest t n) a ts h = record {
    value = h.value;
    left = h.left;
    right = h.right;
    first = h.first;
    second = record {
      value = h.second.value;
      left = h.second.left;
      right = h.second.right;
      first = grows n h.second.value h.second.left h.second.first;
      second = h.second.second;
      whole = h.second.whole;
    };
    whole = h.whole;
  }
  spelled_more inside more grows (forms.line_start asked p) a ts h =
      (spelled_more inside more grows p a ts h.0, h.1)
  spelled_more inside more grows (forms.same_line p) a ts h =
      (spelled_more inside more grows p a ts h.0, h.1)
  spelled_more inside more grows (forms.shaped claim p) a ts h =
      spelled_more inside more grows p a ts h
