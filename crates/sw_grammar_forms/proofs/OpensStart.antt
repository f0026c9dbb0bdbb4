-- With which tokens those begin of which `opens` is said.
use Rattle.std.proofs.Common.{◌≡◌, ◌<◌, true, false, cond, inl, inr, List, [], ◌∷◌, ◌++◌, length}
use Rattle.std.proofs.Common.{refl, sym, subst, append_assoc, arith, length-append}
use Rattle.std.proofs.Common.{Bool, not, ◌∙◌}
use Rattle.std.proofs.lemmas.List.{append-nil}
use Rattle.sw_token.specs.Spelling.{Spelled}
use Rattle.sw_grammar_forms.specs.Sets.{has}
use Rattle.sw_grammar_forms.specs.Form.{Shape, Form, seq, star, listed, nested, is_shorter, listed_some}
use Rattle.sw_grammar_forms.specs.Form.{ending}
use Rattle.sw_grammar_forms.specs.Form as forms
use Rattle.sw_grammar_forms.specs.Relations.{Relation, head, Turns, Only, OneMore, may_start}
use Rattle.sw_grammar_forms.specs.Relations.Turns.{stop, turn}
use Rattle.sw_grammar_forms.specs.Spells.{inside, Wide}
use Rattle.sw_grammar_forms.specs.Opens.{Saying, After, opens_in}
use Rattle.sw_grammar_forms.proofs.SetLemmas.{and_left, and_right, not_true, has-append, or_left}
use Rattle.sw_grammar_forms.proofs.FormLemmas.{StartsWith, in_either, starts_then, starts_left}
use Rattle.sw_grammar_forms.proofs.FormLemmas.{starts_right, starts_inline, starts_started, starts_held}
use Rattle.sw_grammar_forms.proofs.FormLemmas.{covers, good_item, good_choice, starts_form}
use Rattle.sw_grammar_forms.proofs.FormLemmas.{GoodEnding, good_ending, starts_ending_turn}
use Rattle.sw_grammar_forms.proofs.FormLemmas.{starts_ending_last}
use Rattle.sw_grammar_forms.proofs.FollowLemmas.{some_length}

-- some tokens, which begin as those of the shape
abbrev pub Leads : Shape → Saying
Leads s us = (0 < length us) × StartsWith s us

then_leads : (s t : Shape) (us : List Spelled) → Leads s us → Leads (seq s t) us
then_leads s t [] h = absurd (let some = h.0 in omega arith)
then_leads s t (u ∷ us) h = (h.0, in_either s.nullable s.first t.first u h.1)

after_leads : (s t : Shape) (us vs : List Spelled) → StartsWith s us → Leads t vs
    → Leads (seq s t) (us ++ vs)
after_leads s t us vs h k =
    let some = k.0 in
    (omega (arith, length-append us vs), starts_then s t us vs h k.1)

-- the first of the tokens is that of the first turn
first_leads : (s t : Shape) (us vs : List Spelled) → s.first ≡ t.first → Leads s us
    → Leads t (us ++ vs)
first_leads s t [] vs same h = absurd (let some = h.0 in omega arith)
first_leads s t (u ∷ us) vs same h = (omega arith, subst (λ set. has set u ≡ true) same h.1)

-- a turn before the last form
ending_turn : (is_open : Bool) (s t : Shape) (us : List Spelled) → Leads s us
    → Leads (ending is_open s t) us
ending_turn is_open s t [] h = absurd (let some = h.0 in omega arith)
ending_turn is_open s t (u ∷ us) h = (h.0, has-append s.first t.first u ∙ or_left _ _ h.1)

module _ {N : Type 0} (El : N → Type 0) (shape_of : N → Shape)
    (body : (n : N) → Form El shape_of (shape_of n) (El n)) (into : (n : N) → Saying) where
  abbrev W : {s : Shape} {A : Type 0} → Form El shape_of s A → Relation A
  W form = Wide El shape_of body form

  wide_starts : {s : Shape} {A : Type 0} (form : Form El shape_of s A) → s.ok ≡ true → (a : A)
      (us : List Spelled) → W form a us → StartsWith s us
  wide_starts form ok a us h =
      starts_form El shape_of (inside El shape_of body h.0) form ok a us h.1

  turns_lead : {S : Type 0} (s t : Shape) (One : S → Relation S) (O : S → Saying)
      → s.first ≡ t.first → ((a b : S) (us : List Spelled) → One a b us → Leads s us)
      → ((a : S) (us : List Spelled) → O a us → Leads s us) → (state : S) (us : List Spelled)
      → After (Turns One state) O us → Leads t us
  turns_lead {S} s t One O same each last state us h =
      subst (Leads t) (sym h.whole) (by_turns h.value h.left h.first h.last)
    where
      by_turns : (b : S) (ls : List Spelled) → Turns One state b ls → O b h.right
          → Leads t (ls ++ h.right)
      by_turns b ls (stop _) k =
          subst (Leads t) (append-nil h.right)
          (first_leads s t h.right [] same (last state h.right k))
      by_turns b ls (turn _ next _ vs ws one others) k =
          subst (Leads t) (sym (append_assoc vs ws h.right))
          (first_leads s t vs (ws ++ h.right) same (each state next vs one))

  item_leads : {A : Type 0} (s : Shape) (P : Relation A) → s.nullable ≡ false
      → ((a : A) (us : List Spelled) → P a us → StartsWith s us) → (a b : List A × Bool)
      (us : List Spelled) → OneMore P a b us → Leads s us
  item_leads s P some each a b us h =
      let starts = each h.value h.left h.first.0 in
      subst (Leads s) (sym h.whole)
      (first_leads s s h.left h.right refl (some_length s h.left some starts, starts))

  pub leads : {s : Shape} {A : Type 0} (form : Form El shape_of s A) → s.ok ≡ true
      → (us : List Spelled) → opens_in El shape_of body into form us → Leads s us
  leads (forms.done value) ok us h = absurd h
  leads (forms.terminal t) ok us h = absurd h
  leads (forms.word_but texts value) ok us h = absurd h
  leads (forms.followed {s = s} {t = t} p f) ok us (inl h) =
      then_leads s t us (leads p (and_left _ _ (and_left _ _ (and_left _ _ ok))) us h)
  leads (forms.followed {s = s} {t = t} p f) ok us (inr h) =
      let both = and_left _ _ (and_left _ _ ok) in
      subst (Leads (seq s t)) (sym h.whole)
      (after_leads s t h.left h.right (wide_starts p (and_left _ _ both) h.value h.left h.first)
      (leads (f h.value) (and_right _ _ both) h.right h.last))
  leads (forms.either {s = s} {t = t} p q) ok us (inl h) =
      let is = good_choice s t (cond (is_shorter s t) s t) ok in
      let one = leads p is.left us h in
      (one.0, starts_left s t (cond (is_shorter s t) s t) us is.some one.1)
  leads (forms.either {s = s} {t = t} p q) ok us (inr h) =
      let is = good_choice s t (cond (is_shorter s t) s t) ok in
      let one = leads q is.right us h in
      (one.0, starts_right s t (cond (is_shorter s t) s t) us one.1)
  leads (forms.turns {s = s} is_open state f) ok us h =
      let two = and_left _ _ ok in
      let some = not_true _ (and_right _ _ two) in
      turns_lead s (star s) (λ now. Only (is_open now) (W (f now)))
      (λ now vs. (is_open now ≡ true) × opens_in El shape_of body into (f now) vs) refl
      (λ a b vs k.
      let starts = wide_starts (f a) (and_left _ _ two) b vs k.1 in
      (some_length s vs some starts, starts))
      (λ a vs k. leads (f a) (and_left _ _ two) vs k.1) state us h
  leads (forms.until {s = s} {t = t} is_open state f last) ok us (inl h) =
      let is = good_ending (is_open state) s t ok in
      ending_turn (is_open state) s t us (turns_lead s s
      (λ now. Only (is_open now) (W (f now)))
      (λ now vs. (is_open now ≡ true) × opens_in El shape_of body into (f now) vs) refl
      (λ a b vs k.
      let starts = wide_starts (f a) is.turn b vs k.1 in
      (some_length s vs is.some starts, starts))
      (λ a vs k. leads (f a) is.turn vs k.1) state us h)
  leads (forms.until {S = S} {s = s} {t = t} is_open state f last) ok us (inr h) =
      let is = good_ending (is_open state) s t ok in
      subst (Leads (ending (is_open state) s t)) (sym h.whole)
      (by_turns is (λ now k. leads (last now) is.last h.right k) h.value h.left h.first h.last)
    where
      by_turns : GoodEnding (is_open state) s t
          → ((now : S) → opens_in El shape_of body into (last now) h.right → Leads t h.right)
          → (now : S) (ls : List Spelled)
          → Turns (λ now. Only (is_open now) (W (f now))) state now ls
          → (is_open now ≡ true) × opens_in El shape_of body into (last now) h.right
          → Leads (ending (is_open state) s t) (ls ++ h.right)
      by_turns is end now ls (stop _) k =
          let one = end now k.1 in
          (one.0, starts_ending_last (is_open state) s t h.right is.some_last one.1)
      by_turns is end now ls (turn _ next _ vs ws one others) k =
          let starts = wide_starts (f state) is.turn next vs one.1 in
          let some = some_length s vs is.some starts in
          subst (Leads (ending (is_open state) s t)) (sym (append_assoc vs ws h.right)) (
            omega (arith, length-append vs (ws ++ h.right)),
            starts_ending_turn (is_open state) s t vs (ws ++ h.right) is.some starts,
          )
  leads (forms.more_items {s = s} state p) ok us h =
      let is = good_item s ok in
      turns_lead s (listed s) (OneMore (W p))
      (λ now vs. opens_in El shape_of body into p vs
      × (may_start (not now.1) (head vs) ≡ true)) refl
      (item_leads s (W p) is.some (wide_starts p is.ok)) (λ a vs k. leads p is.ok vs k.0) state us h
  leads (forms.some_items {s = s} p) ok us h =
      let is = good_item s ok in
      turns_lead s (listed_some s) (OneMore (W p))
      (λ now vs. opens_in El shape_of body into p vs
      × (may_start (not now.1) (head vs) ≡ true)) refl
      (item_leads s (W p) is.some (wide_starts p is.ok)) (λ a vs k. leads p is.ok vs k.0)
      ([], true) us h
  leads (forms.when {s = s} {t = t} is_so p q) ok us (inl h) =
      let is = good_choice s t t ok in
      let one = leads p is.left us h.1 in
      (one.0, starts_left s t t us is.some one.1)
  leads (forms.when {s = s} {t = t} is_so p q) ok us (inr h) =
      let is = good_choice s t t ok in
      let one = leads q is.right us h in
      (one.0, starts_right s t t us one.1)
  leads (forms.unless {s = s} {t = t} is_so p q) ok us (inl h) =
      let is = good_choice s t s ok in
      let one = leads p is.left us h in
      (one.0, starts_left s t s us is.some one.1)
  leads (forms.unless {s = s} {t = t} is_so p q) ok us (inr h) =
      let is = good_choice s t s ok in
      let one = leads q is.right us h.1 in
      (one.0, starts_right s t s us one.1)
  leads (forms.nest t n) ok us h =
      subst (Leads (nested t (shape_of n))) (sym h.whole) (omega arith, h.member)
  leads (forms.line_start {s = s} asked p) ok us h =
      let two = and_left _ _ ok in
      let one = leads p (and_left _ _ two) us h.0 in
      (one.0, starts_started s us (not_true _ (and_right _ _ two)) one.1)
  leads (forms.same_line {s = s} p) ok us h =
      let two = and_left _ _ ok in
      let one = leads p (and_left _ _ two) us h.0 in
      (one.0, starts_inline s us (not_true _ (and_right _ _ two)) h.1 one.1)
  leads (forms.shaped {s = s} claim p) ok us h =
      let is = covers s claim ok in
      let one = leads p is.ok us h in
      (one.0, starts_held s claim us is one.1)
