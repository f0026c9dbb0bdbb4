-- Where a number first stands.
use Rattle.std.proofs.Common.{◌≡◌, ℕ, suc, ◌+◌, ◌==◌, ◌<◌, Bool, true, false, List}
use Rattle.std.proofs.Common.{[], ◌∷◌, ◌++◌, Option, Some, None, length, refl, sym, ◌∙◌}
use Rattle.std.proofs.Common.{ap, subst, is_some, nat_eq, arith, ◌||◌}
use Rattle.std.specs.Prelude.{if◌then◌else◌}
use Rattle.std.specs.Option.{option_eq, option_map}
use Rattle.std.proofs.lemmas.Bool.{false≢true, eqb-true, eq-eqb}
use Rattle.sw_isolation_rules.specs.Captures.{is_among}
use Rattle.sw_isolation_captures.specs.Places.{first_place}

abbrev later : Option ℕ → Option ℕ
later place = option_map (λ place. place + 1) place

-- the place in a list to which one more is added
abbrev pub or_last : Option ℕ → Bool → ℕ → Option ℕ
or_last None same last = if same then Some last else None
or_last (Some place) same last = Some place

later_last : (place : Option ℕ) (same : Bool) (last : ℕ)
    → later (or_last place same last) ≡ or_last (later place) same (last + 1)
later_last None true last = refl
later_last None false last = refl
later_last (Some place) same last = refl

first_more_by : (b : Bool) (place : Option ℕ) (same : Bool) (last : ℕ)
    → (if b then Some 0 else later (or_last place same last))
    ≡ or_last (if b then Some 0 else later place) same (last + 1)
first_more_by true place same last = refl
first_more_by false place same last = later_last place same last

-- the place of a number once one more is added
pub first_more : (xs : List ℕ) (x number : ℕ) → first_place (xs ++ x ∷ []) number
    ≡ or_last (first_place xs number) (x == number) (length xs)
first_more [] x number = nothing (x == number)
  where
    nothing : (b : Bool) → (if b then Some 0 else later None) ≡ (if b then Some 0 else None)
    nothing true = refl
    nothing false = refl
first_more (y ∷ xs) x number =
    ap (λ place. if y == number then Some 0 else later place) (first_more xs x number)
    ∙ (first_more_by (y == number) (first_place xs number) (x == number) (length xs)
    ∙ ap (or_last (first_place (y ∷ xs) number) (x == number)) more)
  where
    more : length xs + 1 ≡ suc (length xs)
    more = omega arith

-- it has a place where it is in the list
pub among_place : (xs : List ℕ) (number : ℕ) → is_some (first_place xs number) ≡ is_among xs number
among_place [] number = refl
among_place (x ∷ xs) number =
    by (x == number) (first_place xs number) ∙ ap (λ b. (x == number) || b) (among_place xs number)
  where
    by : (b : Bool) (place : Option ℕ)
        → is_some (if b then Some 0 else later place) ≡ (b || is_some place)
    by true place = refl
    by false None = refl
    by false (Some place) = refl

-- which is within the list
pub place_within : (xs : List ℕ) (number place : ℕ) → first_place xs number ≡ Some place
    → place < length xs
place_within [] number place e = absurd (cc)
place_within (x ∷ xs) number place e =
    by (x == number) (first_place xs number) (λ inner. place_within xs number inner) e
  where
    by : (b : Bool) (rest : Option ℕ) → ((inner : ℕ) → rest ≡ Some inner → inner < length xs)
        → (if b then Some 0 else later rest) ≡ Some place → place < suc (length xs)
    by true rest inner e = let same : 0 ≡ place = cc in omega arith
    by false None inner e = absurd (cc)
    by false (Some one) inner e =
        let same : one + 1 ≡ place = cc in
        let less = inner one refl in omega arith

last_other : (place : Option ℕ) (last : ℕ) → or_last place false last ≡ place
last_other None last = refl
last_other (Some place) last = refl

-- The table of first places once a number is added that is in the list.
pub added_again : (xs after : List ℕ) (x : ℕ) (table : ℕ → Option ℕ)
    → ((number : ℕ) → table number ≡ first_place xs number) → after ≡ xs ++ x ∷ []
    → is_some (table x) ≡ true → (number : ℕ) → table number ≡ first_place after number
added_again xs after x table is more found number =
    is number ∙ (sym (by (x == number) refl (first_place xs number) refl)
    ∙ (sym (first_more xs x number) ∙ ap (λ list. first_place list number) (sym more)))
  where
    by : (b : Bool) → (x == number) ≡ b → (place : Option ℕ) → first_place xs number ≡ place
        → or_last place b (length xs) ≡ place
    by b same (Some place) e = refl
    by false other None e = refl
    by true same None e =
        let there : is_some (table number) ≡ true =
        subst (λ n. is_some (table n) ≡ true) (eqb-true x number same) found in
        let none : is_some (table number) ≡ false = ap is_some (is number ∙ e) in
        absurd (false≢true (sym none ∙ there))

-- The table once one is added that isn't in it.
pub added : (xs after : List ℕ) (x place : ℕ) (table next : ℕ → Option ℕ)
    → ((number : ℕ) → table number ≡ first_place xs number) → after ≡ xs ++ x ∷ []
    → place ≡ length xs → is_some (table x) ≡ false
    → ((number : ℕ) → next number ≡ (if x == number then Some place else table number))
    → (number : ℕ) → next number ≡ first_place after number
added xs after x place table next is more last new now number =
    now number ∙ (by (x == number) refl (first_place xs number) refl
    ∙ (sym (first_more xs x number) ∙ ap (λ list. first_place list number) (sym more)))
  where
    by : (b : Bool) → (x == number) ≡ b → (found : Option ℕ) → first_place xs number ≡ found
        → (if b then Some place else table number) ≡ or_last found b (length xs)
    by true same None e = ap Some last
    by true same (Some one) e =
        let none : is_some (table number) ≡ false =
        subst (λ n. is_some (table n) ≡ false) (eqb-true x number same) new in
        let there : is_some (table number) ≡ true = ap is_some (is number ∙ e) in
        absurd (false≢true (sym none ∙ there))
    by false other found e = is number ∙ (e ∙ sym (last_other found (length xs)))

same_place : (found : Option ℕ) (place : ℕ) → option_eq nat_eq found (Some place) ≡ true
    → found ≡ Some place
same_place None place e = absurd (false≢true e)
same_place (Some one) place e = ap Some (eqb-true one place e)

is_more : (before xs : List ℕ) (x : ℕ) (table : ℕ → Option ℕ)
    → ((number : ℕ) → table number ≡ first_place before number) → before ≡ xs ++ x ∷ []
    → (one : ℕ) → table one ≡ or_last (first_place xs one) (x == one) (length xs)
is_more before xs x table is made one =
    is one ∙ (ap (λ list. first_place list one) made ∙ first_more xs x one)

absent : (xs : List ℕ) (x : ℕ) (same : Bool) (found : Option ℕ) → first_place xs x ≡ found
    → Some (length xs) ≡ or_last found same (length xs) → found ≡ None
absent xs x same None e here = refl
absent xs x same (Some place) e here =
    let is : length xs ≡ place = cc in
    let within = place_within xs x place e in absurd (omega arith)

-- The table once the last is left, where it is the first of its number.
pub left : (before xs : List ℕ) (x place : ℕ) (held : Option ℕ) (table next : ℕ → Option ℕ)
    → ((number : ℕ) → table number ≡ first_place before number) → before ≡ xs ++ x ∷ []
    → place ≡ length xs → held ≡ table x → option_eq nat_eq held (Some place) ≡ true
    → ((number : ℕ) → next number ≡ (if x == number then None else table number))
    → (number : ℕ) → next number ≡ first_place xs number
left before xs x place held table next is made last holds test now number =
    now number ∙ by (x == number) refl
  where
    all : (one : ℕ) → table one ≡ or_last (first_place xs one) (x == one) (length xs)
    all = is_more before xs x table is made

    here : Some (length xs) ≡ or_last (first_place xs x) (x == x) (length xs)
    here = sym (ap Some last) ∙ (sym (same_place held place test) ∙ (holds ∙ all x))

    by : (b : Bool) → (x == number) ≡ b
        → (if b then None else table number) ≡ first_place xs number
    by true same =
        sym (subst (λ n. first_place xs n ≡ None) (eqb-true x number same)
        (absent xs x (x == x) (first_place xs x) refl here))
    by false other =
        all number
        ∙ (ap (λ b. or_last (first_place xs number) b (length xs)) other
        ∙ last_other (first_place xs number) (length xs))

-- The table once one is left that stands before too.
pub left_again : (before xs : List ℕ) (x place : ℕ) (held : Option ℕ) (table : ℕ → Option ℕ)
    → ((number : ℕ) → table number ≡ first_place before number) → before ≡ xs ++ x ∷ []
    → place ≡ length xs → held ≡ table x → option_eq nat_eq held (Some place) ≡ false
    → (number : ℕ) → table number ≡ first_place xs number
left_again before xs x place held table is made last holds test number =
    all number ∙ by (x == number) refl (first_place xs number) refl
  where
    all : (one : ℕ) → table one ≡ or_last (first_place xs one) (x == one) (length xs)
    all = is_more before xs x table is made

    by : (b : Bool) → (x == number) ≡ b → (found : Option ℕ) → first_place xs number ≡ found
        → or_last found b (length xs) ≡ found
    by b same (Some one) e = refl
    by false same None e = refl
    by true same None e =
        let there : table number ≡ Some (length xs) =
        all number ∙ (ap (λ b. or_last (first_place xs number) b (length xs)) same
        ∙ ap (λ found. or_last found true (length xs)) e) in
        let is_held : held ≡ Some place =
        holds ∙ (ap table (eqb-true x number same) ∙ (there ∙ sym (ap Some last))) in
        absurd (false≢true (sym test
        ∙ (ap (λ found. option_eq nat_eq found (Some place)) is_held ∙ eq-eqb place place refl)))
