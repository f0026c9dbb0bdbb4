-- Beginnings of lists, and numbers at the beginning of bytes.
use Rattle.std.proofs.Common.{◌≡◌, ℕ, ◌≤◌, true, false, append_assoc, List, [], ◌∷◌, ◌++◌, length}
use Rattle.std.proofs.Common.{refl, sym, ap, ◌∙◌, arith}
use Rattle.std.specs.List.{list_all}
use Rattle.std.proofs.lemmas.Bool.{eq-eqb, and_parts, both_ways}
use Rattle.sw_scan.specs.Classes.{is_digit}
use Rattle.sw_dictation.specs.Numbers.{spelled, common_len}
use Rattle.sw_dictation.specs.Numerals.{numeral}
use Rattle.sw_dictation.proofs.Numerals.{numeral_digits, one_numeral}

-- of two beginnings of a list the shorter one is one of the other
pub shorter : {A : Type 0} (xs ys us vs : List A) → xs ++ us ≡ ys ++ vs → length xs ≤ length ys
    → (ws : List A) × (ys ≡ xs ++ ws)
shorter [] ys us vs e le = (ys, refl)
shorter (x ∷ xs) [] us vs e le = absurd (omega (arith, le))
shorter (x ∷ xs) (y ∷ ys) us vs e le =
    let heads : x ≡ y = cc in
    let tails : xs ++ us ≡ ys ++ vs = cc in
    let h = shorter xs ys us vs tails (omega (arith, le)) in
    (h.0, ap (λ z. z ∷ ys) (sym heads) ∙ ap (λ l. x ∷ l) h.1)

-- two lists have at least as much in common as a beginning of both
pub common_beginning : (us xs ys : List ℕ) → length us ≤ common_len (us ++ xs) (us ++ ys)
common_beginning [] xs ys = omega arith
common_beginning (u ∷ us) xs ys = rw (eq-eqb u u refl) (omega (arith, common_beginning us xs ys))

all_head : (x : ℕ) (xs : List ℕ) → list_all is_digit (x ∷ xs) ≡ true → is_digit x ≡ true
all_head x xs h = (and_parts (is_digit x) (list_all is_digit xs) h).0

all_tail : (x : ℕ) (xs : List ℕ) → list_all is_digit (x ∷ xs) ≡ true → list_all is_digit xs ≡ true
all_tail x xs h = (and_parts (is_digit x) (list_all is_digit xs) h).1

-- Digits and then a byte that is none are read in one way.
one_run : (ds es : List ℕ) (c f : ℕ) (rest more : List ℕ) → list_all is_digit ds ≡ true
    → list_all is_digit es ≡ true → is_digit c ≡ false → is_digit f ≡ false
    → ds ++ c ∷ rest ≡ es ++ f ∷ more → (ds ≡ es) × (c ≡ f) × (rest ≡ more)
one_run [] [] c f rest more d e c_not f_not same = (refl, cc, cc)
one_run [] (x ∷ es) c f rest more d e c_not f_not same =
    let head : c ≡ x = cc in
    absurd (both_ways (is_digit c) c_not (ap is_digit head ∙ all_head x es e))
one_run (x ∷ ds) [] c f rest more d e c_not f_not same =
    let head : f ≡ x = cc in
    absurd (both_ways (is_digit f) f_not (ap is_digit head ∙ all_head x ds d))
one_run (x ∷ ds) (y ∷ es) c f rest more d e c_not f_not same =
    let heads : x ≡ y = cc in
    let tails : ds ++ c ∷ rest ≡ es ++ f ∷ more = cc in
    let h = one_run ds es c f rest more (all_tail x ds d) (all_tail y es e) c_not f_not tails in
    (ap (λ z. z ∷ ds) heads ∙ ap (λ l. y ∷ l) h.0, h.1, h.2)

-- a number and the byte that closes it are read in one way
pub one_number : (m n c f : ℕ) (rest more : List ℕ) → is_digit c ≡ false → is_digit f ≡ false
    → spelled m c ++ rest ≡ spelled n f ++ more → (m ≡ n) × (c ≡ f) × (rest ≡ more)
one_number m n c f rest more c_not f_not same =
    let h = one_run (numeral m) (numeral n) c f rest more (numeral_digits m) (numeral_digits n)
    c_not f_not
    (sym (append_assoc (numeral m) (c ∷ []) rest) ∙ same
    ∙ append_assoc (numeral n) (f ∷ []) more) in
    (one_numeral m n h.0, h.1, h.2)
