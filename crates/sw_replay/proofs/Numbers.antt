-- The number that digits spell, one digit further.
use Rattle.std.proofs.Common.{◌≡◌, ℕ, suc, ◌+◌, ◌-◌, ◌*◌, ◌^◌, ◌<◌, ◌≤◌, true, false, List, [], ◌∷◌}
use Rattle.std.proofs.Common.{length, get_or, drop, Some, None, ltb, arith, refl, sym, ap, ◌∙◌}
use Rattle.std.proofs.Common.{add-one, drop-cons}
use Rattle.std.proofs.lemmas.List.{drop_all}
use Rattle.std.specs.List.{fold}
use Rattle.std.proofs.lemmas.Bool.Decides.{nat_tests}
use Rattle.sw_scan.specs.Decimal.{number_of}
use Rattle.sw_replay.specs.Reading.{fitting}

-- the number of digits that follow digits with that number
pub number_from : ℕ → List ℕ → ℕ
number_from number digits = fold (λ number digit. number * 10 + (digit - 48)) number digits

pub number_from-zero : (digits : List ℕ) → number_from 0 digits ≡ number_of digits
unfolding number_from number_of
number_from-zero digits = refl

pub number_from-nil : (number : ℕ) → number_from number [] ≡ number
unfolding number_from
number_from-nil number = refl

pub number_from-cons : (number digit : ℕ) (digits : List ℕ)
    → number_from number (digit ∷ digits) ≡ number_from (number * 10 + (digit - 48)) digits
unfolding number_from
number_from-cons number digit digits = refl

-- one more digit
pub number_from-drop : (number : ℕ) (digits : List ℕ) (n : ℕ) → n < length digits
    → number_from number (drop n digits)
    ≡ number_from (number * 10 + (get_or digits n 0 - 48)) (drop (n + 1) digits)
number_from-drop number digits n inside =
    rw (add-one, drop-cons digits n 0)
    (number_from-cons number (get_or digits n 0) (drop (suc n) digits))

-- more digits make no number less
pub number_from-grows : (digits : List ℕ) (number : ℕ) → number ≤ number_from number digits
number_from-grows [] number = rw number_from-nil (omega arith)
number_from-grows (digit ∷ digits) number =
    let more = number_from-grows digits (number * 10 + (digit - 48)) in
    rw number_from-cons (omega arith)

-- numbers that fit an item

pub fits_some : (n : ℕ) → n < 2 ^ 32 → fitting n ≡ Some n
fits_some n h = (let t : ltb n (2 ^ 32) ≡ true = grind (arith, nat_tests) in rw t refl)

pub fits_none : (n : ℕ) → 2 ^ 32 ≤ n → fitting n ≡ None
fits_none n h = (let t : ltb n (2 ^ 32) ≡ false = grind (arith, nat_tests) in rw t refl)

-- the number so far, with one more digit, has more than 32 bits: so the whole number has
pub grown_too_big : (digits : List ℕ) (n number : ℕ) → n < length digits
    → number_from number (drop n digits) ≡ number_of digits
    → 2 ^ 32 ≤ number * 10 + (get_or digits n 0 - 48) → fitting (number_of digits) ≡ None
grown_too_big digits n number inside so_far more =
    let step = number_from-drop number digits n inside in
    let grows = number_from-grows (drop (n + 1) digits) (number * 10 + (get_or digits n 0 - 48)) in
    fits_none (number_of digits) (omega arith)

-- no digit is left
pub number_done : (digits : List ℕ) (n number : ℕ) → length digits ≤ n
    → number_from number (drop n digits) ≡ number_of digits → number < 2 ^ 32
    → Some number ≡ fitting (number_of digits)
number_done digits n number past so_far small =
    let none : drop n digits ≡ [] = drop_all n digits past in
    let whole : number ≡ number_of digits =
    sym (number_from-nil number) ∙ (ap (number_from number) (sym none) ∙ so_far) in
    let fits : number_of digits < 2 ^ 32 = omega arith in
    ap Some whole ∙ sym (fits_some (number_of digits) fits)
