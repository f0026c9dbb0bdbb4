-- The number that bytes begin with: what the definitions say of it is found, and the other way
-- round.
use Rattle.std.proofs.Common.{◌≡◌, ℕ, ◌^◌, ◌<◌, ◌≤◌, Bool, true, false, eqb, ltb, List, [], ◌∷◌}
use Rattle.std.proofs.Common.{◌++◌, length, take, drop, Ok, Err, refl, sym, ap, ◌∙◌, inl, inr}
use Rattle.std.proofs.Common.{arith}
use Rattle.std.specs.List.{list_all, prefix_len}
use Rattle.std.proofs.lemmas.Bool.{cases_Bool, and_parts}
use Rattle.std.proofs.lemmas.Bool.Decides.{nat_tests}
use Rattle.std.proofs.lemmas.List.{length-take-le, take_at, take-append-drop}
use Rattle.std.proofs.lemmas.List.Sums.{prefix_len-le-length}
use Rattle.sw_scan.specs.Classes.{is_blank, is_digit}
use Rattle.sw_scan.specs.Decimal.{number_of}
use Rattle.sw_scan.specs.Prefixes.{BeginsWithout}
use Rattle.sw_scan.proofs.Prefixes.{prefix_passes, suffix_fails, prefix_len-append, prefix_len-yes}
use Rattle.sw_scan.proofs.Prefixes.{prefix_len-no}
use Rattle.sw_replay.specs.declared.text.SchedFault.TheVariants.{BadItem, TooBig}
use Rattle.sw_replay.specs.Items.{IsNumber, IsFitting}
use Rattle.sw_replay.specs.Reading.{fitting, number_by, number_at}
use Rattle.sw_replay.proofs.Numbers.{fits_some, fits_none}

pub digit_is_no_separator : (b : ℕ) → is_digit b ≡ true → is_blank b ≡ false
unfolding is_digit is_blank
digit_is_no_separator b h = grind (arith, nat_tests)

-- a number begins with a digit, and so with no separator
pub number_begins : (digits after : List ℕ) → IsNumber digits after
    → (b : ℕ) × (more : List ℕ) × (digits ≡ b ∷ more) × (is_blank b ≡ false)
number_begins [] after n = absurd (omega (arith, n.some))
number_begins (b ∷ more) after n =
    let digit = (and_parts (is_digit b) (list_all is_digit more) n.digits_alone).0 in
    (b, more, refl, digit_is_no_separator b digit)

pub number_len : (digits after : List ℕ) → IsNumber digits after
    → prefix_len is_digit (digits ++ after) ≡ length digits
number_len digits after n = prefix_len-append is_digit digits after n.digits_alone n.whole

-- what the definitions say is found

number_is : (at : ℕ) (digits after : List ℕ) → IsNumber digits after
    → number_at at (digits ++ after) ≡ number_by at (length digits) (fitting (number_of digits))
unfolding number_at
number_is at digits after n =
    let len = number_len digits after n in
    let some : eqb (length digits) 0 ≡ false = grind (arith, nat_tests, n.some) in
    rw (len, some, take_at digits after (length digits) refl) refl

pub fitting_number : (at : ℕ) (digits after : List ℕ) → IsFitting digits after
    → number_at at (digits ++ after) ≡ Ok (record { value = number_of digits; len = length digits })
fitting_number at digits after is =
    number_is at digits after is.is_number
    ∙ ap (number_by at (length digits)) (fits_some (number_of digits) is.fits)

pub big_number : (at : ℕ) (digits after : List ℕ) → IsNumber digits after
    → 2 ^ 32 ≤ number_of digits → number_at at (digits ++ after) ≡ Err (TooBig at)
big_number at digits after n big =
    number_is at digits after n
    ∙ ap (number_by at (length digits)) (fits_none (number_of digits) big)

pub no_number : (at : ℕ) (bytes : List ℕ) → BeginsWithout is_digit bytes
    → number_at at bytes ≡ Err (BadItem at)
unfolding number_at
no_number at [] none = refl
no_number at (b ∷ more) none = rw (prefix_len-no is_digit b more none) refl

-- what is found the definitions say

no_digits : (bytes : List ℕ) → eqb (prefix_len is_digit bytes) 0 ≡ true
    → BeginsWithout is_digit bytes
no_digits [] e = tt
no_digits (b ∷ more) e = elim (cases_Bool (is_digit b)) [
  | inl d ↦ (let len = prefix_len-yes is_digit b more d in absurd (grind (arith, nat_tests)))
  | inr d ↦ d
]

number_there : (bytes : List ℕ) → eqb (prefix_len is_digit bytes) 0 ≡ false
    → IsNumber (take (prefix_len is_digit bytes) bytes) (drop (prefix_len is_digit bytes) bytes)
number_there bytes e =
    let long =
    length-take-le (prefix_len is_digit bytes) bytes (prefix_len-le-length is_digit bytes) in
    let some : 0 < prefix_len is_digit bytes = grind (arith, nat_tests) in
    record {
      digits_alone = prefix_passes is_digit bytes;
      some = omega (arith, long, some);
      whole = suffix_fails is_digit bytes;
    }

-- Bytes begin with a number of 32 bits, with a greater one, or with none.
pub data Begins (bytes : List ℕ) : Type 0 where
  fit : (digits after : List ℕ) → bytes ≡ digits ++ after → IsFitting digits after → Begins bytes
  big : (digits after : List ℕ) → bytes ≡ digits ++ after → IsNumber digits after
      → 2 ^ 32 ≤ number_of digits → Begins bytes
  none : BeginsWithout is_digit bytes → Begins bytes

pub begins : (bytes : List ℕ) → Begins bytes
begins bytes = by_digits (eqb len 0) refl where
  len : ℕ
  len = prefix_len is_digit bytes

  by_size : IsNumber (take len bytes) (drop len bytes) → (fits : Bool)
      → ltb (number_of (take len bytes)) (2 ^ 32) ≡ fits → Begins bytes
  by_size is true e =
      fit (take len bytes) (drop len bytes) (sym (take-append-drop len bytes))
      (record { is_number = is; fits = grind (arith, nat_tests) })
  by_size is false e =
      big (take len bytes) (drop len bytes) (sym (take-append-drop len bytes)) is
      (grind (arith, nat_tests))

  by_digits : (no : Bool) → eqb len 0 ≡ no → Begins bytes
  by_digits true e = none (no_digits bytes e)
  by_digits false e =
      by_size (number_there bytes e) (ltb (number_of (take len bytes)) (2 ^ 32)) refl
