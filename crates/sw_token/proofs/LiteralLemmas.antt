-- Digits of literals, and the number that they spell.
use Rattle.std.proofs.Common.{◌≡◌, ℕ, ◌+◌, ◌*◌, ◌<◌, Bool, true, false, ◌||◌, eqb, min, List, []}
use Rattle.std.proofs.Common.{length, take, get_or, refl, ◌∙◌, inl, inr, arith}
use Rattle.std.specs.Char.{digit_value, is_ascii_alphanumeric}
use Rattle.unicode_ident.proofs.IdentLemmas.{is_xid_continue-ascii}
use Rattle.sw_token.specs.Words.{is_word_char}
use Rattle.std.proofs.lemmas.Bool.{cases_Bool}
use Rattle.std.proofs.lemmas.Bool.Decides.{nat_tests}
use Rattle.std.proofs.lemmas.List.Sums.{fold_more}
use Rattle.sw_token.specs.declared.literals.Literal.{Literal}
use Rattle.sw_token.specs.declared.literals.Literal.TheVariants.{Decimal, Negative, Binary, Octal}
use Rattle.sw_token.specs.declared.literals.Literal.TheVariants.{Hexadecimal}
use Rattle.sw_token.specs.Literals.{radix, is_digit_of, is_digit_or_line, with_digit, number_in}

pub number_in-nil : (form : Literal) → number_in form [] ≡ 0
unfolding number_in
number_in-nil form = refl

pub number_in-more : (form : Literal) (digits : List ℕ) (n : ℕ) → n < length digits
    → number_in form (take (n + 1) digits)
    ≡ with_digit form (number_in form (take n digits)) (get_or digits n 0)
unfolding number_in
number_in-more form digits n inside = fold_more (with_digit form) 0 digits n 0 inside

-- a number that is cut at a limit, with one more digit, is cut there again
scaled : (form : Literal) (number digit limit : ℕ)
    → min (min number limit * radix form + digit) limit ≡ min (number * radix form + digit) limit
scaled Decimal number digit limit = omega arith
scaled Negative number digit limit = omega arith
scaled Binary number digit limit = omega arith
scaled Octal number digit limit = omega arith
scaled Hexadecimal number digit limit = omega arith

pub with_digit-cut : (form : Literal) (number byte limit : ℕ)
    → min (with_digit form (min number limit) byte) limit ≡ min (with_digit form number byte) limit
with_digit-cut form number byte limit = elim (cases_Bool (eqb byte 95)) [
  | inl line ↦
      (let same : min (min number limit) limit ≡ min number limit = omega arith in rw line same)
  | inr digit ↦ rw digit (scaled form number (digit_value byte) limit)
]

-- digits are bytes of ASCII, and no blanks

pub digit_ascii : (form : Literal) (byte : ℕ) → is_digit_of form byte ≡ true → byte < 128
digit_ascii Decimal byte is = grind (arith, nat_tests)
digit_ascii Negative byte is = grind (arith, nat_tests)
digit_ascii Binary byte is = grind (arith, nat_tests)
digit_ascii Octal byte is = grind (arith, nat_tests)
digit_ascii Hexadecimal byte is = grind (arith, nat_tests)

pub digit_or_line_ascii : (form : Literal) (byte : ℕ) → is_digit_or_line form byte ≡ true
    → byte < 128
digit_or_line_ascii form byte is = elim (cases_Bool (is_digit_of form byte)) [
  | inl digit ↦ digit_ascii form byte digit
  | inr none ↦ (let line : eqb byte 95 ≡ true = rw none at is in grind (arith, nat_tests))
]

both : (a b : Bool) → b ≡ true → (a || b) ≡ true
both true b h = refl
both false b h = h

digit_letter : (form : Literal) (byte : ℕ) → is_digit_of form byte ≡ true
    → is_ascii_alphanumeric byte ≡ true
digit_letter Decimal byte is = grind (arith, nat_tests)
digit_letter Negative byte is = grind (arith, nat_tests)
digit_letter Binary byte is = grind (arith, nat_tests)
digit_letter Octal byte is = grind (arith, nat_tests)
digit_letter Hexadecimal byte is = grind (arith, nat_tests)

-- a word goes on with a digit, as with `_`
pub digit_or_line_goes_on : (form : Literal) (byte : ℕ) → is_digit_or_line form byte ≡ true
    → is_word_char byte ≡ true
unfolding is_word_char
digit_or_line_goes_on form byte is =
    let low = digit_or_line_ascii form byte is in
    elim (cases_Bool (is_digit_of form byte)) [
      | inl digit ↦ is_xid_continue-ascii byte low ∙ rw (digit_letter form byte digit) refl
      | inr none ↦
          let line : eqb byte 95 ≡ true = rw none at is in
          is_xid_continue-ascii byte low ∙ both (is_ascii_alphanumeric byte) (eqb byte 95) line
    ]
