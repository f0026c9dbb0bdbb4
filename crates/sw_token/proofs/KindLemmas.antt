-- The kind of a token by its text alone: a literal's number fits there too.
use Rattle.std.proofs.Common.{◌≡◌, ℕ, Bool, true, false, eqb, List, [], ◌∷◌, ◌++◌, length, take}
use Rattle.std.proofs.Common.{drop, Option, Some, None, Ok, refl, inl, inr, arith}
use Rattle.std.specs.Str.{IsUtf8}
use Rattle.std.proofs.lemmas.Bool.{cases_Bool, and_parts}
use Rattle.std.proofs.lemmas.Bool.Decides.{nat_tests}
use Rattle.std.proofs.lemmas.List.{append-nil, drop_at}
use Rattle.sw_scan.specs.Classes.{is_digit}
use Rattle.sw_scan.proofs.Prefixes.{chosen}
use Rattle.sw_scan.specs.declared.Step.TheVariants.{Take}
use Rattle.sw_token.specs.declared.before.Before.{Before}
use Rattle.sw_token.specs.declared.literals.Literal.{Literal}
use Rattle.sw_token.specs.declared.literals.Literal.TheVariants.{Decimal, Negative, Binary, Octal}
use Rattle.sw_token.specs.declared.literals.Literal.TheVariants.{Hexadecimal}
use Rattle.sw_token.specs.Bytes.{is_operator_byte}
use Rattle.sw_token.specs.Words.{begins_word, IsWord}
use Rattle.sw_token.specs.Words as words
use Rattle.sw_token.specs.Literals.{head_of, is_digit_of, AreDigits, after_zero, unsigned_of}
use Rattle.sw_token.specs.Literals.{negative, literal_of}
use Rattle.sw_token.specs.Operators.{IsRun}
use Rattle.sw_token.specs.Kinds.{NumberFits}
use Rattle.sw_token.specs.Tokens.{IsToken}
use Rattle.sw_token.specs.Tokens as tokens
use Rattle.sw_token.specs.Reading.{step}
use Rattle.sw_token.proofs.ClassLemmas.{mark_plain, question_plain, at_plain, word_plain}
use Rattle.sw_token.proofs.ClassLemmas.{word_some, no_literal}
use Rattle.sw_token.proofs.Steps.{found_taken}
use Rattle.sw_token.proofs.WordLemmas.{begins_word-IsWord, goes_on-nil}

-- a text that is no literal

pub alone : (text after : List ℕ) → IsWord text after → IsWord text []
alone _ _ (words.word start more after scalars starts all ends) =
    words.word start more [] scalars starts all goes_on-nil

word_no_literal : (text after : List ℕ) → IsWord text after → literal_of true text ≡ None
word_no_literal text after is =
    let begins : begins_word text ≡ true =
    rw append-nil at (begins_word-IsWord text [] (alone text after is)) in
    let some = word_some text begins in
    let plain = word_plain some.0 some.1 (rw some.2 at begins) in
    rw some.2 (no_literal true some.0 some.1 plain.0)

operator_no_digit : (byte : ℕ) → is_operator_byte byte ≡ true → is_digit byte ≡ false
unfolding is_operator_byte is_digit
operator_no_digit byte is = grind (arith, nat_tests)

run_unsigned : (text after : List ℕ) → IsRun text after → unsigned_of text ≡ None
unfolding unsigned_of
run_unsigned [] after run = refl
run_unsigned (byte ∷ text) after run =
    let parts = and_parts (is_operator_byte byte) _ run.0 in
    rw (operator_no_digit byte parts.0) refl

pub run_no_literal : (byte : ℕ) (more after : List ℕ) → IsRun (byte ∷ more) after
    → literal_of true (byte ∷ more) ≡ None
unfolding literal_of
run_no_literal byte more after run = elim (cases_Bool (eqb byte 45)) [
  | inl minus ↦ rw (minus, run_unsigned more after run.1) refl
  | inr other ↦ rw (other, run_unsigned (byte ∷ more) after run) refl
]

-- a literal's text by itself

after_zero-more : (more after : List ℕ) → after_zero (more ++ after) ≡ Decimal
    → after_zero more ≡ Decimal
after_zero-more [] after e = refl
after_zero-more (c ∷ cs) after e = e

unsigned_more : (d : ℕ) (more after : List ℕ) → unsigned_of (d ∷ (more ++ after)) ≡ Some Decimal
    → unsigned_of (d ∷ more) ≡ Some Decimal
unfolding unsigned_of
unsigned_more d more after e = elim (chosen (is_digit d) _ _ _ e) [
  | inl w ↦ elim (cases_Bool (eqb d 48)) [
    | inl zero_is ↦
        let found : Some (after_zero (more ++ after)) ≡ Some Decimal = rw zero_is at w.1 in
        let same : after_zero (more ++ after) ≡ Decimal = cc in
        rw (w.0, zero_is, after_zero-more more after same) refl
    | inr other ↦ rw (w.0, other) refl
  ]
  | inr w ↦ (let none = w.1 in cc)
]

digit_no_minus : (d : ℕ) → is_digit_of Decimal d ≡ true → eqb d 45 ≡ false
digit_no_minus d is = grind (arith, nat_tests)

decimal_alone : (is_white : Bool) (digits after : List ℕ)
    → literal_of is_white (digits ++ after) ≡ Some Decimal
    → AreDigits Decimal digits → literal_of true digits ≡ Some Decimal
unfolding literal_of
decimal_alone is_white [] after is are = absurd are
decimal_alone is_white (d ∷ more) after is are =
    let minus = digit_no_minus d are.0 in
    let unsigned : unsigned_of (d ∷ (more ++ after)) ≡ Some Decimal = rw minus at is in
    rw (minus, unsigned_more d more after unsigned) refl

negative_decimal : (unsigned : Option Literal) → negative unsigned ≡ Some Negative
    → unsigned ≡ Some Decimal
negative_decimal None e = cc
negative_decimal (Some Decimal) e = refl
negative_decimal (Some Negative) e = cc
negative_decimal (Some Binary) e = cc
negative_decimal (Some Octal) e = cc
negative_decimal (Some Hexadecimal) e = cc

negative_alone : (is_white : Bool) (digits after : List ℕ)
    → literal_of is_white (45 ∷ (digits ++ after)) ≡ Some Negative
    → AreDigits Negative digits → literal_of true (45 ∷ digits) ≡ Some Negative
unfolding literal_of
negative_alone is_white [] after is are = absurd are
negative_alone true (d ∷ more) after is are =
    rw (unsigned_more d more after (negative_decimal (unsigned_of (d ∷ (more ++ after))) is)) refl
negative_alone false (d ∷ more) after is are = cc

pub literal_alone : (form : Literal) (is_white : Bool) (digits after : List ℕ)
    → literal_of is_white (head_of form ++ (digits ++ after)) ≡ Some form → AreDigits form digits
    → literal_of true (head_of form ++ digits) ≡ Some form
unfolding literal_of unsigned_of is_digit
literal_alone Decimal is_white digits after is are = decimal_alone is_white digits after is are
literal_alone Negative is_white digits after is are = negative_alone is_white digits after is are
literal_alone Binary is_white digits after is are = refl
literal_alone Octal is_white digits after is are = refl
literal_alone Hexadecimal is_white digits after is are = refl

none_fits : (text : List ℕ) → literal_of true text ≡ None → NumberFits text
none_fits text e = rw e tt

pub fits : (is_white : Bool) (text after : List ℕ) → IsToken is_white text after → NumberFits text
fits is_white _ _ (tokens.word text after is) = none_fits text (word_no_literal text after is)
fits is_white _ _ (tokens.at_word text after is) =
    none_fits (64 ∷ text) (no_literal true 64 text at_plain)
fits is_white _ _ (tokens.literal form digits after is are few ends) =
    rw (
      literal_alone form is_white digits after is are,
      drop_at (head_of form) digits (length (head_of form)) refl,
    ) few
fits is_white _ _ (tokens.operator byte more after none operator run is) =
    none_fits (byte ∷ more) (run_no_literal byte more after run)
fits is_white _ _ (tokens.mark byte after is single) =
    none_fits (byte ∷ []) (no_literal true byte [] (mark_plain byte is))
fits is_white _ _ (tokens.double_mark after) =
    none_fits (63 ∷ 63 ∷ []) (no_literal true 63 (63 ∷ []) question_plain)

-- a token that was found fits the type of its kind
pub found_fits : (at : ℕ) (before : Before) (bytes : List ℕ) (n : ℕ) → IsUtf8 bytes
    → step at before bytes ≡ Ok (Take n) → NumberFits (take n bytes)
found_fits at before bytes n utf8 e =
    let is = found_taken at before bytes n utf8 e in
    fits before.is_white (take n bytes) (drop n bytes) is.is_token
