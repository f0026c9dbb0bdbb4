-- The classes of bytes that gaps and tokens begin with are apart.
use Rattle.std.proofs.Common.{◌≡◌, ℕ, ◌<◌, ◌≤◌, Bool, true, false, ◌||◌, eqb, ltb, List, [], ◌∷◌}
use Rattle.std.proofs.Common.{◌++◌, length, drop, Option, Some, None, refl, sym, ap, ◌∙◌, inl, inr}
use Rattle.std.proofs.Common.{arith, length-append}
use Rattle.std.specs.Char.{is_ascii_alphabetic}
use Rattle.std.specs.Str.{chars}
use Rattle.std.proofs.lemmas.Bool.{cases_Bool}
use Rattle.std.proofs.lemmas.Bool.Decides.{nat_tests}
use Rattle.unicode_ident.specs.Ident.{is_xid_start}
use Rattle.unicode_ident.proofs.IdentLemmas.{is_xid_start-ascii}
use Rattle.sw_scan.specs.Classes.{is_blank, is_digit}
use Rattle.sw_scan.proofs.Prefixes.{chosen}
use Rattle.sw_token.specs.declared.literals.Literal.{Literal}
use Rattle.sw_token.specs.declared.literals.Literal.TheVariants.{Decimal, Negative, Binary, Octal}
use Rattle.sw_token.specs.declared.literals.Literal.TheVariants.{Hexadecimal}
use Rattle.sw_token.specs.Bytes.{is_operator_byte, is_mark}
use Rattle.sw_token.specs.Words.{is_word_start, begins_word}
use Rattle.sw_token.specs.Comments.{begins_line_comment, begins_block_comment}
use Rattle.sw_token.specs.Literals.{head_of, after_zero, unsigned_of, negative, literal_of}
use Rattle.sw_token.proofs.WordLemmas.{chars_ascii}

-- a byte that begins no gap
pub record BeginsNoGap (byte : ℕ) : Type 0 where
  pub no_blank : is_blank byte ≡ false
  pub no_slash : eqb byte 47 ≡ false

-- a byte that begins neither a gap nor a literal nor an operator
pub record IsPlain (byte : ℕ) : Type 0 where
  pub no_gap : BeginsNoGap byte
  pub no_digit : is_digit byte ≡ false
  pub no_minus : eqb byte 45 ≡ false
  pub no_operator : is_operator_byte byte ≡ false

pub mark_plain : (byte : ℕ) → is_mark byte ≡ true → IsPlain byte
unfolding is_blank is_digit is_mark is_operator_byte
mark_plain byte is = record {
  no_gap = record { no_blank = grind (arith, nat_tests); no_slash = grind (arith, nat_tests) };
  no_digit = grind (arith, nat_tests);
  no_minus = grind (arith, nat_tests);
  no_operator = grind (arith, nat_tests);
}

pub question_plain : IsPlain 63
unfolding is_mark
question_plain = mark_plain 63 refl

pub at_plain : IsPlain 64
unfolding is_blank is_digit is_operator_byte
at_plain = record {
  no_gap = record { no_blank = refl; no_slash = refl };
  no_digit = refl;
  no_minus = refl;
  no_operator = refl;
}

high_plain : (byte : ℕ) → 128 ≤ byte → IsPlain byte
unfolding is_blank is_digit is_operator_byte
high_plain byte high = record {
  no_gap = record { no_blank = grind (arith, nat_tests); no_slash = grind (arith, nat_tests) };
  no_digit = grind (arith, nat_tests);
  no_minus = grind (arith, nat_tests);
  no_operator = grind (arith, nat_tests);
}

high_no_mark : (byte : ℕ) → 128 ≤ byte → (is_mark byte ≡ false) × (eqb byte 64 ≡ false)
unfolding is_mark
high_no_mark byte high = (grind (arith, nat_tests), grind (arith, nat_tests))

letter_plain : (byte : ℕ) → is_ascii_alphabetic byte ≡ true → IsPlain byte
unfolding is_blank is_digit is_operator_byte
letter_plain byte is = record {
  no_gap = record { no_blank = grind (arith, nat_tests); no_slash = grind (arith, nat_tests) };
  no_digit = grind (arith, nat_tests);
  no_minus = grind (arith, nat_tests);
  no_operator = grind (arith, nat_tests);
}

letter_no_mark : (byte : ℕ) → is_ascii_alphabetic byte ≡ true
    → (is_mark byte ≡ false) × (eqb byte 64 ≡ false)
unfolding is_mark
letter_no_mark byte is = (grind (arith, nat_tests), grind (arith, nat_tests))

line_plain : IsPlain 95
unfolding is_blank is_digit is_operator_byte
line_plain = record {
  no_gap = record { no_blank = refl; no_slash = refl };
  no_digit = refl;
  no_minus = refl;
  no_operator = refl;
}

line_no_mark : (is_mark 95 ≡ false) × (eqb 95 64 ≡ false)
unfolding is_mark
line_no_mark = (refl, refl)

-- a byte that begins a word
pub word_plain : (byte : ℕ) (more : List ℕ) → begins_word (byte ∷ more) ≡ true
    → IsPlain byte × ((is_mark byte ≡ false) × (eqb byte 64 ≡ false))
unfolding begins_word is_word_start
word_plain byte more is = elim (cases_Bool (ltb byte 128)) [
  | inl low ↦
      let below : byte < 128 = grind (arith, nat_tests) in
      let start : (is_xid_start byte || eqb byte 95) ≡ true =
      sym (chars_ascii is_word_start byte more below) ∙ is in
      elim (cases_Bool (is_xid_start byte)) [
        | inl letter ↦
            let ascii : is_ascii_alphabetic byte ≡ true =
            sym (is_xid_start-ascii byte below) ∙ letter in
            (letter_plain byte ascii, letter_no_mark byte ascii)
        | inr none ↦
            let line : eqb byte 95 ≡ true = rw none at start in
            let same : byte ≡ 95 = grind (arith, nat_tests) in
            rw same (line_plain, line_no_mark)
      ]
  | inr high ↦
      let above : 128 ≤ byte = grind (arith, nat_tests) in
      (high_plain byte above, high_no_mark byte above)
]

begins_word-nil : begins_word [] ≡ false
unfolding begins_word chars
begins_word-nil = refl

pub word_some : (bytes : List ℕ) → begins_word bytes ≡ true
    → (b : ℕ) × (more : List ℕ) × (bytes ≡ b ∷ more)
word_some [] is = (let none = begins_word-nil in cc)
word_some (b ∷ more) is = (b, more, refl)

-- no comment begins with a byte that is no slash

pub no_comment : (byte : ℕ) (more : List ℕ) → eqb byte 47 ≡ false
    → (begins_line_comment (byte ∷ more) ≡ false) × (begins_block_comment (byte ∷ more) ≡ false)
no_comment byte [] none = (refl, refl)
no_comment byte (b ∷ more) none = (rw none refl, rw none refl)

-- where no literal begins

pub no_literal : (is_white : Bool) (byte : ℕ) (more : List ℕ) → IsPlain byte
    → literal_of is_white (byte ∷ more) ≡ None
unfolding literal_of unsigned_of
no_literal is_white byte more is = rw (is.no_minus, is.no_digit) refl

-- what the bytes of a literal begin with

digit_no_gap : (byte : ℕ) → is_digit byte ≡ true → BeginsNoGap byte
unfolding is_digit is_blank
digit_no_gap byte is =
    record { no_blank = grind (arith, nat_tests); no_slash = grind (arith, nat_tests) }

minus_no_gap : BeginsNoGap 45
unfolding is_blank
minus_no_gap = record { no_blank = refl; no_slash = refl }

none_digit : (byte : ℕ) (more : List ℕ) (form : Literal) → unsigned_of (byte ∷ more) ≡ Some form
    → is_digit byte ≡ true
unfolding unsigned_of
none_digit byte more form e = elim (chosen (is_digit byte) _ _ _ e) [
  | inl w ↦ w.0
  | inr w ↦ (let none = w.1 in cc)
]

pub literal_no_gap : (is_white : Bool) (bytes : List ℕ) (form : Literal)
    → literal_of is_white bytes ≡ Some form
    → (b : ℕ) × (more : List ℕ) × (bytes ≡ b ∷ more) × BeginsNoGap b
unfolding literal_of
literal_no_gap is_white [] form e = cc
literal_no_gap is_white (byte ∷ more) form e = elim (chosen (eqb byte 45) _ _ _ e) [
  | inl w ↦
      (let same : byte ≡ 45 = grind (arith, nat_tests) in (byte, more, refl, rw same minus_no_gap))
  | inr w ↦ (byte, more, refl, digit_no_gap byte (none_digit byte more form w.1))
]

-- the head of a literal stands first

after_zero-head : (more : List ℕ)
    → (head_of (after_zero more) ++ drop (length (head_of (after_zero more))) (48 ∷ more)
    ≡ 48 ∷ more)
after_zero-head [] = refl
after_zero-head (c ∷ cs) = elim (cases_Bool (eqb c 120)) [
  | inl x ↦ (let same : c ≡ 120 = grind (arith, nat_tests) in rw same refl)
  | inr x ↦ elim (cases_Bool (eqb c 111)) [
    | inl o ↦ (let same : c ≡ 111 = grind (arith, nat_tests) in rw same refl)
    | inr o ↦ elim (cases_Bool (eqb c 98)) [
      | inl b ↦ (let same : c ≡ 98 = grind (arith, nat_tests) in rw same refl)
      | inr b ↦ rw (x, o, b) refl
    ]
  ]
]

unsigned_head : (bytes : List ℕ) (form : Literal) → unsigned_of bytes ≡ Some form
    → head_of form ++ drop (length (head_of form)) bytes ≡ bytes
unfolding unsigned_of
unsigned_head [] form e = cc
unsigned_head (byte ∷ more) form e = elim (chosen (is_digit byte) _ _ _ e) [
  | inl w ↦ elim (cases_Bool (eqb byte 48)) [
    | inl z ↦
        let zero_is : byte ≡ 48 = grind (arith, nat_tests) in
        let found : Some (after_zero more) ≡ Some form = rw z at w.1 in
        let same : form ≡ after_zero more = cc in
        rw (zero_is, same) (after_zero-head more)
    | inr z ↦
        let found : Some Decimal ≡ Some form = rw z at w.1 in
        let same : form ≡ Decimal = cc in
        rw same refl
  ]
  | inr w ↦ (let none = w.1 in cc)
]

negative_is : (unsigned : Option Literal) (form : Literal) → negative unsigned ≡ Some form
    → form ≡ Negative
negative_is None form e = cc
negative_is (Some Decimal) form e = cc
negative_is (Some Negative) form e = cc
negative_is (Some Binary) form e = cc
negative_is (Some Octal) form e = cc
negative_is (Some Hexadecimal) form e = cc

pub literal_head : (is_white : Bool) (bytes : List ℕ) (form : Literal)
    → literal_of is_white bytes ≡ Some form
    → head_of form ++ drop (length (head_of form)) bytes ≡ bytes
unfolding literal_of
literal_head is_white [] form e = cc
literal_head is_white (byte ∷ more) form e = elim (chosen (eqb byte 45) _ _ _ e) [
  | inl w ↦ elim (chosen is_white _ _ _ w.1) [
    | inl v ↦
        let minus : byte ≡ 45 = grind (arith, nat_tests) in
        let same = negative_is (unsigned_of more) form v.1 in
        rw (same, minus) refl
    | inr v ↦ (let none = v.1 in cc)
  ]
  | inr w ↦ unsigned_head (byte ∷ more) form w.1
]

pub literal_head-within : (is_white : Bool) (bytes : List ℕ) (form : Literal)
    → literal_of is_white bytes ≡ Some form → length (head_of form) ≤ length bytes
literal_head-within is_white bytes form e =
    let head = literal_head is_white bytes form e in
    omega (arith, ap length head, length-append (head_of form) (drop (length (head_of form)) bytes))
