-- A number in decimal, as a header shows it and reads it.
use Rattle.std.proofs.Common.{◌≡◌, ℕ, ◌+◌, ◌-◌, ◌*◌, ◌/◌, ◌%◌, ◌^◌, ◌<◌, ◌≤◌, Bool, true, false, ◌&&◌, cond, eqb, ltb}
use Rattle.std.proofs.Common.{List, [], ◌∷◌, ◌++◌, length, Option, Some, None, decimal, refl, ap, ◌∙◌}
use Rattle.std.proofs.Common.{arith, length-append, ne_eqb}
use Rattle.std.proofs.Math.Seq.{take-length, drop-length}
use Rattle.std.proofs.lemmas.Bool.{false≢true, le-ltb}
use Rattle.std.proofs.lemmas.Bool.Decides.{nat_tests}
use Rattle.std.proofs.lemmas.Fmt.{decimal_by_steps}
use Rattle.std.proofs.lemmas.List.Folds.{list_all-append}
use Rattle.std.proofs.lemmas.List.Sums.{fold-append}
use Rattle.std.specs.Char.{is_ascii_digit}
use Rattle.std.specs.List.{list_all, prefix_len}
use Rattle.sw_lsp_text.specs.Header.{is_blank, number_of, number_at, number_in}

-- a byte that ends no line, nor is a blank of one
abbrev pub is_plain : ℕ → Bool
is_plain byte = ltb 31 byte

pub record IsShown (n : ℕ) (digits : List ℕ) : Type 0 where
  pub some : 0 < length digits
  pub digits_all : list_all is_ascii_digit digits ≡ true
  pub plain : list_all is_plain digits ≡ true
  pub value : number_of digits ≡ n

digit_is : (d : ℕ) → d < 10 → is_ascii_digit (48 + d) ≡ true
digit_is d small = grind (arith, nat_tests)

digit_plain : (d : ℕ) → is_plain (48 + d) ≡ true
digit_plain d = grind (arith, nat_tests)

one_digit : (n : ℕ) → n < 10 → IsShown n ((48 + n) ∷ [])
one_digit n small = record {
  some = omega arith;
  digits_all = rw (digit_is n small);
  plain = rw (digit_plain n);
  value = omega arith;
}

more_digits : (n : ℕ) (digits : List ℕ) → 10 ≤ n → IsShown (n / 10) digits
    → IsShown n (digits ++ ((48 + n % 10) ∷ []))
more_digits n digits ten h =
    let small : n % 10 < 10 = omega arith in
    record {
      some = omega (arith, h.some, length-append digits ((48 + n % 10) ∷ []));
      digits_all = rw (list_all-append is_ascii_digit digits ((48 + n % 10) ∷ []), h.digits_all, digit_is (n % 10) small);
      plain = rw (list_all-append is_plain digits ((48 + n % 10) ∷ []), h.plain, digit_plain (n % 10));
      value = rw (fold-append (λ number digit. number * 10 + (digit - 48)) 0 digits ((48 + n % 10) ∷ []), h.value) (omega arith);
    }

pub decimal_is_shown : (n : ℕ) → n < 2 ^ 64 → IsShown n (decimal n)
decimal_is_shown n small = decimal_by_steps IsShown one_digit more_digits n small

-- ---- read again

both : (a b : Bool) → (a && b) ≡ true → (a ≡ true) × (b ≡ true)
both true b h = (refl, h)
both false b h = absurd (false≢true h)

whole_prefix : (p : ℕ → Bool) (xs : List ℕ) → list_all p xs ≡ true → prefix_len p xs ≡ length xs
whole_prefix p [] h = refl
whole_prefix p (x ∷ xs) h =
    let parts = both (p x) (list_all p xs) h in
    let rest = whole_prefix p xs parts.1 in
    rw parts.0 (omega (arith, rest))

digit_no_blank : (x : ℕ) → is_ascii_digit x ≡ true → is_blank x ≡ false
unfolding is_blank
digit_no_blank x digit = grind (arith, nat_tests)

no_blanks : (xs : List ℕ) → list_all is_ascii_digit xs ≡ true → prefix_len is_blank xs ≡ 0
no_blanks [] h = refl
no_blanks (x ∷ xs) h =
    rw (digit_no_blank x (both (is_ascii_digit x) (list_all is_ascii_digit xs) h).0)

not_refused : (a b : Bool) (o : Option ℕ) → a ≡ false → b ≡ false → cond a None (cond b None o) ≡ o
not_refused a b o e f = rw (e, f)

number_at_digits : (n : ℕ) (digits : List ℕ) → IsShown n digits → number_at digits ≡ Some n
number_at_digits n digits h =
    let e = whole_prefix is_ascii_digit digits h.digits_all in
    let ne : eqb (length digits) 0 ≡ false = ne_eqb (length digits) 0 (λ none. omega (arith, h.some)) in
    let over : ltb 0 (length digits - length digits) ≡ false = le-ltb 0 (length digits - length digits) (omega arith) in
    rw (e, drop-length digits, take-length digits) (not_refused _ _ _ ne over ∙ ap Some h.value)

blank_first : is_blank 32 ≡ true
unfolding is_blank
blank_first = refl

-- a number behind one blank is read as that number
pub number_in_shown : (n : ℕ) (digits : List ℕ) → IsShown n digits → number_in (32 ∷ digits) ≡ Some n
number_in_shown n digits h =
    let blanks : prefix_len is_blank (32 ∷ digits) ≡ 1 =
    rw (blank_first, no_blanks digits h.digits_all) refl in
    rw blanks (number_at_digits n digits h)
