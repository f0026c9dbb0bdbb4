-- A numeral has digits alone, no two numbers have one numeral, and a number of 64 bits is printed so.
use Rattle.std.proofs.Common.{◌≡◌, ℕ, ◌+◌, ◌-◌, ◌*◌, ◌/◌, ◌%◌, ◌<◌, ◌^◌, inl, inr, true, leb, cond, List}
use Rattle.std.proofs.Common.{[], ◌∷◌, ◌++◌, map, decimal, refl, sym, ap, ◌∙◌, arith}
use Rattle.std.proofs.lemmas.Bool.{and_from, cases_lt, le-leb, ne_eqb}
use Rattle.std.proofs.lemmas.Fmt.{decimal_digit, decimal-digits_of}
use Rattle.std.proofs.lemmas.Int.Digits.{all_below_base_digits_of, digits_of_step, number_digits_of}
use Rattle.std.proofs.lemmas.Nat.{div-mul-add, mod-mul-add}
use Rattle.std.specs.Int.Digits.{AllBelowBase, digits_of, number_from_digits}
use Rattle.std.specs.List.{list_all}
use Rattle.sw_scan.specs.Classes.{is_digit}
use Rattle.sw_dictation.specs.Numerals.{numeral}

-- the digits as bytes
abbrev shown : List ℕ → List ℕ
shown ds = map (λ d. 48 + d) ds

numeral_zero : (n : ℕ) → n ≡ 0 → numeral n ≡ shown (0 ∷ [])
unfolding numeral
numeral_zero n e = ap numeral e

numeral_some : (n : ℕ) → 0 < n → numeral n ≡ shown (digits_of 10 n)
unfolding numeral
numeral_some n some =
    ap (λ b. cond b (48 ∷ []) (shown (digits_of 10 n))) (ne_eqb n 0 (λ e. omega (arith, e, some)))

-- so each numeral is of some digits, which have the number as their value
some_digits : (n : ℕ) → (ds : List ℕ) × (numeral n ≡ shown ds) × AllBelowBase 10 ds
    × (number_from_digits 10 ds ≡ n)
some_digits n = elim (cases_lt 0 n) [
  | inl some ↦ (
    digits_of 10 n,
    numeral_some n some,
    all_below_base_digits_of 10 n (omega arith),
    number_digits_of 10 n (omega arith),
  )
  | inr none ↦ (let e : n ≡ 0 = omega (arith, none) in
      (0 ∷ [], numeral_zero n e, (omega arith, tt), sym e))
]

digit_is : (d : ℕ) → d < 10 → is_digit (48 + d) ≡ true
unfolding is_digit
digit_is d small = and_from (leb 48 (48 + d)) (leb (48 + d) 57) (le-leb 48 (48 + d) (omega arith))
    (le-leb (48 + d) 57 (omega (arith, small)))

pub numeral_digits : (n : ℕ) → list_all is_digit (numeral n) ≡ true
numeral_digits n = let h = some_digits n in ap (list_all is_digit) h.1 ∙ all h.0 h.2
  where
    all : (ds : List ℕ) → AllBelowBase 10 ds → list_all is_digit (shown ds) ≡ true
    all [] below = refl
    all (d ∷ ds) (below, rest) =
        and_from (is_digit (48 + d)) (list_all is_digit (shown ds)) (digit_is d below) (all ds rest)

-- the number that a numeral writes
value : List ℕ → ℕ
value bytes = number_from_digits 10 (map (λ byte. byte - 48) bytes)

numeral_value : (n : ℕ) → value (numeral n) ≡ n
unfolding value
numeral_value n = let h = some_digits n in
    ap value h.1 ∙ ap (number_from_digits 10) (back h.0) ∙ h.3
  where
    back : (ds : List ℕ) → map (λ byte. byte - 48) (shown ds) ≡ ds
    back [] = refl
    back (d ∷ ds) = let e : 48 + d - 48 ≡ d = omega arith in
        ap (λ x. x ∷ map (λ byte. byte - 48) (shown ds)) e ∙ ap (λ xs. d ∷ xs) (back ds)

pub one_numeral : (m n : ℕ) → numeral m ≡ numeral n → m ≡ n
one_numeral m n same = sym (numeral_value m) ∙ ap value same ∙ numeral_value n

-- a digit alone, and one more digit
pub numeral_one : (d : ℕ) → d < 10 → numeral d ≡ (48 + d) ∷ []
numeral_one d small = elim (cases_lt 0 d) [
  | inl some ↦ (let none : d / 10 ≡ 0 = omega (arith, small) in
      let same : d % 10 ≡ d = omega (arith, small, none) in
      numeral_some d some ∙ ap shown (digits_of_step 10 d (omega arith) some
      ∙ ap (λ q. digits_of 10 q ++ (d % 10) ∷ []) none ∙ ap (λ r. r ∷ []) same))
  | inr none ↦ (let e : d ≡ 0 = omega (arith, none) in
      numeral_zero d e ∙ ap (λ r. (48 + r) ∷ []) (sym e))
]

pub numeral_more : (n d more : ℕ) → 0 < n → d < 10 → more ≡ n * 10 + d
    → numeral more ≡ numeral n ++ (48 + d) ∷ []
numeral_more n d more some small is =
    let q : more / 10 ≡ n = ap (λ m. m / 10) is ∙ div-mul-add n 10 d small in
    let r : more % 10 ≡ d = ap (λ m. m % 10) is ∙ mod-mul-add n 10 d small in
    numeral_some more (omega (arith, is, some))
    ∙ ap shown (digits_of_step 10 more (omega arith) (omega (arith, is, some))
    ∙ ap (λ k. digits_of 10 k ++ (more % 10) ∷ []) q ∙ ap (λ k. digits_of 10 n ++ k ∷ []) r)
    ∙ shown_push (digits_of 10 n) ∙ ap (λ l. l ++ (48 + d) ∷ []) (sym (numeral_some n some))
  where
    shown_push : (ds : List ℕ) → shown (ds ++ d ∷ []) ≡ shown ds ++ (48 + d) ∷ []
    shown_push [] = refl
    shown_push (e ∷ ds) = ap (λ l. (48 + e) ∷ l) (shown_push ds)

pub numeral_is_decimal : (n : ℕ) → n < 2 ^ 64 → numeral n ≡ decimal n
numeral_is_decimal n small = elim (cases_lt 0 n) [
  | inl some ↦ numeral_some n some ∙ sym (decimal-digits_of n some small)
  | inr none ↦ (let e : n ≡ 0 = omega (arith, none) in
      numeral_zero n e ∙ sym (decimal_digit 0 (omega arith)) ∙ ap decimal (sym e))
]
