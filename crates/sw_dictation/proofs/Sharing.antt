-- What texts have in common.
use Rattle.std.proofs.Common.{◌≡◌, ℕ, zero, suc, ◌+◌, ◌<◌, ◌≤◌, ◌⊎◌, inl, inr, Bool, true, false}
use Rattle.std.proofs.Common.{eqb}
use Rattle.std.proofs.Common.{cond, List, [], ◌∷◌, ◌++◌, length, take, drop, get_or, min, refl, sym}
use Rattle.std.proofs.Common.{ap, ◌∙◌, arith}
use Rattle.std.proofs.Common.{length-append, decimal, ◌-◌, ◌^◌}
use Rattle.std.proofs.lemmas.Bool.{eq-eqb, ne_eqb, cases_lt, eqb-true}
use Rattle.std.proofs.lemmas.List.{take_all}
use Rattle.std.proofs.lemmas.List.Sums.{common_prefix_len-drop_yes, common_prefix_len-drop_no}
use Rattle.sw_dictation.specs.Numbers.{common_len, spelled}
use Rattle.sw_dictation.proofs.Numerals.{numeral_is_decimal}

pub one_more : (xs ys : List ℕ) (i : ℕ) → i < length xs → i < length ys
    → get_or xs i 0 ≡ get_or ys i 0
    → common_len (drop i xs) (drop i ys) ≡ 1 + common_len (drop (i + 1) xs) (drop (i + 1) ys)
one_more xs ys i in_xs in_ys same = common_prefix_len-drop_yes (λ (x : ℕ) (y : ℕ). eqb x y) xs ys i
    0 0 in_xs in_ys (eq-eqb (get_or xs i 0) (get_or ys i 0) same)

pub no_more : (xs ys : List ℕ) (i : ℕ) → i < length xs → i < length ys
    → (get_or xs i 0 ≡ get_or ys i 0 → ⊥) → common_len (drop i xs) (drop i ys) ≡ 0
no_more xs ys i in_xs in_ys other = common_prefix_len-drop_no (λ (x : ℕ) (y : ℕ). eqb x y) xs ys i
    0 0 in_xs in_ys (ne_eqb (get_or xs i 0) (get_or ys i 0) other)

pub at_end : (xs ys : List ℕ) (i : ℕ) → (length xs ≤ i) ⊎ (length ys ≤ i)
    → common_len (drop i xs) (drop i ys) ≡ 0
at_end [] ys zero past = refl
at_end [] ys (suc i) past = refl
at_end (x ∷ xs) [] zero past = refl
at_end (x ∷ xs) [] (suc i) past = nothing (drop i xs)
  where
    nothing : (l : List ℕ) → common_len l [] ≡ 0
    nothing [] = refl
    nothing (z ∷ zs) = refl
at_end (x ∷ xs) (y ∷ ys) zero (inl past) = absurd (omega (arith, past))
at_end (x ∷ xs) (y ∷ ys) zero (inr past) = absurd (omega (arith, past))
at_end (x ∷ xs) (y ∷ ys) (suc i) (inl past) = at_end xs ys i (inl (omega (arith, past)))
at_end (x ∷ xs) (y ∷ ys) (suc i) (inr past) = at_end xs ys i (inr (omega (arith, past)))

-- all of a text is common exactly where the other one begins with it
pub whole : (xs ys : List ℕ) → common_len xs ys ≡ length ys → xs ≡ ys ++ drop (length ys) xs
whole xs [] all = refl
whole [] (y ∷ ys) all = absurd (omega (arith, all))
whole (x ∷ xs) (y ∷ ys) all = by (whole xs ys) (eqb x y) refl
  where
    by : (common_len xs ys ≡ length ys → xs ≡ ys ++ drop (length ys) xs)
        → (b : Bool) → eqb x y ≡ b → x ∷ xs ≡ y ∷ (ys ++ drop (length ys) xs)
    by rest true is =
        let step : common_len (x ∷ xs) (y ∷ ys) ≡ 1 + common_len xs ys =
        ap (λ b. cond b (1 + common_len xs ys) 0) is in
        ap (λ z. z ∷ xs) (eqb-true x y is)
        ∙ ap (λ l. y ∷ l) (rest (omega (arith, step, all)))
    by rest false is =
        let step : common_len (x ∷ xs) (y ∷ ys) ≡ 0 =
        ap (λ b. cond b (1 + common_len xs ys) 0) is in
        absurd (omega (arith, step, all))

pub begins : (ys rest : List ℕ) → common_len (ys ++ rest) ys ≡ length ys
begins [] [] = refl
begins [] (z ∷ rest) = refl
begins (y ∷ ys) rest =
    let step : common_len (y ∷ (ys ++ rest)) (y ∷ ys) ≡ 1 + common_len (ys ++ rest) ys =
    ap (λ b. cond b (1 + common_len (ys ++ rest) ys) 0) (eq-eqb y y refl) in
    omega (arith, step, begins ys rest)

-- what two texts have in common they begin with
pub shared : (xs ys : List ℕ) → take (common_len xs ys) xs ≡ take (common_len xs ys) ys
shared [] ys = nothing ys
  where
    nothing : (l : List ℕ) → [] ≡ take 0 l
    nothing [] = refl
    nothing (z ∷ zs) = refl
shared (x ∷ xs) [] = refl
shared (x ∷ xs) (y ∷ ys) = by (shared xs ys) (eqb x y) refl
  where
    by : take (common_len xs ys) xs ≡ take (common_len xs ys) ys → (b : Bool) → eqb x y ≡ b
        → take (common_len (x ∷ xs) (y ∷ ys)) (x ∷ xs)
        ≡ take (common_len (x ∷ xs) (y ∷ ys)) (y ∷ ys)
    by rest true is =
        let step : common_len (x ∷ xs) (y ∷ ys) ≡ suc (common_len xs ys) =
        ap (λ b. cond b (1 + common_len xs ys) 0) is ∙ omega arith in
        ap (λ n. take n (x ∷ xs)) step ∙ ap (λ z. z ∷ take (common_len xs ys) xs) (eqb-true x y is)
        ∙ ap (λ l. y ∷ l) rest ∙ ap (λ n. take n (y ∷ ys)) (sym step)
    by rest false is =
        let step : common_len (x ∷ xs) (y ∷ ys) ≡ 0 =
        ap (λ b. cond b (1 + common_len xs ys) 0) is in
        ap (λ n. take n (x ∷ xs)) step ∙ ap (λ n. take n (y ∷ ys)) (sym step)

pub past_min : (a b i : ℕ) → min a b ≤ i → (a ≤ i) ⊎ (b ≤ i)
past_min a b i past = elim (cases_lt a b) [
  | inl lt ↦ inl (omega (arith, lt, past))
  | inr ge ↦ inr (omega (arith, ge, past))
]

pub text_is : (from n closer : ℕ) (left : List ℕ) → n < 2 ^ 64 → from + length (decimal n) ≡ 20
    → left ≡ decimal n ++ closer ∷ [] → take (21 - from) left ≡ spelled n closer
text_is from n closer left small at is =
    take_all (21 - from) left
    (omega (arith, at, ap length is, length-append (decimal n) (closer ∷ [])))
    ∙ is ∙ ap (λ ds. ds ++ closer ∷ []) (sym (numeral_is_decimal n small))
