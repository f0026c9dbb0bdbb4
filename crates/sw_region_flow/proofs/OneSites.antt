-- A function has one list of sites.
use Rattle.std.proofs.Common.{◌≡◌, ℕ, zero, suc, ◌+◌, ◌<◌, ◌⊎◌, inl, inr, ◌↔◌, List, [], ◌∷◌}
use Rattle.std.proofs.Common.{Contains, refl, sym, subst, ap, ◌∙◌, arith, get_or}
use Rattle.std.proofs.lemmas.List.Kept.{AllPairs-from_increasing}
use Rattle.std.specs.List.Sorted.{IsStrictlyIncreasing}
use Rattle.sw_region_ops.specs.Setting.{FunctionSetting}
use Rattle.sw_region_ops.specs.Sites.{AreSites}

-- a member of a list with a first element
pub member_cases : {X : Type 0} (x : X) (xs : List X) (n : X) → Contains (x ∷ xs) n
    → (n ≡ x) ⊎ Contains xs n
member_cases x xs n (zero, within, e) = inl (sym e)
member_cases x xs n (suc k, within, e) = inr (k, omega arith, e)

pub member_first : {X : Type 0} (x : X) (xs : List X) → Contains (x ∷ xs) x
member_first x xs = (0, omega arith, refl)

pub member_later : {X : Type 0} (x : X) (xs : List X) (n : X) → Contains xs n → Contains (x ∷ xs) n
member_later x xs n (k, within, e) = (suc k, omega arith, e)

pub no_member : {X : Type 0} (n : X) → Contains [] n → ⊥
no_member n (k, within, e) = omega arith

-- the first number of a rising list is below the others, and these rise
pub below_later : (x : ℕ) (xs : List ℕ) → IsStrictlyIncreasing (x ∷ xs) → (n : ℕ) → Contains xs n
    → x < n
below_later x xs rising n (k, within, e) =
    let h = AllPairs-from_increasing (x ∷ xs) rising 0 (suc k) n (omega arith) (omega arith) in
    subst (λ m. x < m) e h

pub tail_rises : (x : ℕ) (xs : List ℕ) → IsStrictlyIncreasing (x ∷ xs) → IsStrictlyIncreasing xs
tail_rises x xs rising = λ k within.
    let next : suc k + 1 ≡ suc (k + 1) = omega arith in
    subst (λ n. get_or xs k 0 < get_or (x ∷ xs) n 0) next (rising (suc k) (omega arith))

pub rising_same : (xs ys : List ℕ) → IsStrictlyIncreasing xs → IsStrictlyIncreasing ys
    → ((n : ℕ) → Contains xs n ↔ Contains ys n) → xs ≡ ys
rising_same [] [] first second same = refl
rising_same [] (y ∷ ys) first second same = absurd (no_member y ((same y).1 (member_first y ys)))
rising_same (x ∷ xs) [] first second same = absurd (no_member x ((same x).0 (member_first x xs)))
rising_same (x ∷ xs) (y ∷ ys) first second same =
    ap (λ n. n ∷ xs) heads ∙ ap (λ ns. y ∷ ns)
    (rising_same xs ys (tail_rises x xs first) (tail_rises y ys second)
    (λ n. (
      tail_has x xs y ys heads first n (λ has. (same n).0 has),
      tail_has y ys x xs (sym heads) second n (λ has. (same n).1 has),
    )))
  where
    heads : x ≡ y
    heads = elim (member_cases y ys x ((same x).0 (member_first x xs))) [
      | inl e ↦ e
      | inr x_later ↦ elim (member_cases x xs y ((same y).1 (member_first y ys))) [
        | inl e ↦ sym e
        | inr y_later ↦ absurd (omega (
          arith,
          below_later y ys second x x_later,
          below_later x xs first y y_later,
        ))
      ]
    ]

    tail_has : (a : ℕ) (as' : List ℕ) (b : ℕ) (bs : List ℕ) → a ≡ b → IsStrictlyIncreasing (a ∷ as')
        → (n : ℕ) → (Contains (a ∷ as') n → Contains (b ∷ bs) n) → Contains as' n → Contains bs n
    tail_has a as' b bs e rising n through has =
        elim (member_cases b bs n (through (member_later a as' n has))) [
          | inl first_is ↦ absurd (omega (arith, below_later a as' rising n has))
          | inr later ↦ later
        ]

pub sites_are_one : (setting : FunctionSetting) (a b : List ℕ) → AreSites setting a
    → AreSites setting b
    → a ≡ b
sites_are_one setting a b first second = rising_same a b first.rising second.rising
    (λ site. (
      λ has. (second.same site).1 ((first.same site).0 has),
      λ has. (first.same site).1 ((second.same site).0 has),
    ))
