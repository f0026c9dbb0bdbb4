-- Two rising lists of the same members are one.
use Rattle.std.proofs.Common.{◌≡◌, suc, inl, inr, List, [], ◌∷◌, Contains, refl, sym, subst}
use Rattle.std.proofs.Common.{ap, ◌∙◌, arith}
use Rattle.std.specs.List.{AllPairs}
use Rattle.sw_region_flow.proofs.OneSites.{member_cases, member_first, member_later, no_member}

module _ {A : Type 0} (Before : A → A → Type 0)
    (never_both : (x y : A) → Before x y → Before y x → ⊥) where
  -- the first is before the others, and these rise
  first_before : (x : A) (xs : List A) → AllPairs Before (x ∷ xs) → (y : A) → Contains xs y
      → Before x y
  first_before x xs rising y (k, within, e) =
      subst (Before x) e (rising 0 (suc k) y (omega arith) (omega (arith, within)))

  rest_rises : (x : A) (xs : List A) → AllPairs Before (x ∷ xs) → AllPairs Before xs
  rest_rises x xs rising i j d lt within =
      rising (suc i) (suc j) d (omega (arith, lt)) (omega (arith, within))

  in_rest : (x : A) (xs : List A) (y : A) (ys : List A) → x ≡ y → AllPairs Before (x ∷ xs) → (z : A)
      → Contains (y ∷ ys) z → Contains xs z → Contains ys z
  in_rest x xs y ys e rising z there has = elim (member_cases y ys z there) [
    | inl is ↦ (let itself : Before x x =
        subst (Before x) (is ∙ sym e) (first_before x xs rising z has) in
        absurd (never_both x x itself itself))
    | inr later ↦ later
  ]

  pub rising_is_one : (xs ys : List A) → AllPairs Before xs → AllPairs Before ys
      → ((z : A) → Contains xs z → Contains ys z) → ((z : A) → Contains ys z → Contains xs z)
      → xs ≡ ys
  rising_is_one [] [] first second forth back = refl
  rising_is_one [] (y ∷ ys) first second forth back =
      absurd (no_member y (back y (member_first y ys)))
  rising_is_one (x ∷ xs) [] first second forth back =
      absurd (no_member x (forth x (member_first x xs)))
  rising_is_one (x ∷ xs) (y ∷ ys) first second forth back =
      ap (λ z. z ∷ xs) heads ∙ ap (λ zs. y ∷ zs)
      (rising_is_one xs ys (rest_rises x xs first) (rest_rises y ys second)
      (λ z has. in_rest x xs y ys heads first z (forth z (member_later x xs z has)) has)
      (λ z has. in_rest y ys x xs (sym heads) second z (back z (member_later y ys z has)) has))
    where
      heads : x ≡ y
      heads = elim (member_cases y ys x (forth x (member_first x xs))) [
        | inl e ↦ e
        | inr x_later ↦ elim (member_cases x xs y (back y (member_first y ys))) [
          | inl e ↦ sym e
          | inr y_later ↦ absurd (never_both x y (first_before x xs first y y_later)
              (first_before y ys second x x_later))
        ]
      ]
