-- How many different numbers a list has: as many as a rising list of the same numbers.
use Rattle.std.proofs.Common.{◌≡◌, ℕ, zero, suc, ◌+◌, ◌<◌, ◌⊎◌, inl, inr, ◌↔◌, Bool, true, false}
use Rattle.std.proofs.Common.{if◌then◌else◌, List, [], ◌∷◌, length, Contains, refl, sym, subst}
use Rattle.std.proofs.Common.{ap, ◌∙◌, arith, eqb, get_or}
use Rattle.std.proofs.lemmas.Bool.{cases_order, eqb-true, eq-eqb, both_ways}
use Rattle.std.proofs.lemmas.List.Folds.{Any-from_list_any, list_any_at}
use Rattle.std.specs.List.{list_any}
use Rattle.std.specs.List.Sorted.{IsStrictlyIncreasing}
use Rattle.sw_region_flow.proofs.OneSites.{member_cases, member_first, member_later, no_member}
use Rattle.sw_region_flow.proofs.OneSites.{below_later, tail_rises, rising_same}
use Rattle.sw_region_flow.specs.Distinct.{distinct_count}

rising_cons : (y : ℕ) (zs : List ℕ) → ((m : ℕ) → Contains zs m → y < m) → IsStrictlyIncreasing zs
    → IsStrictlyIncreasing (y ∷ zs)
rising_cons y [] below rising = λ k within. absurd (omega arith)
rising_cons y (z ∷ zs) below rising = λ k within. at k within
  where
    at : (k : ℕ) → k + 1 < length (y ∷ z ∷ zs)
        → get_or (y ∷ z ∷ zs) k 0 < get_or (y ∷ z ∷ zs) (k + 1) 0
    at zero within = below z (member_first z zs)
    at (suc k) within =
        let next : suc (k + 1) ≡ suc k + 1 = omega arith in
        subst (λ n. get_or (z ∷ zs) k 0 < get_or (y ∷ z ∷ zs) n 0) next (rising k (omega arith))

-- the numbers of a list and one more
abbrev HasMore : ℕ → List ℕ → List ℕ → Type 0
HasMore n ys zs = ((m : ℕ) → Contains zs m → (m ≡ n) ⊎ Contains ys m)
    × ((m : ℕ) → (m ≡ n) ⊎ Contains ys m → Contains zs m)

in_front : (n : ℕ) (ys : List ℕ) → HasMore n ys (n ∷ ys)
in_front n ys = (λ m has. member_cases n ys m has, λ m has. back m has)
  where
    back : (m : ℕ) → (m ≡ n) ⊎ Contains ys m → Contains (n ∷ ys) m
    back m (inl e) = subst (λ x. Contains (n ∷ ys) x) (sym e) (member_first n ys)
    back m (inr has) = member_later n ys m has

after_first : (n y : ℕ) (ys zs : List ℕ) → HasMore n ys zs → HasMore n (y ∷ ys) (y ∷ zs)
after_first n y ys zs more = (λ m has. forth m has, λ m has. back m has)
  where
    forth : (m : ℕ) → Contains (y ∷ zs) m → (m ≡ n) ⊎ Contains (y ∷ ys) m
    forth m has = elim (member_cases y zs m has) [
      | inl e ↦ inr (subst (λ x. Contains (y ∷ ys) x) (sym e) (member_first y ys))
      | inr later ↦ elim (more.0 m later) [
        | inl e ↦ inl e
        | inr old ↦ inr (member_later y ys m old)
      ]
    ]

    back : (m : ℕ) → (m ≡ n) ⊎ Contains (y ∷ ys) m → Contains (y ∷ zs) m
    back m (inl e) = member_later y zs m (more.1 m (inl e))
    back m (inr has) = elim (member_cases y ys m has) [
      | inl e ↦ subst (λ x. Contains (y ∷ zs) x) (sym e) (member_first y zs)
      | inr old ↦ member_later y zs m (more.1 m (inr old))
    ]

put_in : (n : ℕ) (ys : List ℕ) → IsStrictlyIncreasing ys → (Contains ys n → ⊥)
    → (zs : List ℕ) × IsStrictlyIncreasing zs × HasMore n ys zs × (length zs ≡ suc (length ys))
put_in n [] rising new =
    (n ∷ [], rising_cons n [] (λ m none. absurd (no_member m none)) rising, in_front n [], refl)
put_in n (y ∷ ys) rising new = elim (cases_order n y) [
  | inl e ↦ absurd (new (subst (λ x. Contains (y ∷ ys) x) (sym e) (member_first y ys)))
  | inr apart ↦ elim apart [
    | inl lt ↦ (n ∷ y ∷ ys, rising_cons n (y ∷ ys) (above lt) rising, in_front n (y ∷ ys), refl)
    | inr gt ↦
        let h = put_in n ys (tail_rises y ys rising) (λ has. new (member_later y ys n has)) in (
          y ∷ h.0,
          rising_cons y h.0 (λ m has. lower gt m (h.2.0 m has)) h.1,
          after_first n y ys h.0 h.2,
          ap suc h.3,
        )
  ]
]
  where
    above : n < y → (m : ℕ) → Contains (y ∷ ys) m → n < m
    above lt m has = elim (member_cases y ys m has) [
      | inl e ↦ omega (arith, e)
      | inr later ↦ omega (arith, below_later y ys rising m later)
    ]

    lower : y < n → (m : ℕ) → (m ≡ n) ⊎ Contains ys m → y < m
    lower gt m (inl e) = omega (arith, e)
    lower gt m (inr has) = below_later y ys rising m has

any_here : (n : ℕ) (ns : List ℕ) → list_any (λ m. eqb m n) ns ≡ true → Contains ns n
any_here n ns e = let h = Any-from_list_any (λ m. eqb m n) ns e in
    (h.0, h.2, subst (λ x. get_or ns h.0 x ≡ n) refl (at h.0 h.1 h.2 h.3 (eqb-true h.1 n h.4)))
  where
    at : (k x : ℕ) → k < length ns → get_or ns k x ≡ x → x ≡ n → get_or ns k n ≡ n
    at k x within e same = subst (λ d. get_or ns k d ≡ d) same e

any_there : (n : ℕ) (ns : List ℕ) → Contains ns n → list_any (λ m. eqb m n) ns ≡ true
any_there n ns has = list_any_at (λ m. eqb m n) ns has.0 n has.1
    (eq-eqb (get_or ns has.0 n) n has.2)

-- a rising list of the numbers of a list
abbrev Rising : List ℕ → ℕ → Type 0
Rising ns count = (ys : List ℕ) × IsStrictlyIncreasing ys
    × ((m : ℕ) → Contains ys m ↔ Contains ns m) × (length ys ≡ count)

rise : (ns : List ℕ) → Rising ns (distinct_count ns)
rise [] = ([], λ k within. absurd (omega arith), λ m. (λ has. has, λ has. has), refl)
rise (n ∷ ns) = by (list_any (λ m. eqb m n) ns) refl (rise ns)
  where
    by : (b : Bool) → list_any (λ m. eqb m n) ns ≡ b → Rising ns (distinct_count ns)
        → Rising (n ∷ ns) ((if b then 0 else 1) + distinct_count ns)
    by true e h = (h.0, h.1, λ m. (forth m, back m), omega (arith, h.3))
      where
        forth : (m : ℕ) → Contains h.0 m → Contains (n ∷ ns) m
        forth m has = member_later n ns m ((h.2 m).0 has)

        back : (m : ℕ) → Contains (n ∷ ns) m → Contains h.0 m
        back m has = elim (member_cases n ns m has) [
          | inl same ↦ (h.2 m).1 (subst (λ x. Contains ns x) (sym same) (any_here n ns e))
          | inr later ↦ (h.2 m).1 later
        ]
    by false e h =
        let z = put_in n h.0 h.1 (λ has. both_ways (list_any (λ m. eqb m n) ns) e
        (any_there n ns ((h.2 n).0 has))) in (
          z.0,
          z.1,
          λ m. (λ has. forth m (z.2.0 m has), λ has. z.2.1 m (back m has)),
          omega (arith, z.3, h.3),
        )
      where
        forth : (m : ℕ) → (m ≡ n) ⊎ Contains h.0 m → Contains (n ∷ ns) m
        forth m (inl same) = subst (λ x. Contains (n ∷ ns) x) (sym same) (member_first n ns)
        forth m (inr has) = member_later n ns m ((h.2 m).0 has)

        back : (m : ℕ) → Contains (n ∷ ns) m → (m ≡ n) ⊎ Contains h.0 m
        back m has = elim (member_cases n ns m has) [
          | inl same ↦ inl same
          | inr later ↦ inr ((h.2 m).1 later)
        ]

pub length_is : (xs ns : List ℕ) → IsStrictlyIncreasing xs
    → ((m : ℕ) → Contains xs m ↔ Contains ns m) → length xs ≡ distinct_count ns
length_is xs ns rising same =
    let h = rise ns in
    ap length (rising_same xs h.0 rising h.1
    (λ m. (λ has. (h.2 m).1 ((same m).0 has), λ has. (same m).1 ((h.2 m).0 has)))) ∙ h.3
