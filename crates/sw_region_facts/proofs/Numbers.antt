-- Elements of a frame and their numbers: what a region state says of the ones by the others.
use Rattle.std.proofs.Common.{◌≡◌, ◌≢◌, ℕ, ◌+◌, ◌*◌, ◌<◌, ◌⊎◌, Option, Some, None, List, length}
use Rattle.std.proofs.Common.{slice_index, refl, sym, subst, ap, ◌∙◌, arith, inl, inr}
use Rattle.sw_owner_facts.specs.View.{Element, Here, Register}
use Rattle.sw_partition.specs.Regions.{Regions, Together, HasPair}
use Rattle.sw_region_flow.specs.Passing.{IsNotGivenAway}
use Rattle.sw_region_ops.specs.Elements.{element_at}
use Rattle.sw_region_facts.specs.FrameRegions.{element_in, region_number, region_in, is_number_live}
use Rattle.sw_region_facts.specs.FrameRegions.{TogetherIn, LiveIn, HaveOwnNumbers, IsStateOf}
use Rattle.sw_region_facts.proofs.Live.{live_without_pair, without_pair_live}

-- an element has a number, or is a register that isn't tracked
pub cases_in : (elements : List (Option ℕ)) (e : Element)
    → ((x : ℕ) × (element_in elements e ≡ Some x))
    ⊎ ((r : ℕ) × (e ≡ Register r) × (element_at elements r ≡ None))
cases_in elements Here = inl (0, refl)
cases_in elements (Register r) = by (element_at elements r) refl where
  by : (o : Option ℕ) → element_at elements r ≡ o
      → ((x : ℕ) × (element_in elements (Register r) ≡ Some x))
      ⊎ ((s : ℕ) × (Register r ≡ Register s) × (element_at elements s ≡ None))
  by (Some x) is = inl (x, is)
  by None is = inr (r, refl, is)

region_is : (elements : List (Option ℕ)) (a : Regions) (e : Element) (x : ℕ)
    → element_in elements e ≡ Some x → region_in elements a e ≡ 2 * slice_index a.labels x
region_is elements a Here x is =
    let same : 0 ≡ x = cc in ap (λ y. 2 * slice_index a.labels y) same
region_is elements a (Register r) x is = ap (region_number a r) is

-- a register that isn't tracked is together with itself alone
pub alone_is : (elements : List (Option ℕ)) (a : Regions) (r : ℕ) (f : Element)
    → element_at elements r ≡ None → TogetherIn elements a (Register r) f → f ≡ Register r
alone_is elements a r f none together = elim (cases_in elements f) [
  | inl (y, is) ↦ absurd (odd_even (slice_index a.labels y) (sym (region_here r none)
      ∙ together ∙ region_is elements a f y is))
  | inr (s, is, untracked) ↦
      let same = sym (region_here r none) ∙ together
      ∙ ap (region_in elements a) is ∙ region_here s untracked in
      is ∙ ap Register (omega (arith, same))
]
  where
    region_here : (s : ℕ) → element_at elements s ≡ None
        → region_in elements a (Register s) ≡ 2 * s + 1
    region_here s none = ap (region_number a s) none

    odd_even : (l : ℕ) → 2 * r + 1 ≡ 2 * l → ⊥
    odd_even l e = omega (arith, e)

-- what isn't tracked is live
pub untracked_live : (elements : List (Option ℕ)) (a : Regions) (r : ℕ)
    → element_at elements r ≡ None → LiveIn elements a (Register r)
untracked_live elements a r none = ap (is_number_live a) none

-- what is together by the numbers
pub together_from : (elements : List (Option ℕ)) (a : Regions) (e f : Element) (x y : ℕ)
    → element_in elements e ≡ Some x → element_in elements f ≡ Some y → Together a x y
    → TogetherIn elements a e f
together_from elements a e f x y is other together =
    region_is elements a e x is ∙ ap (λ n. 2 * n) together.same
    ∙ sym (region_is elements a f y other)

module _ (elements : List (Option ℕ)) (own : HaveOwnNumbers elements) where
  pub nonzero : (r x : ℕ) → element_at elements r ≡ Some x → x ≢ 0
  nonzero r x is = (own.are.within r x is).0

  -- another element has another number
  pub other_number : (r x : ℕ) → element_at elements r ≡ Some x → (e : Element) (w : ℕ)
      → element_in elements e ≡ Some w → e ≢ Register r → w ≢ x
  other_number r x is Here w at differ same =
      let here : 0 ≡ w = cc in nonzero r x is (sym (here ∙ same))
  other_number r x is (Register s) w at differ same =
      differ (ap Register (own.apart s r x (at ∙ ap Some same) is))

  pub inside : (a : Regions) → IsStateOf elements a → (e : Element) (x : ℕ)
      → element_in elements e ≡ Some x → x < length a.labels
  inside a sized Here x is = let e : 0 ≡ x = cc in omega (arith, sized, e)
  inside a sized (Register r) x is = subst (λ n. x < n) (sym sized) (own.are.within r x is).1

  pub together_itself : (a : Regions) → IsStateOf elements a → (e : Element) (x : ℕ)
      → element_in elements e ≡ Some x → Together a x x
  together_itself a sized e x is =
      record { left = inside a sized e x is; right = inside a sized e x is; same = refl }

  pub together_tells : (a : Regions) → IsStateOf elements a → (e f : Element) (x y : ℕ)
      → element_in elements e ≡ Some x → element_in elements f ≡ Some y → TogetherIn elements a e f
      → Together a x y
  together_tells a sized e f x y is other together = record {
    left = inside a sized e x is;
    right = inside a sized f y other;
    same = (let t : 2 * slice_index a.labels x ≡ 2 * slice_index a.labels y =
        sym (region_is elements a e x is) ∙ together ∙ region_is elements a f y other in
        omega (arith, t));
  }

  -- what has no pair is live, and the other way round
  pub live_from : (a : Regions) → IsStateOf elements a → (e : Element) (x : ℕ)
      → element_in elements e ≡ Some x → IsNotGivenAway a x → LiveIn elements a e
  live_from a sized Here x is none = tt
  live_from a sized (Register r) x is none =
      ap (is_number_live a) is
      ∙ without_pair_live a x (inside a sized (Register r) x is) none

  pub live_tells : (a : Regions) (r x : ℕ) → element_at elements r ≡ Some x
      → LiveIn elements a (Register r) → IsNotGivenAway a x
  live_tells a r x is live = live_without_pair a x (sym (ap (is_number_live a) is) ∙ live)

  -- elements are together in b, if their numbers are where they are together in a
  pub together_by : (a b : Regions) → IsStateOf elements a → (e f : Element)
      → ((x y : ℕ) → element_in elements e ≡ Some x → element_in elements f ≡ Some y
      → Together a x y → Together b x y)
      → TogetherIn elements a e f → TogetherIn elements b e f
  together_by a b sized e f more together = elim (cases_in elements e) [
    | inr (r, is, none) ↦
        let same : f ≡ Register r = alone_is elements a r f none
        (ap (region_in elements a) (sym is) ∙ together) in
        ap (region_in elements b) (is ∙ sym same)
    | inl (x, is) ↦ elim (cases_in elements f) [
      | inr (s, there, none) ↦
          let same : e ≡ Register s = alone_is elements a s e none
          (ap (region_in elements a) (sym there) ∙ sym together) in
          ap (region_in elements b) (same ∙ sym there)
      | inl (y, other) ↦ together_from elements b e f x y is other
          (more x y is other (together_tells a sized e f x y is other together))
    ]
  ]

  -- an element is live in a, if no pair of its number in a is lost in b
  pub live_by : (a b : Regions) → IsStateOf elements a → (e : Element)
      → ((x site : ℕ) → element_in elements e ≡ Some x → HasPair a x site → HasPair b x site)
      → LiveIn elements b e → LiveIn elements a e
  live_by a b sized Here more live = tt
  live_by a b sized (Register r) more live = by (element_at elements r) refl where
    by : (o : Option ℕ) → element_at elements r ≡ o → LiveIn elements a (Register r)
    by None none = untracked_live elements a r none
    by (Some x) is = live_from a sized (Register r) x is
        (λ pair. live_tells b r x is live (pair.0, more x pair.0 is pair.1))
