-- The classes and the pairs of a state, gathered element by element.
use Rattle.std.proofs.Common.{◌≡◌, ℕ, suc, ◌+◌, ◌<◌, ◌≤◌, inl, inr, ◌⊎◌, ◌↔◌, List, [], ◌∷◌, ◌++◌}
use Rattle.std.proofs.Common.{length, slice_index, Contains, refl, sym, subst, ap, ◌∙◌, arith}
use Rattle.std.proofs.Common.{length-append}
use Rattle.std.specs.List.Sorted.{IsStrictlyIncreasing}
use Rattle.std.proofs.lemmas.Bool.{cases_eq}
use Rattle.std.proofs.lemmas.List.{get_or_push, get_or_append_left}
use Rattle.std.proofs.lemmas.List.Elements.{Contains-append_left, Contains-push}
use Rattle.std.proofs.lemmas.List.Elements.{Contains-push_cases}
use Rattle.sw_partition.proofs.Answering.{rising_lt}
use Rattle.sw_partition.specs.Regions.{Regions, Together, HasPair, HasSomePair}
use Rattle.sw_cert.specs.Certificate.{IsPairBefore, ArePairsRising}
use Rattle.sw_cert.specs.Shown.{AreClassesOf, ArePairsBelow}
use Rattle.sw_cert.specs.declared.line.Pair.{Pair}

-- the classes of the elements below a count
pub record AreFirstClasses (r : Regions) (count : ℕ) (classes : List ℕ) : Type 0 where
  pub count_is : length classes ≡ count
  pub class : (x : ℕ) → x < count → Together r x (slice_index classes x)
  pub least : (x y : ℕ) → x < count → Together r x y → slice_index classes x ≤ y

pub classes_start : (r : Regions) → AreFirstClasses r 0 []
classes_start r = record {
  count_is = refl;
  class = λ x lt. absurd (omega (arith, lt));
  least = λ x y lt together. absurd (omega (arith, lt));
}

pub classes_more : (r : Regions) (count class : ℕ) (classes new : List ℕ)
    → AreFirstClasses r count classes → Together r count class
    → ((y : ℕ) → Together r count y → class ≤ y) → new ≡ classes ++ class ∷ []
    → AreFirstClasses r (count + 1) new
classes_more r count class classes new so_far together least is = record {
  count_is = ap length is ∙ length-append classes (class ∷ []) ∙ ap (λ n. n + 1) so_far.count_is;
  class = λ x lt. elim (cases_eq x count) [
    | inl e ↦ subst (λ n. Together r n (slice_index new n)) (sym e)
        (subst (λ c. Together r count c) (sym at_end) together)
    | inr ne ↦ subst (λ c. Together r x c) (sym (before x (omega (arith, lt, ne))))
        (so_far.class x (omega (arith, lt, ne)))
  ];
  least = λ x y lt t. elim (cases_eq x count) [
    | inl e ↦ (let h = least y (subst (λ n. Together r n y) e t) in
        omega (arith, h, ap (slice_index new) e, at_end))
    | inr ne ↦ (let h = so_far.least x y (omega (arith, lt, ne)) t in
        omega (arith, h, before x (omega (arith, lt, ne))))
  ];
}
  where
    at_end : slice_index new count ≡ class
    at_end = ap (λ l. slice_index l count) is ∙ get_or_push classes class 0 count so_far.count_is

    before : (x : ℕ) → x < count → slice_index new x ≡ slice_index classes x
    before x lt = ap (λ l. slice_index l x) is
        ∙ get_or_append_left classes (class ∷ []) 0 x (omega (arith, lt, so_far.count_is))

pub classes_end : (r : Regions) (count : ℕ) (classes : List ℕ) → count ≡ length r.labels
    → AreFirstClasses r count classes → AreClassesOf r classes
classes_end r count classes all so_far = record {
  elements = so_far.count_is ∙ all;
  class = λ x lt. so_far.class x (omega (arith, lt, all));
  least = λ x y t. so_far.least x y (omega (arith, all, t.left)) t;
}

-- ---- pairs
-- one pair more, behind all others
rising_push : (pairs : List Pair) (pair : Pair)
    → ((one : Pair) → Contains pairs one → IsPairBefore one pair) → ArePairsRising pairs
    → ArePairsRising (pairs ++ pair ∷ [])
rising_push [] pair before rising = tt
rising_push (one ∷ []) pair before rising = (before one (0, omega arith, refl), tt)
rising_push (one ∷ other ∷ pairs) pair before rising = (
  rising.0,
  rising_push (other ∷ pairs) pair (λ p (k, within, e). before p (suc k, omega arith, e)) rising.1,
)

-- the pairs of the elements below one, and those of this element with the first sites
pub record ArePairsTo (r : Regions) (element count : ℕ) (pairs : List Pair) : Type 0 where
  pub same : (pair : Pair) → Contains pairs pair
      ↔ (((pair.element < element) × HasPair r pair.element pair.site)
      ⊎ ((pair.element ≡ element) × HasPair r element pair.site
      × ((k : ℕ) × (k < count) × (slice_index r.sites k ≡ pair.site))))
  pub rising : ArePairsRising pairs

pub row_starts : (r : Regions) (element : ℕ) (pairs : List Pair) → ArePairsBelow r element pairs
    → ArePairsTo r element 0 pairs
row_starts r element pairs below = record {
  same = λ pair. (
    λ has. inl ((below.same pair).0 has),
    λ is. (below.same pair).1 (only pair is),
  );
  rising = below.rising;
}
  where
    only : (pair : Pair) → (((pair.element < element) × HasPair r pair.element pair.site)
        ⊎ ((pair.element ≡ element) × HasPair r element pair.site
        × ((k : ℕ) × (k < 0) × (slice_index r.sites k ≡ pair.site))))
        → (pair.element < element) × HasPair r pair.element pair.site
    only pair (inl is) = is
    only pair (inr (e, has, (k, lt, at))) = absurd (omega (arith, lt))

abbrev pair_of : ℕ → ℕ → Pair
pair_of element site = record { element = element; site = site }

pub row_has : (r : Regions) (element count site : ℕ) (pairs new : List Pair)
    → IsStrictlyIncreasing r.sites → count < length r.sites → slice_index r.sites count ≡ site
    → ArePairsTo r element count pairs → HasPair r element site
    → new ≡ pairs ++ pair_of element site ∷ [] → ArePairsTo r element (count + 1) new
row_has r element count site pairs new rises within at to has is =
    subst (ArePairsTo r element (count + 1)) (sym is) (record {
      same = λ pair. (λ there. forth pair there, λ h. back pair h);
      rising = rising_push pairs (pair_of element site)
          (λ one there. before one ((to.same one).0 there)) to.rising;
    })
  where
    before : (one : Pair) → (((one.element < element) × HasPair r one.element one.site)
        ⊎ ((one.element ≡ element) × HasPair r element one.site
        × ((k : ℕ) × (k < count) × (slice_index r.sites k ≡ one.site))))
        → IsPairBefore one (pair_of element site)
    before one (inl (lt, pair)) = inl lt
    before one (inr (e, pair, (k, lt, is_k))) =
        inr (e, omega (arith, rising_lt r.sites rises k count lt within, is_k, at))

    forth : (pair : Pair) → Contains (pairs ++ pair_of element site ∷ []) pair
        → (((pair.element < element) × HasPair r pair.element pair.site)
        ⊎ ((pair.element ≡ element) × HasPair r element pair.site
        × ((k : ℕ) × (k < count + 1) × (slice_index r.sites k ≡ pair.site))))
    forth pair there = elim (Contains-push_cases pairs (pair_of element site) pair there) [
      | inl old ↦ wider pair ((to.same pair).0 old)
      | inr e ↦ inr (
        sym (ap (λ (p : Pair). p.element) e),
        subst (HasPair r element) (ap (λ (p : Pair). p.site) e) has,
        (count, omega arith, at ∙ ap (λ (p : Pair). p.site) e),
      )
    ]
      where
        wider : (pair : Pair) → (((pair.element < element) × HasPair r pair.element pair.site)
            ⊎ ((pair.element ≡ element) × HasPair r element pair.site
            × ((k : ℕ) × (k < count) × (slice_index r.sites k ≡ pair.site))))
            → (((pair.element < element) × HasPair r pair.element pair.site)
            ⊎ ((pair.element ≡ element) × HasPair r element pair.site
            × ((k : ℕ) × (k < count + 1) × (slice_index r.sites k ≡ pair.site))))
        wider pair (inl h) = inl h
        wider pair (inr (e, h, (k, lt, is_k))) = inr (e, h, (k, omega (arith, lt), is_k))

    same_pair : (pair : Pair) → pair.element ≡ element → pair.site ≡ site
        → pair_of element site ≡ pair
    same_pair pair e s = ap (λ x. pair_of x site) (sym e) ∙ ap (λ y. pair_of pair.element y) (sym s)

    back : (pair : Pair) → (((pair.element < element) × HasPair r pair.element pair.site)
        ⊎ ((pair.element ≡ element) × HasPair r element pair.site
        × ((k : ℕ) × (k < count + 1) × (slice_index r.sites k ≡ pair.site))))
        → Contains (pairs ++ pair_of element site ∷ []) pair
    back pair (inl h) = Contains-append_left pairs (pair_of element site ∷ []) pair
        ((to.same pair).1 (inl h))
    back pair (inr (e, h, (k, lt, is_k))) = elim (cases_eq k count) [
      | inl last ↦ subst (λ p. Contains (pairs ++ pair_of element site ∷ []) p)
          (same_pair pair e (sym is_k ∙ ap (slice_index r.sites) last ∙ at))
          (Contains-push pairs (pair_of element site))
      | inr first ↦ Contains-append_left pairs (pair_of element site ∷ []) pair
          ((to.same pair).1 (inr (e, h, (k, omega (arith, lt, first), is_k))))
    ]

pub row_lacks : (r : Regions) (element count site : ℕ) (pairs : List Pair)
    → slice_index r.sites count ≡ site → ArePairsTo r element count pairs
    → (HasPair r element site → ⊥) → ArePairsTo r element (count + 1) pairs
row_lacks r element count site pairs at to lacks = record {
  same = λ pair. (
    λ there. wider pair ((to.same pair).0 there),
    λ h. (to.same pair).1 (narrower pair h),
  );
  rising = to.rising;
}
  where
    wider : (pair : Pair) → (((pair.element < element) × HasPair r pair.element pair.site)
        ⊎ ((pair.element ≡ element) × HasPair r element pair.site
        × ((k : ℕ) × (k < count) × (slice_index r.sites k ≡ pair.site))))
        → (((pair.element < element) × HasPair r pair.element pair.site)
        ⊎ ((pair.element ≡ element) × HasPair r element pair.site
        × ((k : ℕ) × (k < count + 1) × (slice_index r.sites k ≡ pair.site))))
    wider pair (inl h) = inl h
    wider pair (inr (e, h, (k, lt, is_k))) = inr (e, h, (k, omega (arith, lt), is_k))

    narrower : (pair : Pair) → (((pair.element < element) × HasPair r pair.element pair.site)
        ⊎ ((pair.element ≡ element) × HasPair r element pair.site
        × ((k : ℕ) × (k < count + 1) × (slice_index r.sites k ≡ pair.site))))
        → (((pair.element < element) × HasPair r pair.element pair.site)
        ⊎ ((pair.element ≡ element) × HasPair r element pair.site
        × ((k : ℕ) × (k < count) × (slice_index r.sites k ≡ pair.site))))
    narrower pair (inl h) = inl h
    narrower pair (inr (e, h, (k, lt, is_k))) = elim (cases_eq k count) [
      | inl last ↦ absurd (lacks (subst (HasPair r element)
          (sym is_k ∙ ap (slice_index r.sites) last ∙ at) h))
      | inr first ↦ inr (e, h, (k, omega (arith, lt, first), is_k))
    ]

pub row_ends : (r : Regions) (element count : ℕ) (pairs : List Pair) → length r.sites ≤ count
    → ArePairsTo r element count pairs → ArePairsBelow r (element + 1) pairs
row_ends r element count pairs past to = record {
  same = λ pair. (
    λ there. forth pair ((to.same pair).0 there),
    λ (lt, has). (to.same pair).1 (back pair lt has),
  );
  rising = to.rising;
}
  where
    forth : (pair : Pair) → (((pair.element < element) × HasPair r pair.element pair.site)
        ⊎ ((pair.element ≡ element) × HasPair r element pair.site
        × ((k : ℕ) × (k < count) × (slice_index r.sites k ≡ pair.site))))
        → (pair.element < element + 1) × HasPair r pair.element pair.site
    forth pair (inl (lt, has)) = (omega (arith, lt), has)
    forth pair (inr (e, has, k)) =
        (omega (arith, e), subst (λ x. HasPair r x pair.site) (sym e) has)

    back : (pair : Pair) → pair.element < element + 1 → HasPair r pair.element pair.site
        → (((pair.element < element) × HasPair r pair.element pair.site)
        ⊎ ((pair.element ≡ element) × HasPair r element pair.site
        × ((k : ℕ) × (k < count) × (slice_index r.sites k ≡ pair.site))))
    back pair lt has = elim (cases_eq pair.element element) [
      | inl e ↦ inr (
        e,
        subst (λ x. HasPair r x pair.site) e has,
        (has.column, omega (arith, has.in_range, past), has.is_site),
      )
      | inr ne ↦ inl (omega (arith, lt, ne), has)
    ]

-- an element without pairs
pub row_empty : (r : Regions) (element : ℕ) (pairs : List Pair) → ArePairsBelow r element pairs
    → (HasSomePair r element → ⊥) → ArePairsBelow r (element + 1) pairs
row_empty r element pairs below none = record {
  same = λ pair. (
    λ there. let h = (below.same pair).0 there in (omega (arith, h.0), h.1),
    λ (lt, has). (below.same pair).1 (elim (cases_eq pair.element element) [
      | inl e ↦ absurd (none (pair.site, subst (λ x. HasPair r x pair.site) e has))
      | inr ne ↦ (omega (arith, lt, ne), has)
    ]),
  );
  rising = below.rising;
}

pub none_below : (r : Regions) → ArePairsBelow r 0 []
none_below r = record {
  same = λ pair. (
    λ (k, within, e). absurd (omega arith),
    λ (lt, has). absurd (omega (arith, lt)),
  );
  rising = tt;
}
