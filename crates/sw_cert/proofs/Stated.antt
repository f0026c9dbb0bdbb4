-- The region state of a line: its pairs are given one by one, then its classes are set.
use Rattle.std.proofs.Common.{◌≡◌, ℕ, ◌<◌, ◌⊎◌, inl, inr, List, [], ◌∷◌, ◌++◌, length}
use Rattle.std.proofs.Common.{slice_index, Contains, refl, sym, subst, ap, ◌∙◌, arith}
use Rattle.std.specs.List.{AllByRecursion}
use Rattle.std.proofs.lemmas.List.Elements.{Contains-append_left, Contains-push}
use Rattle.std.proofs.lemmas.List.Elements.{Contains-push_cases}
use Rattle.sw_partition.specs.Effects.{IsBlank, IsGivenOne, IsClassed}
use Rattle.sw_partition.specs.Regions.{Regions, HasPair}
use Rattle.sw_partition.specs.Tables.{AreLabels}
use Rattle.sw_region_flow.proofs.OneSites.{member_cases, no_member}
use Rattle.sw_cert.specs.Certificate.{AreClasses, ArePairsRising, IsPairOf}
use Rattle.sw_cert.specs.Shown.{Shows}
use Rattle.sw_cert.specs.Stating.{ArePairsIn, IsGivenAll}
use Rattle.sw_cert.specs.declared.line.Extent.{Extent}
use Rattle.sw_cert.specs.declared.line.Line.{Line}
use Rattle.sw_cert.specs.declared.line.Pair.{Pair}

-- ---- pairs
pub none_given : (r : Regions) → IsGivenAll r [] r
none_given r = record {
  elements_same = refl;
  sites_same = refl;
  together = λ x y. (λ t. t, λ t. t);
  pairs = λ x site. (λ has. inl has, λ has. only has);
}
  where
    only : {x site : ℕ} → HasPair r x site
        ⊎ Contains {X = Pair} [] (record { element = x; site = site })
        → HasPair r x site
    only (inl has) = has
    only (inr (k, within, at)) = absurd (omega (arith, within))

pub given_more : (old mid new : Regions) (given more : List Pair) (pair : Pair)
    → IsGivenAll old given mid → IsGivenOne pair.element pair.site mid new
    → more ≡ given ++ pair ∷ [] → IsGivenAll old more new
given_more old mid new given more pair so_far gives is =
    subst (λ l. IsGivenAll old l new) (sym is) (record {
      elements_same = gives.elements_same ∙ so_far.elements_same;
      sites_same = gives.sites_same ∙ so_far.sites_same;
      together = λ x y. (
        λ t. (so_far.together x y).0 ((gives.together x y).0 t),
        λ t. (gives.together x y).1 ((so_far.together x y).1 t),
      );
      pairs = λ x site. (λ has. forth x site ((gives.pairs x site).0 has), back x site);
    })
  where
    same_pair : (x site : ℕ) → x ≡ pair.element → site ≡ pair.site
        → pair ≡ record { element = x; site = site }
    same_pair x site e s = ap (λ a. record { element = a; site = pair.site }) (sym e)
        ∙ ap (λ b. record { element = x; site = b }) (sym s)

    forth : (x site : ℕ) → (HasPair mid x site ⊎ ((x ≡ pair.element) × (site ≡ pair.site)))
        → HasPair old x site
        ⊎ Contains (given ++ pair ∷ []) (record { element = x; site = site })
    forth x site (inl has) = elim ((so_far.pairs x site).0 has) [
      | inl first ↦ inl first
      | inr there ↦ inr (Contains-append_left given (pair ∷ [])
          (record { element = x; site = site }) there)
    ]
    forth x site (inr (e, s)) =
        inr (subst (Contains (given ++ pair ∷ [])) (same_pair x site e s)
        (Contains-push given pair))

    back : (x site : ℕ) → HasPair old x site
        ⊎ Contains (given ++ pair ∷ []) (record { element = x; site = site })
        → HasPair new x site
    back x site (inl has) = (gives.pairs x site).1 (inl ((so_far.pairs x site).1 (inl has)))
    back x site (inr there) =
        elim (Contains-push_cases given pair (record { element = x; site = site }) there) [
          | inl old_one ↦ (gives.pairs x site).1 (inl ((so_far.pairs x site).1 (inr old_one)))
          | inr e ↦ (gives.pairs x site).1 (inr (
            sym (ap (λ (p : Pair). p.element) e),
            sym (ap (λ (p : Pair). p.site) e),
          ))
        ]

-- pairs of a line, in a state that has its elements and sites
pair_of : (extent : Extent) (pairs : List Pair) → AllByRecursion (IsPairOf extent) pairs
    → (pair : Pair) → Contains pairs pair → IsPairOf extent pair
pair_of extent [] all pair has = absurd (no_member pair has)
pair_of extent (first ∷ pairs) all pair has = elim (member_cases first pairs pair has) [
  | inl e ↦ subst (IsPairOf extent) (sym e) all.0
  | inr later ↦ pair_of extent pairs all.1 pair later
]

pub pairs_in_blank : (blocks elements : ℕ) (sites : List ℕ) (blank : Regions) (pairs : List Pair)
    → AllByRecursion (IsPairOf (record { blocks = blocks; elements = elements; sites = sites }))
    pairs → IsBlank elements sites blank → ArePairsIn blank pairs
pairs_in_blank blocks elements sites blank pairs all is = record {
  each = λ pair has.
      let fits = pair_of (record { blocks = blocks; elements = elements; sites = sites }) pairs all
      pair has in (
        fits.not_here,
        omega (arith, fits.element, is.elements_are),
        subst (λ l. Contains l pair.site) (sym is.sites_are) fits.site,
      );
}

-- ---- classes
pub are_labels : (classes : List ℕ) → AreClasses classes → AreLabels classes
are_labels classes are = record {
  within = λ x lt. (let le = (are x lt).0 in omega (arith, le, lt));
  own = λ x lt. (are x lt).1;
}

-- ---- the line shows the state
pub all_shown : (line : Line) (elements : ℕ) (sites : List ℕ) (blank mid new : Regions)
    → IsBlank elements sites blank → length line.classes ≡ elements → AreClasses line.classes
    → ArePairsIn blank line.pairs → ArePairsRising line.pairs → IsGivenAll blank line.pairs mid
    → IsClassed line.classes mid new → Shows line new
all_shown line elements sites blank mid new is_blank count are pairs_in rising given classed =
    record {
      classes = record {
        elements = count ∙ sym labels;
        class = λ x lt.
            let h = are x (omega (arith, lt, labels, count)) in
            (classed.together x (slice_index line.classes x)).1 (
              omega (arith, lt, classed.elements_same),
              omega (arith, lt, classed.elements_same, h.0),
              sym h.1,
            );
        least = λ x y t.
            let h = (classed.together x y).0 t in
            let le = (are y (omega (arith, h.1, labels, count, classed.elements_same))).0 in
            omega (arith, le, h.2);
      };
      pairs = record { same = λ pair. (forth pair, back pair); rising = rising };
    }
  where
    labels : length new.labels ≡ elements
    labels = classed.elements_same ∙ given.elements_same ∙ is_blank.elements_are

    forth : (pair : Pair) → Contains line.pairs pair
        → (pair.element < length new.labels) × HasPair new pair.element pair.site
    forth pair there = let h = pairs_in.each pair there in (
      omega (arith, h.1, labels, is_blank.elements_are),
      (classed.pairs pair.element pair.site).1 ((given.pairs pair.element pair.site).1
          (inr there)),
    )

    back : (pair : Pair) → (pair.element < length new.labels) × HasPair new pair.element pair.site
        → Contains line.pairs pair
    back pair (lt, has) =
        elim ((given.pairs pair.element pair.site).0
        ((classed.pairs pair.element pair.site).0 has)) [
          | inl first ↦ absurd (is_blank.no_pairs pair.element pair.site first)
          | inr there ↦ there
        ]
