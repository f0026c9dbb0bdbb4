-- The flows of a graph's functions give the form of its certificates.
use Rattle.std.proofs.Common.{◌≡◌, ℕ, zero, suc, ◌+◌, ◌-◌, ◌^◌, ◌<◌, ◌≤◌, inl, inr, Some, List, []}
use Rattle.std.proofs.Common.{◌∷◌, length, map, refl, sym, subst, ap, ◌∙◌, arith, get_or}
use Rattle.std.proofs.lemmas.Bool.{cases_lt}
use Rattle.std.proofs.lemmas.List.Elements.{All-from_recursion}
use Rattle.std.proofs.lemmas.Option.{slice_get_within}
use Rattle.std.proofs.lemmas.Nat.{mul-le}
use Rattle.std.specs.List.{slice_get, AllByRecursion}
use Rattle.std.specs.List.Sorted.{IsStrictlyIncreasing}
use Rattle.sw_list.proofs.ListLemmas.{at_index}
use Rattle.sw_region_ops.specs.Elements.{element_count}
use Rattle.sw_cert.specs.Begun.{IsScale, IsForm}
use Rattle.sw_cert.specs.Flows.{IsSized, AreSized, IsSmall, IsMostOf, extent_for}
use Rattle.sw_cert.specs.Form.{IsFit, pair_count}
use Rattle.sw_cert.specs.declared.flows.FunctionFlow.{FunctionFlow}
use Rattle.sw_cert.specs.declared.line.Extent.{Extent}

-- in a list that rises strictly each number is at least its index
at_least_index : (xs : List ℕ) → IsStrictlyIncreasing xs → (k : ℕ) → k < length xs
    → k ≤ get_or xs k 0
at_least_index xs rising zero within = omega arith
at_least_index xs rising (suc k) within =
    let next : k + 1 ≡ suc k = omega arith in
    let up = subst (λ n. get_or xs k 0 < get_or xs n 0) next (rising k (omega (arith, within))) in
    let below = at_least_index xs rising k (omega (arith, within)) in
    omega (arith, up, below)

-- so there are no more of them than their bound
few_rising : (xs : List ℕ) (bound : ℕ) → IsStrictlyIncreasing xs
    → AllByRecursion (λ x. x < bound) xs → length xs ≤ bound
few_rising xs bound rising small = elim (cases_lt bound (length xs)) [
  | inl more ↦ absurd (omega (
    arith,
    at_least_index xs rising bound more,
    All-from_recursion (λ x. x < bound) xs small bound 0 more,
  ))
  | inr few ↦ few
]

-- elements and sites with 32 bits have few pairs
pub few_pairs : (extent : Extent) → IsSmall extent → IsStrictlyIncreasing extent.sites
    → pair_count extent + 1 < 2 ^ 64
few_pairs extent small rising =
    let sites = few_rising extent.sites (2 ^ 32) rising small.sites in
    let elements : extent.elements - 1 ≤ 2 ^ 32 - 2 = omega (arith, small.elements) in
    let most = mul-le (extent.elements - 1) (length extent.sites) (2 ^ 32 - 2) (2 ^ 32) elements
    sites in
    omega (arith, most)

pub size_parts : (flow : FunctionFlow) → IsSized flow
    → (length flow.entry.labels ≡ element_count flow.blocks.setting.elements)
    × (flow.entry.sites ≡ flow.blocks.sites)
size_parts flow sized = let size = sized.size in (cc, cc)

wider : (xs : List ℕ) → AllByRecursion (λ x. x < 2 ^ 32) xs → AllByRecursion (λ x. x < 2 ^ 64) xs
wider [] small = tt
wider (x ∷ xs) (first, small) = (omega (arith, first), wider xs small)

fit_of : (flow : FunctionFlow) → IsSized flow → IsSmall (extent_for flow) → IsFit (extent_for flow)
fit_of flow sized small =
    let size = size_parts flow sized in
    let rising = subst IsStrictlyIncreasing (sym size.1) sized.fits.sites.rising in
    record {
      blocks = sized.fits.begins;
      elements = omega (arith, size.0);
      rising = rising;
      few_blocks = omega (arith, small.blocks);
      few_elements = omega (arith, small.elements);
      few_pairs = omega (arith, few_pairs (extent_for flow) small rising);
      small = wider flow.entry.sites small.sites;
    }

-- the extent of a function is that of its flow
pub extent_is : (flows : List FunctionFlow) (n : ℕ) (extent : Extent)
    → slice_get (map extent_for flows) n ≡ Some extent
    → (flow : FunctionFlow) × (slice_get flows n ≡ Some flow) × (extent_for flow ≡ extent)
extent_is [] n extent e = cc
extent_is (flow ∷ flows) zero extent e = (flow, refl, cc)
extent_is (flow ∷ flows) (suc n) extent e = extent_is flows n extent e

fit_at : (flows : List FunctionFlow) → AreSized flows
    → AllByRecursion IsSmall (map extent_for flows) → (n : ℕ) (extent : Extent)
    → slice_get (map extent_for flows) n ≡ Some extent → IsFit extent × IsSmall extent
fit_at flows sized small n extent e =
    let at = extent_is flows n extent e in
    let is_small = at_index IsSmall (map extent_for flows) n extent
    (All-from_recursion IsSmall (map extent_for flows) small) e in
    let there = subst IsSmall (sym at.2) is_small in
    (subst IsFit at.2 (fit_of at.0 (sized n at.0 at.1) there), is_small)

pub form_fits : (flows : List FunctionFlow) (extents : List Extent) (scale : List ℕ) (most : ℕ)
    → AreSized flows → extents ≡ map extent_for flows → AllByRecursion IsSmall extents
    → IsMostOf extents (length extents) most → most < 2 ^ 64 → length scale ≡ most
    → IsScale scale → IsForm (record { extents = extents; scale = scale })
form_fits flows extents scale most sized value small is_most few length_is is_scale =
    let fit : (n : ℕ) (extent : Extent) → slice_get extents n ≡ Some extent
    → IsFit extent × IsSmall extent = λ n extent e. fit_at flows sized (subst (AllByRecursion IsSmall) value small) n extent
    (ap (λ xs. slice_get xs n) (sym value) ∙ e) in
    record {
      fit = record {
        few = omega (arith, is_most.functions, few);
        each = λ n extent e. (fit n extent e).0;
      };
      scale = is_scale;
      few = omega (arith, length_is, few);
      functions = omega (arith, length_is, is_most.functions);
      each = λ n extent e.
          let h = is_most.each n extent (slice_get_within extents n extent e) e in
          let f = fit n extent e in (
            omega (arith, h.0, length_is),
            omega (arith, h.1, length_is),
            few_pairs extent f.1 f.0.rising,
          );
    }
