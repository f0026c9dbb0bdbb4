-- How many rising pairs a function may have.
use Rattle.std.proofs.Common.{ℕ, suc, ◌+◌, ◌*◌, ◌<◌, ◌≤◌, inl, inr, List, [], ◌∷◌, length}
use Rattle.std.proofs.Common.{Contains, ap, arith}
use Rattle.std.proofs.lemmas.List.Sums.{get_or-le-sum_by}
use Rattle.std.specs.List.{AllByRecursion, sum_by}
use Rattle.sw_cert.proofs.Ranks.{rows_apart}
use Rattle.sw_cert.specs.Certificate.{IsPairBefore, ArePairsRising, IsPairOf}
use Rattle.sw_cert.specs.declared.line.Extent.{Extent}
use Rattle.sw_cert.specs.declared.line.Pair.{Pair}

module _ (extent : Extent) where
  -- past each site
  abbrev width : ℕ
  width = suc (sum_by (λ (site : ℕ). site) extent.sites)

  site_below : (site : ℕ) → Contains extent.sites site → site < width
  site_below site (k, within, at) = omega (
    arith,
    at,
    get_or-le-sum_by (λ (site : ℕ). site) extent.sites k site within,
  )

  -- a number for each pair, in rising order
  abbrev number : Pair → ℕ
  number pair = pair.element * width + pair.site

  -- past the number of each pair
  abbrev pub most_pairs : ℕ
  most_pairs = extent.elements * width

  number_below : (pair : Pair) → IsPairOf extent pair → number pair < most_pairs
  number_below pair is = omega (
    arith,
    rows_apart width pair.element extent.elements is.element,
    site_below pair.site is.site,
  )

  numbers_rise : (one other : Pair) → IsPairOf extent one → IsPairBefore one other
      → number one < number other
  numbers_rise one other is (inl lt) = omega (
    arith,
    rows_apart width one.element other.element lt,
    site_below one.site is.site,
  )
  numbers_rise one other is (inr (same, lt)) = omega (arith, lt, ap (λ n. n * width) same)

  few_from : (pair : Pair) (pairs : List Pair) → IsPairOf extent pair
      → AllByRecursion (IsPairOf extent) pairs → ArePairsRising (pair ∷ pairs)
      → number pair + length (pair ∷ pairs) ≤ most_pairs
  few_from pair [] is are rising = omega (arith, number_below pair is)
  few_from pair (other ∷ pairs) is are rising = omega (
    arith,
    numbers_rise pair other is rising.0,
    few_from other pairs are.0 are.1 rising.1,
  )

  pub few_pairs : (pairs : List Pair) → AllByRecursion (IsPairOf extent) pairs
      → ArePairsRising pairs → length pairs ≤ most_pairs
  few_pairs [] are rising = omega arith
  few_pairs (pair ∷ pairs) are rising =
      omega (arith, few_from pair pairs are.0 are.1 rising)
