-- A region state that is given pairs.
use Rattle.std.specs.Prelude.{◌≡◌, ◌≢◌, ℕ, ◌<◌, ◌↔◌, ◌⊎◌, List, length, Contains}
use Rattle.sw_partition.specs.Regions.{Regions, Together, HasPair}
use Rattle.sw_cert.specs.declared.line.Pair.{Pair}

-- the pairs are of elements but `Here` and sites that the state has
pub record ArePairsIn (r : Regions) (pairs : List Pair) : Type 0 where
  pub each : (pair : Pair) → Contains pairs pair
      → (pair.element ≢ 0) × (pair.element < length r.labels) × Contains r.sites pair.site

-- the second state has these pairs more than the first
pub record IsGivenAll (old : Regions) (given : List Pair) (new : Regions) : Type 0 where
  pub elements_same : length new.labels ≡ length old.labels
  pub sites_same : new.sites ≡ old.sites
  pub together : (x y : ℕ) → Together new x y ↔ Together old x y
  pub pairs : (x site : ℕ) → HasPair new x site
      ↔ (HasPair old x site ⊎ Contains given (record { element = x; site = site }))
