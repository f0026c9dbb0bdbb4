-- What the operations do to a region state, after SE-0414.
use Rattle.std.specs.Prelude.{◌≡◌, ◌≢◌, ℕ, ◌<◌, ◌≤◌, List, length, slice_index, ◌↔◌, ◌⊎◌, ◌==◌}
use Rattle.std.specs.Prelude.{if◌then◌else◌}
use Rattle.sw_partition.specs.Regions.{Regions, Together, HasPair, HasSomePair}

-- each of the elements is alone, and there are no pairs
pub record IsBlank (elements : ℕ) (sites : List ℕ) (r : Regions) : Type 0 where
  pub elements_are : length r.labels ≡ elements
  pub sites_are : r.sites ≡ sites
  pub alone : (x y : ℕ) → Together r x y ↔ ((x ≡ y) × (x < elements))
  pub no_pairs : (x site : ℕ) → ¬ (HasPair r x site)

-- element x leaves its class and loses its pairs
pub record IsFreshened (x : ℕ) (old new : Regions) : Type 0 where
  pub elements_same : length new.labels ≡ length old.labels
  pub sites_same : new.sites ≡ old.sites
  pub together : (a b : ℕ) → Together new a b
      ↔ (((a ≡ b) × (a < length old.labels)) ⊎ ((a ≢ x) × (b ≢ x) × Together old a b))
  pub pairs : (a site : ℕ) → HasPair new a site ↔ ((a ≢ x) × HasPair old a site)

-- x where y stands in for it
abbrev pub stand_in : ℕ → ℕ → ℕ → ℕ
stand_in x y a = if a == x then y else a

-- element x leaves its class, loses its pairs, and becomes as y is: with y, and with y's pairs
pub record IsPut (x y : ℕ) (old new : Regions) : Type 0 where
  pub elements_same : length new.labels ≡ length old.labels
  pub sites_same : new.sites ≡ old.sites
  pub together : (a b : ℕ) → Together new a b ↔ Together old (stand_in x y a) (stand_in x y b)
  pub pairs : (a site : ℕ) → HasPair new a site ↔ HasPair old (stand_in x y a) site

-- the classes of x and y unite
pub record IsJoined (x y : ℕ) (old new : Regions) : Type 0 where
  pub elements_same : length new.labels ≡ length old.labels
  pub sites_same : new.sites ≡ old.sites
  pub together : (a b : ℕ) → Together new a b
      ↔ (Together old a b ⊎ ((Together old a x × Together old y b)
      ⊎ (Together old a y × Together old x b)))
  pub pairs : (a site : ℕ) → HasPair new a site ↔ HasPair old a site

-- every element of x's class but `Here`, which is element 0, gets a pair with the site
pub record IsGiven (x given : ℕ) (old new : Regions) : Type 0 where
  pub elements_same : length new.labels ≡ length old.labels
  pub sites_same : new.sites ≡ old.sites
  pub together : (a b : ℕ) → Together new a b ↔ Together old a b
  pub pairs : (a site : ℕ) → HasPair new a site
      ↔ (HasPair old a site ⊎ ((site ≡ given) × (a ≢ 0) × Together old a x))

-- element x, and no other of its class, gets a pair with the site
pub record IsGivenOne (x given : ℕ) (old new : Regions) : Type 0 where
  pub elements_same : length new.labels ≡ length old.labels
  pub sites_same : new.sites ≡ old.sites
  pub together : (a b : ℕ) → Together new a b ↔ Together old a b
  pub pairs : (a site : ℕ) → HasPair new a site
      ↔ (HasPair old a site ⊎ ((a ≡ x) × (site ≡ given)))

-- the elements are together for which the list has the same class
pub record IsClassed (classes : List ℕ) (old new : Regions) : Type 0 where
  pub elements_same : length new.labels ≡ length old.labels
  pub sites_same : new.sites ≡ old.sites
  pub together : (a b : ℕ) → Together new a b ↔ ((a < length old.labels)
      × (b < length old.labels) × (slice_index classes a ≡ slice_index classes b))
  pub pairs : (a site : ℕ) → HasPair new a site ↔ HasPair old a site

-- element x may be given away: it has no pair, and it is not with `Here`
abbrev pub IsFree : Regions → ℕ → Type 0
IsFree r x = (¬ (HasSomePair r x)) × (¬ (Together r x 0))

-- the least site that element x has a pair with
pub record IsLeastSite (r : Regions) (x site : ℕ) : Type 0 where
  pub there : HasPair r x site
  pub least : (other : ℕ) → HasPair r x other → site ≤ other
