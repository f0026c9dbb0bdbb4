-- What operations make of a region state, by their effects.
use Rattle.std.specs.Prelude.{◌≡◌, ◌≢◌, ℕ, ◌<◌, List, [], ◌∷◌, Contains}
use Rattle.sw_partition.specs.Effects.{IsFreshened, IsPut, IsJoined, IsGiven}
use Rattle.sw_partition.specs.Regions.{Regions}
use Rattle.sw_region_ops.specs.declared.op.Op.{Op}
use Rattle.sw_region_ops.specs.declared.op.Op.TheVariants.{Need, Free, Fresh, Put, Join, Give}

-- the operation makes the second state of the first; a test changes nothing
abbrev pub Applies : Op → Regions → Regions → Type 0
Applies (Need x at) a b = b ≡ a
Applies (Free x at code) a b = b ≡ a
Applies (Fresh x) a b = IsFreshened x a b
Applies (Put x y) a b = IsPut x y a b
Applies (Join x y) a b = IsJoined x y a b
Applies (Give x site) a b = IsGiven x site a b

-- the operations, one after the other, make the second state of the first
abbrev pub Runs : List Op → Regions → Regions → Type 0
Runs [] a b = b ≡ a
Runs (op ∷ ops) a b = (m : Regions) × Applies op a m × Runs ops m b

-- the operation speaks of elements below a count and of one of the sites, and changes or gives
-- away another element than `Here`
abbrev pub FitsIn : ℕ → List ℕ → Op → Type 0
FitsIn count sites (Need x at) = x < count
FitsIn count sites (Free x at code) = x < count
FitsIn count sites (Fresh x) = (x ≢ 0) × (x < count)
FitsIn count sites (Put x y) = (x ≢ 0) × (x < count) × (y < count)
FitsIn count sites (Join x y) = (x < count) × (y < count)
FitsIn count sites (Give x site) = (x ≢ 0) × (x < count) × Contains sites site

-- the operation can be done in states of this size: a number of elements, and sites
abbrev pub Fits : List ℕ → Op → Type 0
Fits [] op = ⊥
Fits (count ∷ sites) op = FitsIn count sites op
