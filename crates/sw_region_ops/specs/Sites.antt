-- The sites of a function's region states: the positions at which it gives elements away (SE-0414).
use Rattle.std.specs.Prelude.{ℕ, ◌↔◌, List, [], ◌∷◌, Contains, flat_map}
use Rattle.std.specs.List.Sorted.{IsStrictlyIncreasing}
use Rattle.sw_region_ops.specs.Setting.{FunctionSetting}
use Rattle.sw_region_ops.specs.Table.{block_ops}
use Rattle.sw_region_ops.specs.declared.op.Op.{Op}
use Rattle.sw_region_ops.specs.declared.op.Op.TheVariants.{Need, Free, Fresh, Put, Join, Give}

-- the site that an operation gives an element away at
abbrev pub site_of : Op → List ℕ
site_of (Give x site) = site ∷ []
site_of (Need x at) = []
site_of (Free x at code) = []
site_of (Fresh x) = []
site_of (Put x y) = []
site_of (Join x y) = []

abbrev pub sites_of : List Op → List ℕ
sites_of ops = flat_map site_of ops

-- all operations of a function, in the order of its points
abbrev pub body_ops : FunctionSetting → List Op
body_ops setting = flat_map (block_ops setting) setting.body.blocks

-- the sites at which a function gives elements away, each once, in rising order
pub record AreSites (setting : FunctionSetting) (sites : List ℕ) : Type 0 where
  pub rising : IsStrictlyIncreasing sites
  pub same : (site : ℕ) → Contains sites site ↔ Contains (sites_of (body_ops setting)) site
