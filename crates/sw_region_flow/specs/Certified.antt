-- Annotations of a function's blocks which show that each test passes (SE-0414, SE-0430): they need
-- not be the least.
use Rattle.std.specs.Prelude.{◌≡◌, ℕ, Option, Some, List, slice_get}
use Rattle.sw_graph.specs.declared.function.Function.{Function}
use Rattle.sw_graph.specs.declared.graph.Graph.{Graph}
use Rattle.sw_partition.specs.Regions.{Regions}
use Rattle.sw_region_flow.specs.Analysis.{block_ops_at, layout}
use Rattle.sw_region_flow.specs.Passing.{AllPass}
use Rattle.sw_region_flow.specs.Walks.{IsCopy}
use Rattle.sw_region_ops.specs.Setting.{FunctionSetting, setting_of}
use Rattle.sw_region_ops.specs.Sites.{AreSites}
use Rattle.sw_solve.specs.Annotation.{value_at}
use Rattle.sw_solve.specs.Layout.{BlocksClosed}

-- With what an annotation has at their beginnings, the operations of each block pass.
abbrev pub BlocksPass : FunctionSetting → List (Option Regions) → Type 0
BlocksPass setting states = (b : ℕ) (state copied : Regions) → value_at states b ≡ Some state
    → IsCopy state copied → AllPass (block_ops_at setting b) copied

-- an annotation of a function's blocks, over the sites at which the function gives elements away,
-- that is closed, and in which each test passes
pub record IsCertified (setting : FunctionSetting) (states : List (Option Regions)) : Type 0 where
  pub sites : List ℕ
  pub are_sites : AreSites setting sites
  pub closed : BlocksClosed (layout (record { setting = setting; sites = sites })) states
  pub passes : BlocksPass setting states

-- each function of the graph has such an annotation
abbrev pub HasCertified : Graph → Type 0
HasCertified graph = (number : ℕ) (body : Function) → slice_get graph.functions number ≡ Some body
    → (states : List (Option Regions)) × IsCertified (setting_of graph body) states
