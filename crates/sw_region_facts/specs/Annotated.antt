-- The region states of a function's points, in a graph in which each test passes.
use Rattle.std.specs.Prelude.{◌≡◌, ℕ, Option, Some, List, slice_get}
use Rattle.sw_graph.specs.declared.function.Function.{Function}
use Rattle.sw_graph.specs.declared.graph.Graph.{Graph}
use Rattle.sw_partition.specs.Regions.{Regions}
use Rattle.sw_region_flow.specs.Least.{IsLeast}
use Rattle.sw_region_flow.specs.Passing.{EachPasses}
use Rattle.sw_region_ops.specs.Setting.{setting_of}
use Rattle.sw_solve.specs.Annotation.{value_at}

-- The states are the least annotation of a function of the graph, and in it each test passes.
pub record Annotates (graph : Graph) (body : Function) (states : List (Option Regions)) : Type 0
  where
    pub number : ℕ
    pub is : slice_get graph.functions number ≡ Some body
    pub least : IsLeast (setting_of graph body) states
    pub passes : EachPasses (setting_of graph body) states

-- A state stands at a point, and this holds of it.
pub record StandsAt (states : List (Option Regions)) (p : ℕ) (Is : Regions → Type 0) : Type 0 where
  pub state : Regions
  pub stands : value_at states p ≡ Some state
  pub is : Is state
