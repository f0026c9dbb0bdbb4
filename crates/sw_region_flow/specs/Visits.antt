-- The tests that fail on the ways through the first blocks of a function, and in the first
-- functions of a graph.
use Rattle.std.specs.Prelude.{◌≡◌, ℕ, ◌<◌, Option, Some, List, slice_get}
use Rattle.sw_breach.specs.declared.Breach.{Breach}
use Rattle.sw_graph.specs.declared.function.Function.{Function}
use Rattle.sw_graph.specs.declared.graph.Graph.{Graph}
use Rattle.sw_partition.specs.Regions.{Regions}
use Rattle.sw_region_flow.specs.Analysis.{block_ops_at}
use Rattle.sw_region_flow.specs.Breaches.{IsBreachIn}
use Rattle.sw_region_flow.specs.Least.{FailsAt}
use Rattle.sw_region_ops.specs.Setting.{FunctionSetting, setting_of}

-- a test fails on the way through one of the blocks below a number
pub record FailsBelow (setting : FunctionSetting) (states : List (Option Regions)) (count : ℕ)
    (breach : Breach) : Type 0 where
  pub block : ℕ
  pub below : block < count
  pub fails : FailsAt (block_ops_at setting) states block breach

-- a breach of one of the functions below a number
pub record BreaksBelow (graph : Graph) (count : ℕ) (breach : Breach) : Type 0 where
  pub number : ℕ
  pub below : number < count
  pub body : Function
  pub is_body : slice_get graph.functions number ≡ Some body
  pub breaks : IsBreachIn (setting_of graph body) breach
