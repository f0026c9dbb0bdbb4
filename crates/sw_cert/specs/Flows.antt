-- The flows of a graph's functions, and what a certificate depends on of each.
use Rattle.std.specs.Prelude.{◌≡◌, ℕ, ◌^◌, ◌<◌, ◌≤◌, Some, List, length, slice_get}
use Rattle.std.specs.List.{AllByRecursion}
use Rattle.sw_graph.specs.declared.function.Function.{Function}
use Rattle.sw_graph.specs.declared.graph.Graph.{Graph}
use Rattle.sw_partition.specs.Regions.{size_of}
use Rattle.sw_region_flow.specs.Analysis.{IsAnalysis, facts_of}
use Rattle.sw_region_ops.specs.Entry.{IsEntry}
use Rattle.sw_region_ops.specs.Setting.{setting_of}
use Rattle.sw_cert.specs.declared.flows.FunctionFlow.{FunctionFlow}
use Rattle.sw_cert.specs.declared.line.Extent.{Extent}

-- the state at the entry is one of the flow
pub record IsSized (flow : FunctionFlow) : Type 0 where
  pub fits : IsAnalysis flow.blocks
  pub size : size_of flow.entry ≡ facts_of flow.blocks

-- the flow is that of a function of the graph
pub record IsFlowOf (graph : Graph) (body : Function) (flow : FunctionFlow) : Type 0 where
  pub setting : flow.blocks.setting ≡ setting_of graph body
  pub is_entry : IsEntry flow.blocks.setting flow.blocks.sites flow.entry

-- the flows are those of the first functions
pub record AreFirstFlows (graph : Graph) (count : ℕ) (flows : List FunctionFlow) : Type 0 where
  pub count_is : length flows ≡ count
  pub each : (n : ℕ) (body : Function) (flow : FunctionFlow)
      → slice_get graph.functions n ≡ Some body → slice_get flows n ≡ Some flow
      → IsFlowOf graph body flow

-- the flows are those of all functions
abbrev pub AreFlows : Graph → List FunctionFlow → Type 0
AreFlows graph flows = AreFirstFlows graph (length graph.functions) flows

abbrev pub AreSized : List FunctionFlow → Type 0
AreSized flows = (n : ℕ) (flow : FunctionFlow) → slice_get flows n ≡ Some flow → IsSized flow

-- what a certificate depends on of a function with this flow
abbrev pub extent_for : FunctionFlow → Extent
extent_for flow = record {
  blocks = length flow.blocks.setting.body.blocks;
  elements = length flow.entry.labels;
  sites = flow.entry.sites;
}

-- its numbers have 32 bits
pub record IsSmall (extent : Extent) : Type 0 where
  pub blocks : extent.blocks < 2 ^ 32
  pub elements : extent.elements < 2 ^ 32
  pub sites : AllByRecursion (λ site. site < 2 ^ 32) extent.sites

-- the number is past all that a line of one of the first functions may name, but the number of its
-- pairs
pub record IsMostOf (extents : List Extent) (count most : ℕ) : Type 0 where
  pub functions : length extents ≤ most
  pub each : (n : ℕ) (extent : Extent) → n < count → slice_get extents n ≡ Some extent
      → (extent.blocks ≤ most) × (extent.elements < most)
