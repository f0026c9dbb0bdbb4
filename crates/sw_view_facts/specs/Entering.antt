-- Frames where they begin.
use Rattle.std.specs.Prelude.{◌≡◌, ◌⊎◌, ℕ, true, false, Option, Some, None, List, length, slice_get}
use Rattle.std.specs.Prelude.{Contains}
use Rattle.sw_types.specs.declared.isolation.Iso.TheVariants.{Free, Global}
use Rattle.sw_graph.specs.declared.function.Function.{Function}
use Rattle.sw_graph.specs.declared.graph.Graph.{Graph}
use Rattle.sw_value.specs.declared.executor.Executor.TheVariants as executor
use Rattle.sw_value.specs.declared.frame.Frame.{Frame}
use Rattle.sw_value.specs.declared.state.State.{State}
use Rattle.sw_value.specs.declared.value.Value.{Value}
use Rattle.sw_value.specs.Value.{registers, value_at}
use Rattle.sw_partition.specs.Regions.{Regions}
use Rattle.sw_region_ops.specs.Elements.{element_at, elements_of}
use Rattle.sw_owner_facts.specs.Colours.{Colour, GlobalActor, OfActor, OfJob}
use Rattle.sw_owner_facts.specs.View.{Here, Register, Frame as Spot}
use Rattle.sw_region_facts.specs.FrameRegions.{TogetherIn}
use Rattle.sw_reach_facts.specs.Reached.{colours_of}
use Rattle.sw_view_facts.specs.Views.{Colours, frame_at, frame_under, function_of, here_at}
use Rattle.sw_view_facts.specs.Views.{result_in}

-- A frame of the entry or of a first value, before any item: it has no values, and stands on no
-- actor or on the global actor of its function.
pub record IsFirstFrame (graph : Graph) (state : State) (colours : Colours) (p : Spot) (h : Frame)
    : Type 0 where
  pub function : Function
  pub is : slice_get graph.functions h.function ≡ Some function
  pub crossing : h.crossing ≡ true
  pub point : h.point ≡ 0
  pub result : result_in graph (function_of graph (frame_under state p.job p.depth)) h function
      ≡ None
  pub bare : (r : ℕ) → value_at h.regs r ≡ None
  pub stands : ((function.iso ≡ Free) × (h.executor ≡ executor.Generic)
      × ((n : ℕ) × (here_at colours p ≡ OfJob p.job n)))
      ⊎ ((g : ℕ) × (function.iso ≡ Global g) × (h.executor ≡ executor.Global g)
      × (here_at colours p ≡ OfActor (GlobalActor g)))

-- Frame t at q begins with these values, none of which is sent to it: its parameters are in the
-- region of `Here`, and what the values reach has the colour of its `Here`.
pub record TakesLent (graph : Graph) (regions : Spot → Option Regions) (state : State)
    (colours : Colours) (q : Spot) (t : Frame) (callee : Function) (values : List Value)
    (e : Regions) : Type 0 where
  pub there : frame_at state q ≡ Some t
  pub is : slice_get graph.functions t.function ≡ Some callee
  pub regs : t.regs ≡ registers (length callee.regs) values
  pub stands : regions q ≡ Some e
  pub lent : (k : ℕ) (v : Value) → slice_get values k ≡ Some v
      → slice_get callee.sending k ≡ Some false
  pub with_here : (k x : ℕ) → slice_get callee.sending k ≡ Some false
      → element_at (elements_of graph.shapes callee.regs) k ≡ Some x
      → TogetherIn (elements_of graph.shapes callee.regs) e (Register k) Here
  -- what isn't tracked reaches nothing
  pub bare : (k : ℕ) (v : Value) (d : Colour) → slice_get values k ≡ Some v
      → element_at (elements_of graph.shapes callee.regs) k ≡ None
      → Contains (colours_of state.cells colours.cells v) d → ⊥
  pub one : (v : Value) (d : Colour) → Contains values v
      → Contains (colours_of state.cells colours.cells v) d → here_at colours q ≡ d
