-- A step that changes one frame, the top one of its job, as a change of views.
use Rattle.std.specs.Prelude.{◌≡◌, ◌≢◌, ℕ, Option, Some, Contains}
use Rattle.sw_graph.specs.declared.function.Function.{Function}
use Rattle.sw_graph.specs.declared.graph.Graph.{Graph}
use Rattle.sw_value.specs.declared.frame.Frame.{Frame}
use Rattle.sw_value.specs.declared.state.State.{State}
use Rattle.sw_value.specs.declared.value.Value.{Value}
use Rattle.sw_value.specs.Value.{value_at}
use Rattle.sw_partition.specs.Regions.{Regions}
use Rattle.sw_owner_facts.specs.Colours.{Colour}
use Rattle.sw_owner_facts.specs.View.{Element, Here, Register, Frame as Spot}
use Rattle.sw_reach_facts.specs.Reached.{colours_of}
use Rattle.sw_view_facts.specs.Steps.{ChangesFrame}
use Rattle.sw_view_facts.specs.Views.{Colours, frame_at, shape_by, here_at, colours_by}

-- what the values of registers reach stays
abbrev pub KeepsReach : State → State → Colours → Colours → Type 0
KeepsReach state next colours after = (p : Spot) (h : Frame) (r : ℕ) (v : Value)
    → frame_at state p ≡ Some h → value_at h.regs r ≡ Some v
    → colours_of next.cells after.cells v ≡ colours_of state.cells colours.cells v

-- No other frame is in another region state, or has another colour for its `Here`, and what
-- registers reach stays.
pub record Changes (graph : Graph) (regions later : Spot → Option Regions) (state next : State)
    (colours after : Colours) (q : Spot) (f g : Frame) : Type 0 where
  pub frames : ChangesFrame state next q f g
  pub heres : (p : Spot) → here_at after p ≡ here_at colours p
  pub regions_stay : (p : Spot) → p ≢ q → later p ≡ regions p
  pub reached : KeepsReach state next colours after

-- the shape of the frame stays, whatever function is below it
abbrev pub KeepsShape : Graph → Frame → Frame → Type 0
KeepsShape graph f g = (under : Option Function)
    → shape_by graph under (Some g) ≡ shape_by graph under (Some f)

-- each register but this one keeps its value
abbrev pub KeepsOthers : ℕ → Frame → Frame → Type 0
KeepsOthers r f g = (s : ℕ) → s ≢ r → value_at g.regs s ≡ value_at f.regs s

-- what an element of frame f holds, if `here` is the colour of its `Here`
abbrev pub HoldsIn : State → Colours → Frame → Colour → Element → Colour → Type 0
HoldsIn state colours f here Here c = here ≡ c
HoldsIn state colours f here (Register r) c = Contains (colours_by state colours (Some f) r) c
