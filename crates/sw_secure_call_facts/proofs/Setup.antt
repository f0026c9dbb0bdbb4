-- A call in a secure state, whatever its kind: what is passed, and what the frame is that begins.
use Rattle.std.proofs.Common.{◌≡◌, ◌≢◌, ◌≤◌, ◌+◌, ℕ, Bool, true, false, Option, Some, List}
use Rattle.std.proofs.Common.{◌++◌, length, Contains}
use Rattle.std.specs.List.{slice_get}
use Rattle.sw_types.specs.declared.isolation.CallKind.{CallKind}
use Rattle.sw_graph.specs.declared.function.Function.{Function}
use Rattle.sw_graph.specs.declared.graph.Graph.{Graph}
use Rattle.sw_graph.specs.declared.instr.Instr.{Instr}
use Rattle.sw_graph.specs.Mentions.{set_by}
use Rattle.sw_graph.specs.Points.{Middle}
use Rattle.sw_value.specs.declared.effect.Effect.TheVariants.{Enter}
use Rattle.sw_value.specs.declared.frame.Frame.{Frame}
use Rattle.sw_value.specs.declared.job.Job.{Job}
use Rattle.sw_value.specs.declared.state.State.{State}
use Rattle.sw_value.specs.declared.value.Value.{Value}
use Rattle.sw_value.specs.Effect.{point_effect}
use Rattle.sw_value.specs.Value.{registers}
use Rattle.sw_solve.specs.Annotation.{value_at}
use Rattle.sw_partition.specs.Regions.{Regions}
use Rattle.sw_region_ops.specs.Elements.{elements_of}
use Rattle.sw_color_rules.specs.Plans.{sending_of}
use Rattle.sw_owner_facts.specs.Colours.{Actor as Owner, Colour}
use Rattle.sw_owner_facts.specs.View.{Element, Frame as Spot}
use Rattle.sw_region_facts.specs.Calling.{Calls}
use Rattle.sw_reach_facts.specs.Reached.{colours_of}
use Rattle.sw_view_facts.specs.Changes.{HoldsIn}
use Rattle.sw_view_facts.specs.Standing.{StandsAt}
use Rattle.sw_view_facts.specs.Views.{Colours, here_at, makes_itself}
use Rattle.sw_secure_facts.specs.Painting.{begun_here, passed}
use Rattle.sw_secure_facts.specs.Secure.{AreNumberedBelow, IsSecure}

pub record Setup : Type 0 where
  pub graph : Graph
  pub states : ℕ → List (Option Regions)
  pub state : State
  pub colours : Colours
  pub secure : IsSecure graph states state colours
  pub q : Spot
  pub number : ℕ
  pub numbered : AreNumberedBelow number colours
  pub job : Job
  pub f : Frame
  pub function : Function
  pub instr : Instr
  pub x : StandsAt graph state q job f function (Middle instr)
  -- the frame t begins with these values
  pub t : Frame
  pub gives : point_effect graph state (length job.frames) f (Middle instr)
      ≡ Enter t (f.point + 1)
  pub ordinary : makes_itself graph function (Middle instr) ≡ false
  pub callee : Function
  pub is : slice_get graph.functions t.function ≡ Some callee
  pub values : List Value
  pub regs : t.regs ≡ registers (length callee.regs) values
  pub begins : t.point ≡ 0
  pub few : length values ≤ length callee.sending
  -- what the caller gives away and what it lends
  pub kind : CallKind
  pub sends : Bool
  pub sends_too : sends ≡ true → callee.sends ≡ true
  pub sets : set_by instr ≡ Some t.result
  pub sent : List Element
  pub lent : List Element
  pub a : Regions
  pub at : value_at (states f.function) f.point ≡ Some a
  pub c : Regions
  pub behind : value_at (states f.function) (f.point + 1) ≡ Some c
  pub moves : Calls (elements_of graph.shapes function.regs) kind sends t.result sent lent a c
  -- the colours of the closure that is called
  pub called : List Colour
  -- where the colours that are lent come from
  pub lent_holds : (d : Colour)
      → Contains (called ++ passed state colours (sending_of graph t.function) t.regs) d
      → (y : Element) × Contains lent y × HoldsIn state colours f (here_at colours q) y d
  -- and those that are given away
  pub sent_holds : (k : ℕ) (v : Value) (d : Colour) → slice_get values k ≡ Some v
      → slice_get callee.sending k ≡ Some true
      → Contains (colours_of state.cells colours.cells v) d
      → (y : Element) × Contains sent y × HoldsIn state colours f (here_at colours q) y d
  pub sent_apart : (k l : ℕ) (v w : Value) (d : Colour) → k ≢ l → slice_get values k ≡ Some v
      → slice_get callee.sending k ≡ Some true → slice_get values l ≡ Some w
      → slice_get callee.sending l ≡ Some true
      → Contains (colours_of state.cells colours.cells v) d
      → Contains (colours_of state.cells colours.cells w) d → ⊥
  -- the actor on which the frame begins, if its function is isolated
  pub on : Option Owner

-- the colours of what is lent
abbrev pub lent_colours : Setup → List Colour
lent_colours s =
    s.called ++ passed s.state s.colours (sending_of s.graph s.t.function) s.t.regs

-- the colour of the new frame's `Here`, before any becomes one with others
abbrev pub begun : Setup → Colour
begun s = begun_here s.on s.q.job s.number

abbrev pub elements : Setup → List (Option ℕ)
elements s = elements_of s.graph.shapes s.function.regs
