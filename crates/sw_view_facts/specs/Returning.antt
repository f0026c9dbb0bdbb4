-- A step that returns to the frame below, between two views.
use Rattle.std.specs.Prelude.{◌≡◌, ◌≢◌, ◌≤◌, IsTrue, Some, length, slice_get}
use Rattle.sw_graph.specs.declared.function.Function.{Function}
use Rattle.sw_graph.specs.declared.graph.Graph.{Graph}
use Rattle.sw_graph.specs.Bodies.{has_self}
use Rattle.sw_graph.specs.Points.{Point}
use Rattle.sw_value.specs.declared.effect.Effect.TheVariants.{Leave}
use Rattle.sw_value.specs.declared.frame.Frame.{Frame}
use Rattle.sw_value.specs.declared.frame.TheConstants.{NO_REGISTER}
use Rattle.sw_value.specs.declared.job.Job.{Job}
use Rattle.sw_value.specs.declared.state.State.{State}
use Rattle.sw_value.specs.declared.value.Value.{Value}
use Rattle.sw_value.specs.Effect.{point_effect}
use Rattle.sw_owner_facts.specs.View.{above, Frame as Spot}
use Rattle.sw_view_facts.specs.Standing.{StandsAt}
use Rattle.sw_view_facts.specs.Views.{Colours, frame_at, here_at}

-- Frame t above p returns v to the frame f, which waits for it in register `t.result` or wants no
-- result.
pub record Leaves (graph : Graph) (state : State) (p : Spot) (f t : Frame)
    (function callee : Function) (v : Value) (colours after : Colours) : Type 0 where
  pub job : Job
  pub point : Point
  pub stands : StandsAt graph state (above p) job t callee point
  pub gives : point_effect graph state (length job.frames) t point ≡ Leave v
  pub below : frame_at state p ≡ Some f
  pub is : slice_get graph.functions f.function ≡ Some function
  pub few : length f.regs ≤ NO_REGISTER
  pub self : IsTrue (has_self function) → t.result ≢ 0
  pub cells : after.cells ≡ colours.cells
  pub heres : (s : Spot) → s ≢ above p → here_at after s ≡ here_at colours s
