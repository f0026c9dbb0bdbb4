-- A step that calls, between two views.
use Rattle.std.specs.Prelude.{◌≡◌, ◌≢◌, ◌+◌, ℕ, false, Option, Some, List, length}
use Rattle.sw_graph.specs.declared.function.Function.{Function}
use Rattle.sw_graph.specs.declared.graph.Graph.{Graph}
use Rattle.sw_graph.specs.declared.instr.Instr.{Instr}
use Rattle.sw_graph.specs.Points.{Middle}
use Rattle.sw_value.specs.declared.effect.Effect.TheVariants.{Enter}
use Rattle.sw_value.specs.declared.frame.Frame.{Frame}
use Rattle.sw_value.specs.declared.job.Job.{Job}
use Rattle.sw_value.specs.declared.state.State.{State}
use Rattle.sw_value.specs.Effect.{point_effect}
use Rattle.sw_partition.specs.Regions.{Regions}
use Rattle.sw_owner_facts.specs.View.{above, Frame as Spot}
use Rattle.sw_view_facts.specs.Standing.{StandsAt}
use Rattle.sw_view_facts.specs.Views.{Colours, annotated, here_at, makes_itself}

-- Frame f at p stands at a call that puts t on top of it. In `regions` it is in the state `made`,
-- in which the arguments are given away and lent, and each other frame in that of its point. The
-- new frame's `Here` may have any colour.
pub record Enters (graph : Graph) (states : ℕ → List (Option Regions)) (state : State) (p : Spot)
    (f t : Frame) (function : Function) (regions : Spot → Option Regions) (colours after : Colours)
    (made : Regions) : Type 0 where
  pub job : Job
  pub instr : Instr
  pub stands : StandsAt graph state p job f function (Middle instr)
  pub gives : point_effect graph state (length job.frames) f (Middle instr)
      ≡ Enter t (f.point + 1)
  pub ordinary : makes_itself graph function (Middle instr) ≡ false
  pub before : regions p ≡ Some made
  pub elsewhere : (s : Spot) → s ≢ p → regions s ≡ annotated states state s
  pub cells : after.cells ≡ colours.cells
  pub heres : (s : Spot) → s ≢ above p → here_at after s ≡ here_at colours s
