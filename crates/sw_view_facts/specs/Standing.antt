-- A running job whose top frame stands at an instruction.
use Rattle.std.specs.Prelude.{◌≡◌, Some, None, slice_get}
use Rattle.sw_graph.specs.declared.function.Function.{Function}
use Rattle.sw_graph.specs.declared.graph.Graph.{Graph}
use Rattle.sw_graph.specs.Points.{Point, point_in}
use Rattle.sw_value.specs.declared.frame.Frame.{Frame}
use Rattle.sw_value.specs.declared.job.Job.{Job}
use Rattle.sw_value.specs.declared.job.Status.TheVariants.{Running}
use Rattle.sw_value.specs.declared.state.State.{State}
use Rattle.sw_owner_facts.specs.View.{Frame as Spot}
use Rattle.sw_view_facts.specs.Steps.{TopAt}

-- the job of q runs, and its top frame f stands at this point of its function
pub record StandsAt (graph : Graph) (state : State) (q : Spot) (job : Job) (f : Frame)
    (function : Function) (point : Point) : Type 0 where
  pub top : TopAt state q job f
  pub running : job.status ≡ Running
  pub goes_on : state.halted ≡ None
  pub is : slice_get graph.functions f.function ≡ Some function
  pub here : point_in function f.point ≡ Some point
