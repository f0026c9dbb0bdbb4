-- A job that gets stuck.
use Rattle.std.specs.Prelude.{◌≡◌, ℕ, true, IsTrue, Some, List, length, slice_get}
use Rattle.sw_graph.specs.declared.graph.Graph.{Graph}
use Rattle.sw_value.specs.declared.frame.Frame.{Frame}
use Rattle.sw_value.specs.declared.job.Job.{Job}
use Rattle.sw_value.specs.Effect.{effect_of, is_stuck}
use Rattle.sw_value.specs.Job.{top_frame, is_running}
use Rattle.sw_value.specs.Reach.{reach}

-- Some items lead the graph to a state with a running job that is stuck.
pub record GetsStuck (graph : Graph) : Type 0 where
  pub items : List ℕ
  pub number : ℕ
  pub job : Job
  pub at : slice_get (reach graph items).jobs number ≡ Some job
  pub runs : IsTrue (is_running job)
  pub frame : Frame
  pub top : top_frame job ≡ Some frame
  pub stuck : is_stuck (effect_of graph (reach graph items) (length job.frames) frame) ≡ true
