-- A job that gets its executor.
use Rattle.std.specs.Prelude.{◌≡◌, ℕ, true, Some, slice_get}
use Rattle.sw_value.specs.declared.frame.Frame.{Frame}
use Rattle.sw_value.specs.declared.job.Job.{Job}
use Rattle.sw_value.specs.declared.state.State.{State}
use Rattle.sw_value.specs.Job.{dispatch, top_frame}
use Rattle.sw_value.specs.State.{in_job, is_free}

-- job j begins to run, and the executor of its top frame is free
pub record Dispatches (state next : State) (j : ℕ) : Type 0 where
  pub job : Job
  pub there : slice_get state.jobs j ≡ Some job
  pub frame : Frame
  pub top : top_frame job ≡ Some frame
  pub free : is_free frame.executor state.jobs ≡ true
  pub steps : next ≡ in_job dispatch j state
