-- Changes of a job. Where a method of `Job` makes one by itself, both have one name.
use Rattle.std.specs.Prelude.{ℕ, ◌-◌, Bool, true, false, Option, Some, None, List, [], ◌∷◌}
use Rattle.std.specs.Prelude.{slice_get, length, take, ◌++◌, ◌&&◌, if◌then◌else◌}
use Rattle.std.specs.Option.{option_map_or}
use Rattle.sw_value.specs.declared.executor.Executor.{Executor}
use Rattle.sw_value.specs.Executor.{is_same}
use Rattle.sw_value.specs.declared.value.Value.{Value}
use Rattle.sw_value.specs.declared.value.Value.TheVariants as value
use Rattle.sw_value.specs.declared.frame.Frame.{Frame}
use Rattle.sw_value.specs.declared.job.Job.{Job}
use Rattle.sw_value.specs.declared.job.Status.{Status}
use Rattle.sw_value.specs.declared.job.Status.TheVariants.{Ready, Running, Waiting, Ended}
use Rattle.sw_value.specs.Lists.{changed_at}
use Rattle.sw_value.specs.Frame.{set_register, finish_instr, go_on, take_result}

-- the frame that a job executes
unfoldable pub top_frame : Job → Option Frame
top_frame job = slice_get job.frames (length job.frames - 1)

abbrev pub is_running_status : Status → Bool
is_running_status Running = true
is_running_status _ = false

-- whether a job has its executor
unfoldable pub is_running : Job → Bool
is_running job = is_running_status job.status

-- whether a job runs on an executor
unfoldable pub runs_on : Executor → Job → Bool
runs_on executor job =
    is_running job && option_map_or (λ frame. is_same frame.executor executor) (top_frame job) false

-- a job that has not run yet
unfoldable pub new_job : List Frame → Job
new_job frames = record { frames = frames; status = Ready }

-- the job with its top frame changed by g
unfoldable pub in_top : (Frame → Frame) → Job → Job
in_top g job = record job { frames = changed_at g (length job.frames - 1) job.frames }

-- the job gets its executor
unfoldable pub dispatch : Job → Job
dispatch job = record job { status = Running }

-- the job that it waited for has ended with v, which goes into register r
unfoldable pub wake : ℕ → Value → Job → Job
wake r v job =
    record {
      frames = changed_at (set_register r v) (length job.frames - 1) job.frames;
      status =
          Ready;
    }

-- The top frame calls, and goes on at `next` when the call has returned. A frame that crosses gives
-- the executor up.
unfoldable pub enter : Frame → ℕ → Job → Job
enter frame next job =
    record {
      frames =
          changed_at (go_on next) (length job.frames - 1) job.frames ++ frame ∷ [];
      status = if frame.crossing then Ready else job.status;
    }

-- the job gives its executor up and waits for the end of another, whose result is for register r
unfoldable pub wait : ℕ → ℕ → ℕ → Job → Job
wait on r next job =
    record {
      frames = changed_at (go_on next) (length job.frames - 1) job.frames;
      status =
          Waiting on r;
    }

-- the job gives its executor up, to any other job that is ready; register r gets the value of
-- `Void`
unfoldable pub rest : ℕ → ℕ → Job → Job
rest r next job =
    record {
      frames = changed_at (finish_instr r value.Unit next) (length job.frames - 1) job.frames;
      status =
          Ready;
    }

-- A frame that returns v stood on the frames below it. A frame that crosses gives the executor up,
-- and the last one ends the job.
abbrev pub return_to : List Frame → Frame → Value → Status → Job
return_to [] frame v status = record { frames = []; status = Ended v }
return_to (f ∷ fs) frame v status = record {
  frames = changed_at (take_result frame.result v) (length fs) (f ∷ fs);
  status = if frame.crossing then Ready else status;
}

abbrev pub return_from : Option Frame → Value → Job → Job
return_from None v job = job
return_from (Some frame) v job =
    return_to (take (length job.frames - 1) job.frames) frame v job.status

-- the top frame returns v
unfoldable pub leave : Value → Job → Job
leave v job = return_from (top_frame job) v job

abbrev pub ended_with : Status → Option Value
ended_with (Ended v) = Some v
ended_with _ = None

-- the job that a status waits for
abbrev pub waits_for : Status → Option ℕ
waits_for (Waiting on r) = Some on
waits_for _ = None
