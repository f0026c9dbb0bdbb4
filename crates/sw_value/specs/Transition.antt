-- All that an item of a schedule involves, read off the state before it.
use Rattle.std.specs.Prelude.{◌≡◌, ℕ, ◌==◌, Bool, false, Option, Some, None, slice_get, length}
use Rattle.std.specs.Prelude.{◌||◌, is_some, option_map, option_and_then, if◌then◌else◌}
use Rattle.std.specs.Option.{option_map_or}
use Rattle.sw_graph.specs.declared.graph.Graph.{Graph}
use Rattle.sw_value.specs.declared.executor.Executor.{Executor}
use Rattle.sw_value.specs.declared.job.Job.{Job}
use Rattle.sw_value.specs.declared.race.Access.{Access}
use Rattle.sw_value.specs.declared.state.State.{State}
use Rattle.sw_value.specs.declared.effect.Effect.TheVariants as effect
use Rattle.sw_value.specs.declared.effect.Act.{Act}
use Rattle.sw_value.specs.declared.effect.Act.TheVariants.{Dispatch, Wake, Execute}
use Rattle.sw_value.specs.Job.{top_frame, is_running, waits_for}
use Rattle.sw_value.specs.State.{result_of}
use Rattle.sw_value.specs.Access.{next_access}
use Rattle.sw_value.specs.Act.{act_of}

-- The job and what it does, the executor that it enters or leaves, the job that it makes, the job
-- whose end it waited for, whether it ends, and the access that it makes.
pub record Transition : Type 0 where
  pub job : ℕ
  pub act : Act
  pub enters : Option Executor
  pub leaves : Option Executor
  pub makes : Option ℕ
  pub follows : Option ℕ
  pub ends : Bool
  pub accesses : Option Access

-- whether the top frame of a job is its last one
abbrev pub is_last_frame : Job → Bool
is_last_frame job = length job.frames == 1

abbrev pub executor_of_top : Job → Option Executor
executor_of_top job = option_map (λ frame. frame.executor) (top_frame job)

-- a dispatch enters the executor of the top frame
abbrev pub entered_by : Act → Job → Option Executor
entered_by Dispatch job = executor_of_top job
entered_by _ job = None

-- A call that crosses leaves the executor of its caller, and so do a job that waits and one that
-- rests. A return leaves the executor of its frame where that frame crosses or is the last one.
abbrev pub left_by : Act → Job → Option Executor
left_by (Execute (effect.Enter frame next)) job =
    if frame.crossing then executor_of_top job else None
left_by (Execute (effect.Wait on r next)) job = executor_of_top job
left_by (Execute (effect.Rest r next)) job = executor_of_top job
left_by (Execute (effect.Leave v)) job =
    option_and_then
    (λ frame. if frame.crossing || is_last_frame job then Some frame.executor else None)
    (top_frame job)
left_by _ job = None

abbrev pub made_by : Act → Option ℕ
made_by (Execute (effect.Spawn r frame made cell next)) = Some made
made_by _ = None

abbrev pub followed_by : Act → Option ℕ
followed_by (Wake ended r v) = Some ended
followed_by _ = None

abbrev pub ends_by : Act → Job → Bool
ends_by (Execute (effect.Leave v)) job = is_last_frame job
ends_by _ job = false

abbrev pub transition_by : Graph → State → ℕ → Act → Transition
transition_by graph state j act =
    let job = slice_get state.jobs j in
    record {
      job = j;
      act = act;
      enters = option_and_then (entered_by act) job;
      leaves = option_and_then (left_by act) job;
      makes = made_by act;
      follows = followed_by act;
      ends = option_map_or (ends_by act) job false;
      accesses = next_access graph state j;
    }

-- the transition of the item j, or None where it changes nothing
unfoldable pub transition_of : Graph → State → ℕ → Option Transition
transition_of graph state j = option_map (transition_by graph state j) (act_of graph state j)

-- the executor on which a job runs
abbrev pub executor_in : Job → Option Executor
executor_in job = if is_running job then executor_of_top job else None

unfoldable pub runs_at : State → ℕ → Option Executor
runs_at state j = option_and_then executor_in (slice_get state.jobs j)

-- the job whose end a job waits for
unfoldable pub awaited_by : State → ℕ → Option ℕ
awaited_by state j = option_and_then (λ job. waits_for job.status) (slice_get state.jobs j)

-- what is there later and was not before
abbrev pub gained : {A : Type 0} → Option A → Option A → Option A
gained None later = later
gained (Some x) later = None

-- A transition of job j says how the state after it differs from the state before. The job enters
-- an executor where it runs after the step and did not before, and leaves one where it did before
-- and does not after; the job that is made is the one more that there is, with the next number; the
-- transition follows the end of the job that j waited for; job j ends where it has a result after
-- the step; and it makes the access that it was about to make.
pub record Describes (graph : Graph) (before after : State) (j : ℕ) (t : Transition) : Type 0 where
  pub job : t.job ≡ j
  pub enters : t.enters ≡ gained (runs_at before j) (runs_at after j)
  pub leaves : t.leaves ≡ gained (runs_at after j) (runs_at before j)
  pub makes : t.makes
      ≡ (if length after.jobs == length before.jobs then None else Some (length before.jobs))
  pub follows : t.follows ≡ awaited_by before j
  pub ends : t.ends ≡ is_some (result_of after j)
  pub accesses : t.accesses ≡ next_access graph before j
