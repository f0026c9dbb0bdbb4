-- What an item of a schedule makes its job do, the state after it, and its event.
use Rattle.std.specs.Prelude.{ℕ, Bool, true, false, not, List, [], ◌∷◌, ◌++◌, Option, Some, None}
use Rattle.std.specs.Prelude.{length, drop, slice_get, slice_set, option_and_then, option_map}
use Rattle.std.specs.Prelude.{is_some, if◌then◌else◌}
use Rattle.std.specs.List.{list_any}
use Rattle.sw_value.specs.declared.cell.HeapCell.TheVariants.{TaskOf}
use Rattle.sw_value.specs.declared.cell.Slot.{Slot}
use Rattle.sw_value.specs.declared.executor.Executor.{Executor}
use Rattle.sw_value.specs.declared.executor.Executor.TheVariants.{Generic}
use Rattle.sw_value.specs.declared.value.Value.{Value}
use Rattle.sw_value.specs.Cell.{with_slot}
use Rattle.sw_value.specs.Executor.{is_same}
use Rattle.sw_value.specs.Lists.{changed_at}
use Rattle.sw_step.specs.declared.event.Event.{Event}
use Rattle.sw_step.specs.declared.event.Event.TheVariants as event
use Rattle.sw_tree_work.specs.Bodies.{Bodies}
use Rattle.sw_tree_step.specs.Acting.{Adds, Done, Enters, Halts, Leaves, Outside, Prints, Rests}
use Rattle.sw_tree_step.specs.Acting.{Spawns, Waits, Writes, WritesGlobal}
use Rattle.sw_tree_step.specs.State.{Ended, Kept, Ready, Running, TreeCell, TreeFrame, TreeJob}
use Rattle.sw_tree_step.specs.State.{TreeState, TreeStatus, Waiting}
use Rattle.sw_tree_step.specs.Working.{frame_done}

-- Executors. Any number of jobs run on the generic one, and one on each other.
abbrev pub is_running : TreeStatus → Bool
is_running Running = true
is_running _ = false

abbrev pub has_top_on : Executor → List TreeFrame → Bool
has_top_on executor [] = false
has_top_on executor (frame ∷ frames) = is_same frame.executor executor

abbrev pub runs_on : Executor → TreeJob → Bool
runs_on executor job = if is_running job.status then has_top_on executor job.frames else false

abbrev pub is_free : Executor → List TreeJob → Bool
is_free Generic jobs = true
is_free executor jobs = not (list_any (runs_on executor) jobs)

-- What a job does: it gets its executor, it goes on with the value of the job that it waited for, or
-- its top frame does something.
pub data Move : Type 0 where
  Dispatches : Move
  Wakes : ℕ → Value → Move
  Does : Done → Move

abbrev pub ended_with : TreeStatus → Option Value
ended_with (Ended v) = Some v
ended_with _ = None

abbrev pub result_of : TreeState → ℕ → Option Value
result_of state j =
    option_and_then (λ (job : TreeJob). ended_with job.status) (slice_get state.jobs j)

abbrev pub dispatch_of : TreeState → List TreeFrame → Option Move
dispatch_of state [] = None
dispatch_of state (frame ∷ below) =
    if is_free frame.executor state.jobs then Some Dispatches else None

abbrev pub top_done : Bodies → TreeState → List TreeFrame → Option Move
top_done bodies state [] = None
top_done bodies state (frame ∷ below) =
    option_map Does (frame_done bodies state (length (frame ∷ below)) frame)

abbrev pub move_by : TreeStatus → Bodies → TreeState → List TreeFrame → Option Move
move_by Ready bodies state frames = dispatch_of state frames
move_by Running bodies state frames = top_done bodies state frames
move_by (Waiting on) bodies state frames = option_map (Wakes on) (result_of state on)
move_by (Ended v) bodies state frames = None

-- What the item j makes job j do: nothing where the machine is halted or j is no job.
unfoldable pub move_of : Bodies → TreeState → ℕ → Option Move
move_of bodies state j = if is_some state.halted then None
    else option_and_then (λ (job : TreeJob). move_by job.status bodies state job.frames)
    (slice_get state.jobs j)

-- a frame gets the value that it waited for
abbrev pub given : Value → TreeFrame → TreeFrame
given v frame = record frame { temps = v ∷ frame.temps }

abbrev pub given_top : Value → List TreeFrame → List TreeFrame
given_top v [] = []
given_top v (frame ∷ below) = given v frame ∷ below

-- What a frame returns goes to the frame below it, which may not want it. The last frame ends the job.
abbrev pub returned : List TreeFrame → TreeFrame → Value → TreeStatus → TreeJob
returned [] frame v status = record { frames = []; status = Ended v }
returned (below ∷ frames) frame v status = record {
  frames = if frame.gives then given v below ∷ frames else below ∷ frames;
  status = if frame.crossing then Ready else status;
}

-- The job after its top frame, above these, became this frame. A frame that crosses gives up the
-- executor of the frame below it, at its call and at its return.
abbrev pub job_by : Outside → TreeFrame → List TreeFrame → TreeStatus → TreeJob
job_by (Enters callee) frame below status = record {
  frames = callee ∷ frame ∷ below;
  status = if callee.crossing then Ready else status;
}
job_by (Waits on) frame below status =
    record { frames = frame ∷ below; status = Waiting on }
job_by Rests frame below status = record { frames = frame ∷ below; status = Ready }
job_by (Leaves v) frame below status = returned below frame v status
job_by _ frame below status = record { frames = frame ∷ below; status = status }

abbrev pub job_after : Move → TreeJob → TreeJob
job_after Dispatches job = record job { status = Running }
job_after (Wakes on v) job = record { frames = given_top v job.frames; status = Ready }
job_after (Does done) job = job_by done.outside done.frame (drop 1 job.frames) job.status

-- What changes besides the job.
abbrev pub written : Slot → Value → TreeCell → TreeCell
written slot v (Kept cell) = Kept (with_slot slot v cell)
written slot v other = other

abbrev pub outside_after : Outside → TreeState → TreeState
outside_after (Adds cell) state = record state { cells = state.cells ++ cell ∷ [] }
outside_after (Writes c slot v) state =
    record state { cells = changed_at (written slot v) c state.cells }
outside_after (WritesGlobal g v) state =
    record state { globals = slice_set state.globals g (Some v) }
outside_after (Spawns frame) state = record state {
  cells = state.cells ++ Kept (TaskOf (length state.jobs)) ∷ [];
  jobs = state.jobs ++ record { frames = frame ∷ []; status = Ready } ∷ [];
}
outside_after (Halts kind at) state = record state { halted = Some (kind, at) }
outside_after _ state = state

abbrev pub around : Move → TreeState → TreeState
around (Does done) state = outside_after done.outside state
around _ state = state

abbrev pub in_job : (TreeJob → TreeJob) → ℕ → TreeState → TreeState
in_job change j state = record state { jobs = changed_at change j state.jobs }

abbrev pub after : Option Move → ℕ → TreeState → TreeState
after None j state = state
after (Some move) j state = in_job (job_after move) j (around move state)

-- the state after an item
unfoldable pub tree_step_of : Bodies → TreeState → ℕ → TreeState
tree_step_of bodies state j = after (move_of bodies state j) j state

-- The event of an item, as the machine on graphs names it.
abbrev pub outside_event : Outside → Event
outside_event (Prints line) = event.Printed line
outside_event (Halts kind at) = event.Trapped kind at
outside_event _ = event.Ran

abbrev pub event_by : Option Move → Event
event_by None = event.Nothing
event_by (Some Dispatches) = event.Dispatched
event_by (Some (Wakes on v)) = event.Woken on
event_by (Some (Does done)) = outside_event done.outside

unfoldable pub tree_event_of : Bodies → TreeState → ℕ → Event
tree_event_of bodies state j = event_by (move_of bodies state j)
