-- Changes of a state. Where a method of `State` makes one by itself, both have one name.
use Rattle.std.specs.Prelude.{ℕ, Bool, true, Option, Some, List, [], ◌∷◌, ◌++◌}
use Rattle.std.specs.Prelude.{slice_get, slice_set, not, option_and_then}
use Rattle.std.specs.List.{list_any}
use Rattle.sw_value.specs.declared.value.Value.{Value}
use Rattle.sw_value.specs.declared.cell.HeapCell.{HeapCell}
use Rattle.sw_value.specs.declared.executor.Executor.{Executor}
use Rattle.sw_value.specs.declared.executor.Executor.TheVariants.{Generic}
use Rattle.sw_value.specs.declared.job.Job.{Job}
use Rattle.sw_value.specs.declared.state.State.{State}
use Rattle.sw_value.specs.declared.state.TrapKind.{TrapKind}
use Rattle.sw_value.specs.Lists.{changed_at}
use Rattle.sw_value.specs.Job.{runs_on, ended_with}

-- the state with job j changed by g
unfoldable pub in_job : (Job → Job) → ℕ → State → State
in_job g j state = record state { jobs = changed_at g j state.jobs }

-- a job is made; its number is the number of jobs before
unfoldable pub add_job : Job → State → State
add_job job state = record state { jobs = state.jobs ++ job ∷ [] }

-- a cell is made; its number is the number of cells before
unfoldable pub add_cell : HeapCell → State → State
add_cell cell state = record state { cells = state.cells ++ cell ∷ [] }

-- the state with cell c changed by g
unfoldable pub in_cell : (HeapCell → HeapCell) → ℕ → State → State
in_cell g c state = record state { cells = changed_at g c state.cells }

-- global g gets v; a number past the globals changes nothing
unfoldable pub set_global : ℕ → Value → State → State
set_global g v state = record state { globals = slice_set state.globals g (Some v) }

-- a trap halts the machine
unfoldable pub halt : TrapKind → ℕ → State → State
halt kind at state = record state { halted = Some (kind, at) }

-- Whether one more job may begin to run on an executor: on the generic one always, on an actor's or
-- a global actor's if no job runs on it (SE-0306, SE-0316).
abbrev pub is_free : Executor → List Job → Bool
is_free Generic jobs = true
is_free executor jobs = not (list_any (runs_on executor) jobs)

-- what a job has ended with
unfoldable pub result_of : State → ℕ → Option Value
result_of state j = option_and_then (λ job. ended_with job.status) (slice_get state.jobs j)
