-- The effects that change the top frame of the job that executes them, and no other frame.
use Rattle.std.specs.Prelude.{ℕ, Bool, true, false, Option, Some, None}
use Rattle.sw_value.specs.declared.effect.Effect.{Effect}
use Rattle.sw_value.specs.declared.effect.Effect.TheVariants as effect
use Rattle.sw_value.specs.declared.frame.Frame.{Frame}
use Rattle.sw_value.specs.declared.job.Job.{Job}
use Rattle.sw_value.specs.declared.state.State.{State}
use Rattle.sw_value.specs.declared.value.Value.{Value}
use Rattle.sw_value.specs.declared.value.Value.TheVariants as value
use Rattle.sw_value.specs.Cell.{with_slot}
use Rattle.sw_value.specs.Frame.{finish_instr, go_on, set_field}
use Rattle.sw_value.specs.Job.{in_top, rest, wait}
use Rattle.sw_value.specs.State.{add_cell, in_cell, set_global}

-- whether a job has the same frames after it, but for its top one
abbrev pub is_inside : Effect → Bool
is_inside (effect.Enter frame next) = false
is_inside (effect.Leave v) = false
is_inside (effect.Spawn r frame job cell next) = false
is_inside (effect.Halt kind at) = false
is_inside effect.Stuck = false
is_inside _ = true

-- what becomes of the top frame
abbrev pub turn_of : Effect → Frame → Frame
turn_of (effect.Set r v next) f = finish_instr r v next f
turn_of (effect.SetField r i v next) f = set_field r i v next f
turn_of (effect.Print r line next) f = finish_instr r value.Unit next f
turn_of (effect.New r cell number next) f = finish_instr r (value.Cell number) next f
turn_of (effect.Write c slot v next) f = go_on next f
turn_of (effect.WriteGlobal g v next) f = go_on next f
turn_of (effect.Goto next) f = go_on next f
turn_of (effect.Wait on r next) f = go_on next f
turn_of (effect.Rest r next) f = finish_instr r value.Unit next f
turn_of _ f = f

-- what becomes of the job
abbrev pub job_of : Effect → Job → Job
job_of (effect.Wait on r next) job = wait on r next job
job_of (effect.Rest r next) job = rest r next job
job_of e job = in_top (turn_of e) job

-- what becomes of memory
abbrev pub memory_of : Effect → State → State
memory_of (effect.New r cell number next) state = add_cell cell state
memory_of (effect.Write c slot v next) state = in_cell (with_slot slot v) c state
memory_of (effect.WriteGlobal g v next) state = set_global g v state
memory_of _ state = state

-- the register that gets a value
abbrev pub register_of : Effect → Option ℕ
register_of (effect.Set r v next) = Some r
register_of (effect.SetField r i v next) = Some r
register_of (effect.Print r line next) = Some r
register_of (effect.New r cell number next) = Some r
register_of (effect.Rest r next) = Some r
register_of _ = None

-- the value that it gets, if that doesn't depend on the one that it had
abbrev pub value_by : Effect → Option Value
value_by (effect.Set r v next) = Some v
value_by (effect.Print r line next) = Some value.Unit
value_by (effect.New r cell number next) = Some (value.Cell number)
value_by (effect.Rest r next) = Some value.Unit
value_by _ = None

-- where the frame goes on
abbrev pub next_of : Effect → Option ℕ
next_of (effect.Set r v next) = Some next
next_of (effect.SetField r i v next) = Some next
next_of (effect.Print r line next) = Some next
next_of (effect.New r cell number next) = Some next
next_of (effect.Write c slot v next) = Some next
next_of (effect.WriteGlobal g v next) = Some next
next_of (effect.Goto next) = Some next
next_of (effect.Wait on r next) = Some next
next_of (effect.Rest r next) = Some next
next_of _ = None
