-- What the next instruction of a frame does.
use Rattle.std.specs.Prelude.{ℕ, ◌+◌, nat_le, Bool, true, false, Option, Some, None, List, length}
use Rattle.std.specs.Prelude.{slice_get, option_map, option_and_then, if◌then◌else◌}
use Rattle.std.specs.Prelude.{Result, Ok, Err}
use Rattle.sw_graph.specs.declared.instr.Instr.{Instr}
use Rattle.sw_graph.specs.declared.instr.Instr.TheVariants as instr
use Rattle.sw_graph.specs.declared.instr.Operand.{Operand}
use Rattle.sw_graph.specs.declared.instr.Last.{Last}
use Rattle.sw_graph.specs.declared.instr.Last.TheVariants as last
use Rattle.sw_graph.specs.declared.graph.Graph.{Graph}
use Rattle.sw_graph.specs.Points.{Point, Middle, End}
use Rattle.sw_value.specs.declared.frame.TheConstants.{MAX_FRAMES}
use Rattle.sw_value.specs.declared.job.TheConstants.{MAX_JOBS}
use Rattle.sw_value.specs.declared.value.Value.{Value}
use Rattle.sw_value.specs.declared.value.Value.TheVariants as value
use Rattle.sw_value.specs.declared.cell.HeapCell.{HeapCell}
use Rattle.sw_value.specs.declared.cell.HeapCell.TheVariants.{Object, Actor, BoxOf, Closure}
use Rattle.sw_value.specs.declared.cell.Slot.{Slot}
use Rattle.sw_value.specs.declared.cell.Slot.TheVariants.{Part, Content}
use Rattle.sw_value.specs.declared.frame.Frame.{Frame}
use Rattle.sw_value.specs.declared.state.State.{State}
use Rattle.sw_value.specs.declared.state.TrapKind.{TrapKind}
use Rattle.sw_value.specs.declared.state.TrapKind.TheVariants.{Frames, Jobs}
use Rattle.sw_value.specs.declared.effect.Effect.{Effect}
use Rattle.sw_value.specs.declared.effect.Effect.TheVariants.{Set, SetField, Print, New, Write}
use Rattle.sw_value.specs.declared.effect.Effect.TheVariants.{WriteGlobal, Goto, Enter, Spawn}
use Rattle.sw_value.specs.declared.effect.Effect.TheVariants.{Wait, Rest, Leave, Halt, Stuck}
use Rattle.sw_value.specs.Value.{value_of, truth_of, tag_of, field_of, payload_of, made, value_at}
use Rattle.sw_value.specs.Value.{operand_value, reference_at, values_at}
use Rattle.sw_value.specs.Cell.{slot_of, task_of}
use Rattle.sw_value.specs.Arithmetic.{unary, binary}
use Rattle.sw_value.specs.Frame.{first_frame, point_at, start_at}
use Rattle.sw_value.specs.Call.{called_frame, closure_frame}
use Rattle.sw_value.specs.Printed.{printed_line}

-- an instruction that lacks what it needs is stuck
abbrev pub needs : {A : Type 0} → Option A → (A → Effect) → Effect
needs None effect = Stuck
needs (Some x) effect = effect x

abbrev pub is_stuck : Effect → Bool
is_stuck Stuck = true
is_stuck _ = false

-- register r gets a value, if there is one
abbrev pub set_of : ℕ → ℕ → Option Value → Effect
set_of next r v = needs v (λ v. Set r v next)

-- register r gets what an operator computes, unless that is a trap
abbrev pub computed_of : ℕ → ℕ → ℕ → Result Value TrapKind → Effect
computed_of next at r (Ok v) = Set r v next
computed_of next at r (Err kind) = Halt kind at

-- a cell is made with the next number
abbrev pub new_of : State → ℕ → ℕ → HeapCell → Effect
new_of state next r cell = New r cell (length state.cells) next

-- the cell that an operand refers to
abbrev pub cell_at : State → Frame → Operand → Option HeapCell
cell_at state frame o = option_and_then (λ c. slice_get state.cells c) (reference_at frame.regs o)

-- what the cell of an operand has in a slot
abbrev pub loaded : State → Frame → Operand → Slot → Option Value
loaded state frame o slot = option_and_then (slot_of slot) (cell_at state frame o)

-- the cell of an operand by number, if it has that slot
abbrev pub slot_at : State → Frame → Operand → Slot → Option ℕ
slot_at state frame o slot =
    option_and_then
    (λ c. option_map (λ old. c) (option_and_then (slot_of slot) (slice_get state.cells c)))
    (reference_at frame.regs o)

-- a value is written into a slot of the cell of an operand
abbrev pub slot_write : State → Frame → ℕ → Operand → Slot → Operand → Effect
slot_write state frame next o slot s =
    needs (operand_value frame.regs s)
    (λ v. needs (slot_at state frame o slot) (λ c. Write c slot v next))

-- a value is written into a global, if there is one with that number
abbrev pub global_write : State → Frame → ℕ → ℕ → Operand → Effect
global_write state frame next g s =
    needs (operand_value frame.regs s)
    (λ v. needs (slice_get state.globals g) (λ old. WriteGlobal g v next))

-- a value is written into a part of the struct in a register
abbrev pub field_write : Frame → ℕ → Operand → ℕ → Operand → Effect
field_write frame next r i s =
    needs (operand_value frame.regs s)
    (λ v. needs (option_and_then (field_of i) (operand_value frame.regs r))
    (λ old. SetField r.reg i v next))

-- a frame is pushed, unless there are all the frames that there may be
abbrev pub enter_of : ℕ → ℕ → ℕ → Frame → Effect
enter_of depth next at frame = if nat_le MAX_FRAMES depth then Halt Frames at else Enter frame next

-- a task is made with the next job's number and the next cell's, unless there are all the jobs that
-- there may be
abbrev pub spawn_of : State → ℕ → ℕ → ℕ → Frame → Effect
spawn_of state next at r frame =
    if nat_le MAX_JOBS (length state.jobs) then Halt Jobs at
    else Spawn r frame (length state.jobs) (length state.cells) next

-- The effect of an instruction after which the frame goes on at `next`. The frame is the top one of
-- `depth` frames.
abbrev pub instr_effect : Graph → State → ℕ → Frame → ℕ → Instr → Effect
instr_effect graph state depth frame next (instr.Const at dst literal) =
    Set dst (value_of literal) next
instr_effect graph state depth frame next (instr.Un at dst op src) =
    needs (option_and_then (unary op) (operand_value frame.regs src)) (computed_of next at dst)
instr_effect graph state depth frame next (instr.Bin at dst op left right) =
    needs (operand_value frame.regs left)
    (λ v. needs (option_and_then (binary op v) (operand_value frame.regs right))
    (computed_of next at dst))
instr_effect graph state depth frame next (instr.Print at dst args) =
    needs (printed_line frame.regs args) (λ line. Print dst line next)
instr_effect graph state depth frame next (instr.Copy at dst src) =
    set_of next dst (operand_value frame.regs src)
instr_effect graph state depth frame next (instr.Field at dst src part) =
    set_of next dst (option_and_then (field_of part) (operand_value frame.regs src))
instr_effect graph state depth frame next (instr.Payload at dst src index) =
    set_of next dst (option_and_then (payload_of index) (operand_value frame.regs src))
instr_effect graph state depth frame next (instr.SetField at target part src) =
    field_write frame next target part src
instr_effect graph state depth frame next (instr.Make at dst shape tag args) =
    needs (values_at frame.regs args) (λ parts. Set dst (made tag parts) next)
instr_effect graph state depth frame next (instr.NewObject at dst shape args) =
    needs (values_at frame.regs args) (λ parts. new_of state next dst (Object shape parts))
instr_effect graph state depth frame next (instr.NewBox at dst src) =
    needs (operand_value frame.regs src) (λ v. new_of state next dst (BoxOf v))
instr_effect graph state depth frame next (instr.NewActor at dst shape args) =
    needs (values_at frame.regs args) (λ parts. new_of state next dst (Actor shape parts))
instr_effect graph state depth frame next (instr.LoadBox at dst cell) =
    set_of next dst (loaded state frame cell Content)
instr_effect graph state depth frame next (instr.StoreBox at cell src) =
    slot_write state frame next cell Content src
instr_effect graph state depth frame next (instr.LoadProp at dst cell part) =
    set_of next dst (loaded state frame cell (Part part))
instr_effect graph state depth frame next (instr.StoreProp at cell part src) =
    slot_write state frame next cell (Part part) src
instr_effect graph state depth frame next (instr.LoadGlobal at dst global) =
    set_of next dst (value_at state.globals global)
instr_effect graph state depth frame next (instr.StoreGlobal at global src) =
    global_write state frame next global src
instr_effect graph state depth frame next (instr.NewClosure at dst function captures) =
    needs (values_at frame.regs captures)
    (λ values. new_of state next dst (Closure function values))
instr_effect graph state depth frame next (instr.Call at dst kind function args) =
    needs (values_at frame.regs args)
    (λ values. needs (called_frame graph frame function kind dst values) (enter_of depth next at))
instr_effect graph state depth frame next (instr.CallClosure at dst closure args) =
    needs (values_at frame.regs args)
    (λ values. needs
    (option_and_then (closure_frame graph frame dst values) (cell_at state frame closure))
    (enter_of depth next at))
instr_effect graph state depth frame next (instr.NewTask at dst function captures) =
    needs (values_at frame.regs captures)
    (λ values. needs (first_frame graph function values) (spawn_of state next at dst))
instr_effect graph state depth frame next (instr.Await at dst task) =
    needs (option_and_then task_of (cell_at state frame task)) (λ job. Wait job dst next)
instr_effect graph state depth frame next (instr.Yield at dst) = Rest dst next

-- the frame goes on where a block begins
abbrev pub goto_of : Graph → Frame → ℕ → Effect
goto_of graph frame block = needs (start_at graph frame block) Goto

-- the value of a Return; a Return of nothing gives the value of `Void`
abbrev pub returned_value : List (Option Value) → Option Operand → Option Value
returned_value regs None = Some value.Unit
returned_value regs (Some operand) = value_at regs operand.reg

-- the effect of the last instruction of a block
abbrev pub last_effect : Graph → Frame → Last → Effect
last_effect graph frame (last.Jump to) = goto_of graph frame to
last_effect graph frame (last.Branch condition holds fails) =
    needs (option_and_then truth_of (operand_value frame.regs condition))
    (λ truth. goto_of graph frame (if truth then holds else fails))
last_effect graph frame (last.Switch subject to) =
    needs (option_and_then tag_of (operand_value frame.regs subject))
    (λ tag. needs (slice_get to tag) (goto_of graph frame))
last_effect graph frame (last.Return operand) = needs (returned_value frame.regs operand) Leave

-- What a point asks of the job that executes it: `depth` is how many frames the job has.
abbrev pub point_effect : Graph → State → ℕ → Frame → Point → Effect
point_effect graph state depth frame (Middle i) =
    instr_effect graph state depth frame (frame.point + 1) i
point_effect graph state depth frame (End l) = last_effect graph frame l

-- The effect of the instruction at which a frame stands, the top one of `depth` frames.
unfoldable pub effect_of : Graph → State → ℕ → Frame → Effect
effect_of graph state depth frame =
    needs (point_at graph frame) (point_effect graph state depth frame)
