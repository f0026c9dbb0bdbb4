-- How many jobs and cells a state has that items lead to.
use Rattle.std.proofs.Common.{sym, ◌≡◌, ℕ, ◌+◌, ◌<◌, ◌≤◌, leb, Bool, true, false, cond, Option}
use Rattle.std.proofs.Common.{Some, None, List, [], ◌∷◌, length, refl, subst, arith, lit≤}
use Rattle.std.proofs.Common.{length-append}
use Rattle.std.specs.Prelude.{option_and_then, option_map, is_some}
use Rattle.std.specs.List.{slice_get}
use Rattle.std.proofs.lemmas.Bool.Decides.{nat_tests}
use Rattle.std.specs.Prelude.{Result, Ok, Err}
use Rattle.sw_graph.specs.declared.instr.Operand.{Operand}
use Rattle.sw_graph.specs.declared.instr.Instr.{Instr}
use Rattle.sw_graph.specs.declared.instr.Instr.TheVariants as instr
use Rattle.sw_graph.specs.declared.instr.Last.{Last}
use Rattle.sw_graph.specs.declared.instr.Last.TheVariants as last
use Rattle.sw_graph.specs.declared.graph.Graph.{Graph}
use Rattle.sw_value.specs.declared.job.TheConstants.{MAX_JOBS}
use Rattle.sw_value.specs.declared.value.Value.{Value}
use Rattle.sw_value.specs.declared.frame.Frame.{Frame}
use Rattle.sw_value.specs.declared.cell.HeapCell.TheVariants as cell
use Rattle.sw_value.specs.declared.job.Job.{Job}
use Rattle.sw_value.specs.declared.job.Status.{Status}
use Rattle.sw_value.specs.declared.job.Status.TheVariants.{Ready, Running, Waiting, Ended}
use Rattle.sw_value.specs.declared.state.State.{State}
use Rattle.sw_value.specs.declared.state.TrapKind.{TrapKind}
use Rattle.sw_value.specs.declared.state.TrapKind.TheVariants.{Frames, Jobs}
use Rattle.sw_value.specs.declared.frame.TheConstants.{MAX_FRAMES}
use Rattle.sw_value.specs.declared.cell.HeapCell.{HeapCell}
use Rattle.sw_value.specs.declared.cell.Slot.{Slot}
use Rattle.sw_value.specs.declared.cell.Slot.TheVariants.{Part, Content}
use Rattle.sw_value.specs.Cell.{with_slot, task_of}
use Rattle.sw_value.specs.Arithmetic.{unary, binary}
use Rattle.sw_value.specs.Call.{called_frame, closure_frame}
use Rattle.sw_value.specs.declared.effect.Effect.{Effect}
use Rattle.sw_value.specs.declared.effect.Effect.TheVariants as effect
use Rattle.sw_value.specs.Value.{values_at, operand_value, value_at, field_of, payload_of}
use Rattle.sw_value.specs.Value.{made, truth_of, tag_of}
use Rattle.sw_value.specs.Frame.{first_frame, start_at}
use Rattle.sw_value.specs.Job.{top_frame, dispatch, wake, new_job}
use Rattle.sw_value.specs.State.{in_job, add_job, add_cell, in_cell, set_global, halt, is_free}
use Rattle.sw_value.specs.State.{result_of}
use Rattle.sw_graph.specs.Points.{Point, Middle, End}
use Rattle.sw_value.specs.Frame.{point_at}
use Rattle.sw_value.specs.Printed.{printed_line}
use Rattle.sw_value.specs.Effect.{needs, set_of, computed_of, new_of, cell_at, loaded, slot_at}
use Rattle.sw_value.specs.Effect.{slot_write, enter_of, spawn_of, instr_effect, goto_of}
use Rattle.sw_value.specs.Effect.{returned_value, last_effect, point_effect, effect_of}
use Rattle.sw_value.specs.declared.effect.Act.{Act}
use Rattle.sw_value.specs.declared.effect.Act.TheVariants.{Dispatch, Wake}
use Rattle.sw_value.specs.Act.{execution_of, dispatch_of, act_by, act_of}
use Rattle.sw_value.specs.Start.{start_of}
use Rattle.sw_value.specs.Reach.{step_of, reach}
use Rattle.sw_value.proofs.ListLemmas.{length-changed_at}
use Rattle.sw_value.proofs.ReachLemmas.{reach_keeps, reach_counts, after_acts, step_by_act}

-- a task is made only where one more job may be, and that job has the next number
unfoldable pub HasRoom : State → Effect → Type 0
HasRoom state (effect.Spawn r frame job cell next) = (length state.jobs < MAX_JOBS)
    × (job ≡ length state.jobs)
HasRoom state _ = Unit {0}

room : {A : Type 0} (state : State) (f : A → Effect) → ((x : A) → HasRoom state (f x))
    → (o : Option A) → HasRoom state (needs o f)
unfolding HasRoom
room state f has None = tt
room state f has (Some x) = has x

set_room : (state : State) (next r : ℕ) (o : Option Value) → HasRoom state (set_of next r o)
unfolding HasRoom
set_room state next r None = tt
set_room state next r (Some v) = tt

computed_room : (state : State) (next at r : ℕ) (o : Result Value TrapKind)
    → HasRoom state (computed_of next at r o)
unfolding HasRoom
computed_room state next at r (Ok v) = tt
computed_room state next at r (Err kind) = tt

store_room : (state : State) (frame : Frame) (next : ℕ) (o : Operand) (slot : Slot) (s : Operand)
    → HasRoom state (slot_write state frame next o slot s)
unfolding HasRoom
store_room state frame next o slot s =
    room state (λ v. needs (slot_at state frame o slot) (λ c. effect.Write c slot v next))
    (λ v. room state (λ c. effect.Write c slot v next) (λ c. tt) (slot_at state frame o slot))
    (operand_value frame.regs s)

enter_room : (state : State) (depth next at : ℕ) (frame : Frame)
    → HasRoom state (enter_of depth next at frame)
unfolding HasRoom
enter_room state depth next at frame = by (leb MAX_FRAMES depth) where
  by : (b : Bool) → HasRoom state (cond b (effect.Halt Frames at) (effect.Enter frame next))
  by true = tt
  by false = tt

spawn_has_room : (state : State) (next at r : ℕ) (frame : Frame)
    → HasRoom state (spawn_of state next at r frame)
unfolding HasRoom
spawn_has_room state next at r frame = by (leb MAX_JOBS (length state.jobs)) refl where
  by : (b : Bool) → leb MAX_JOBS (length state.jobs) ≡ b
      → HasRoom state (cond b (effect.Halt Jobs at)
      (effect.Spawn r frame (length state.jobs) (length state.cells) next))
  by true e = tt
  by false e = (grind (arith, nat_tests), refl)

instr_has_room : (graph : Graph) (state : State) (depth : ℕ) (frame : Frame) (next : ℕ) (i : Instr)
    → HasRoom state (instr_effect graph state depth frame next i)
unfolding HasRoom
instr_has_room graph state depth frame next (instr.Const at r v) = tt
instr_has_room graph state depth frame next (instr.Un at r op s) =
    room state (computed_of next at r) (computed_room state next at r)
    (option_and_then (unary op) (operand_value frame.regs s))
instr_has_room graph state depth frame next (instr.Bin at r op s t) =
    room state
    (λ v.
    needs (option_and_then (binary op v) (operand_value frame.regs t)) (computed_of next at r))
    (λ v. room state (computed_of next at r) (computed_room state next at r)
    (option_and_then (binary op v) (operand_value frame.regs t))) (operand_value frame.regs s)
instr_has_room graph state depth frame next (instr.Print at r ss) =
    room state (λ line. effect.Print r line next) (λ line. tt) (printed_line frame.regs ss)
instr_has_room graph state depth frame next (instr.Copy at r s) =
    set_room state next r (operand_value frame.regs s)
instr_has_room graph state depth frame next (instr.Field at r s i) =
    set_room state next r (option_and_then (field_of i) (operand_value frame.regs s))
instr_has_room graph state depth frame next (instr.Payload at r s i) =
    set_room state next r (option_and_then (payload_of i) (operand_value frame.regs s))
instr_has_room graph state depth frame next (instr.SetField at r i s) =
    room state
    (λ v. needs (option_and_then (field_of i) (operand_value frame.regs r))
    (λ old. effect.SetField r.reg i v next))
    (λ v. room state (λ old. effect.SetField r.reg i v next) (λ old. tt)
    (option_and_then (field_of i) (operand_value frame.regs r))) (operand_value frame.regs s)
instr_has_room graph state depth frame next (instr.Make at r k tag ss) =
    room state (λ parts. effect.Set r (made tag parts) next) (λ parts. tt)
    (values_at frame.regs ss)
instr_has_room graph state depth frame next (instr.NewObject at r k ss) =
    room state (λ parts. new_of state next r (cell.Object k parts)) (λ parts. tt)
    (values_at frame.regs ss)
instr_has_room graph state depth frame next (instr.NewBox at r s) =
    room state (λ v. new_of state next r (cell.BoxOf v)) (λ v. tt) (operand_value frame.regs s)
instr_has_room graph state depth frame next (instr.NewActor at r k ss) =
    room state (λ parts. new_of state next r (cell.Actor k parts)) (λ parts. tt)
    (values_at frame.regs ss)
instr_has_room graph state depth frame next (instr.LoadBox at r b) =
    set_room state next r (loaded state frame b Content)
instr_has_room graph state depth frame next (instr.StoreBox at b s) =
    store_room state frame next b Content s
instr_has_room graph state depth frame next (instr.LoadProp at r o i) =
    set_room state next r (loaded state frame o (Part i))
instr_has_room graph state depth frame next (instr.StoreProp at o i s) =
    store_room state frame next o (Part i) s
instr_has_room graph state depth frame next (instr.LoadGlobal at r g) =
    set_room state next r (value_at state.globals g)
instr_has_room graph state depth frame next (instr.StoreGlobal at g s) =
    room state (λ v. needs (slice_get state.globals g) (λ old. effect.WriteGlobal g v next))
    (λ v. room state (λ old. effect.WriteGlobal g v next) (λ old. tt) (slice_get state.globals g))
    (operand_value frame.regs s)
instr_has_room graph state depth frame next (instr.NewClosure at r f cs) =
    room state (λ captures. new_of state next r (cell.Closure f captures)) (λ captures. tt)
    (values_at frame.regs cs)
instr_has_room graph state depth frame next (instr.Call at r kind f ss) =
    room state (λ vs. needs (called_frame graph frame f kind r vs) (enter_of depth next at))
    (λ vs. room state (enter_of depth next at) (enter_room state depth next at)
    (called_frame graph frame f kind r vs)) (values_at frame.regs ss)
instr_has_room graph state depth frame next (instr.CallClosure at r c ss) =
    room state
    (λ vs. needs (option_and_then (closure_frame graph frame r vs) (cell_at state frame c))
    (enter_of depth next at))
    (λ vs. room state (enter_of depth next at) (enter_room state depth next at)
    (option_and_then (closure_frame graph frame r vs) (cell_at state frame c)))
    (values_at frame.regs ss)
instr_has_room graph state depth frame next (instr.NewTask at r f cs) =
    room state (λ values. needs (first_frame graph f values) (spawn_of state next at r))
    (λ values. room state (spawn_of state next at r) (spawn_has_room state next at r)
    (first_frame graph f values)) (values_at frame.regs cs)
instr_has_room graph state depth frame next (instr.Await at r t) =
    room state (λ job. effect.Wait job r next) (λ job. tt)
    (option_and_then task_of (cell_at state frame t))
instr_has_room graph state depth frame next (instr.Yield at r) = tt

goto_room : (graph : Graph) (state : State) (frame : Frame) (block : ℕ)
    → HasRoom state (goto_of graph frame block)
unfolding HasRoom
goto_room graph state frame block =
    room state effect.Goto (λ next. tt) (start_at graph frame block)

last_has_room : (graph : Graph) (state : State) (frame : Frame) (l : Last)
    → HasRoom state (last_effect graph frame l)
unfolding HasRoom
last_has_room graph state frame (last.Jump to) = goto_room graph state frame to
last_has_room graph state frame (last.Branch s holds fails) =
    room state (λ truth. goto_of graph frame (cond truth holds fails))
    (λ truth. goto_room graph state frame (cond truth holds fails))
    (option_and_then truth_of (operand_value frame.regs s))
last_has_room graph state frame (last.Switch s to) =
    room state (λ tag. needs (slice_get to tag) (goto_of graph frame))
    (λ tag. room state (goto_of graph frame) (goto_room graph state frame) (slice_get to tag))
    (option_and_then tag_of (operand_value frame.regs s))
last_has_room graph state frame (last.Return s) =
    room state effect.Leave (λ v. tt) (returned_value frame.regs s)

pub effect_has_room : (graph : Graph) (state : State) (depth : ℕ) (frame : Frame)
    → HasRoom state (effect_of graph state depth frame)
unfolding effect_of
effect_has_room graph state depth frame =
    room state (point_effect graph state depth frame) by (point_at graph frame) where
      by : (p : Point) → HasRoom state (point_effect graph state depth frame p)
      by (Middle i) = instr_has_room graph state depth frame (frame.point + 1) i
      by (End l) = last_has_room graph state frame l

-- what a step keeps: no more jobs than there may be, and one more cell at most
record IsBounded (before after : State) : Type 0 where
  jobs : length before.jobs ≤ MAX_JOBS → length after.jobs ≤ MAX_JOBS
  cells : length after.cells ≤ length before.cells + 1

same_bounded : (state : State) → IsBounded state state
same_bounded state = record { jobs = λ few. few; cells = omega arith }

in_job_bounded : (g : Job → Job) (j : ℕ) (before after : State) → IsBounded before after
    → IsBounded before (in_job g j after)
unfolding in_job
in_job_bounded g j before after bounded =
    let same = length-changed_at g j after.jobs in
    let jobs = bounded.jobs in
    let cells = bounded.cells in
    record { jobs = λ few. let f = jobs few in omega (arith, same, f); cells = cells }

new_bounded : (c : HeapCell) (state : State) → IsBounded state (add_cell c state)
unfolding add_cell
new_bounded c state =
    let cells = length-append state.cells (c ∷ []) in
    record { jobs = λ few. few; cells = omega (arith, cells) }

write_bounded : (g : HeapCell → HeapCell) (c : ℕ) (state : State)
    → IsBounded state (in_cell g c state)
unfolding in_cell
write_bounded g c state =
    let same = length-changed_at g c state.cells in
    record { jobs = λ few. few; cells = omega (arith, same) }

global_bounded : (g : ℕ) (v : Value) (state : State) → IsBounded state (set_global g v state)
unfolding set_global
global_bounded g v state = record { jobs = λ few. few; cells = omega arith }

task_bounded : (state : State) (frame : Frame) (job : ℕ) → length state.jobs < MAX_JOBS
    → IsBounded state (add_cell (cell.TaskOf job) (add_job (new_job (frame ∷ [])) state))
unfolding add_cell add_job
task_bounded state frame job room =
    let jobs = length-append state.jobs (new_job (frame ∷ []) ∷ []) in
    let cells = length-append state.cells (cell.TaskOf job ∷ []) in
    record { jobs = λ _. omega (arith, jobs, room); cells = omega (arith, cells) }

halt_bounded : (kind : TrapKind) (at : ℕ) (state : State) → IsBounded state (halt kind at state)
unfolding halt
halt_bounded kind at state = record { jobs = λ few. few; cells = omega arith }

-- an act of job j, or none
Keeps : State → ℕ → Option Act → Type 0
Keeps state j act = IsBounded state (after_acts j act state)

execution_keeps : (state : State) (j : ℕ) (e : Effect) → HasRoom state e
    → Keeps state j (execution_of e)
unfolding Keeps HasRoom
execution_keeps state j effect.Stuck room = same_bounded state
execution_keeps state j (effect.Set r v next) room =
    in_job_bounded _ j state state (same_bounded state)
execution_keeps state j (effect.SetField r i v next) room =
    in_job_bounded _ j state state (same_bounded state)
execution_keeps state j (effect.Print r line next) room =
    in_job_bounded _ j state state (same_bounded state)
execution_keeps state j (effect.New r c number next) room =
    in_job_bounded _ j state (add_cell c state) (new_bounded c state)
execution_keeps state j (effect.Write c slot v next) room =
    in_job_bounded _ j state (in_cell (with_slot slot v) c state)
    (write_bounded (with_slot slot v) c state)
execution_keeps state j (effect.WriteGlobal g v next) room =
    in_job_bounded _ j state (set_global g v state) (global_bounded g v state)
execution_keeps state j (effect.Goto next) room =
    in_job_bounded _ j state state (same_bounded state)
execution_keeps state j (effect.Enter f next) room =
    in_job_bounded _ j state state (same_bounded state)
execution_keeps state j (effect.Spawn r f made cell next) room =
    in_job_bounded _ j state _ (task_bounded state f made room.0)
execution_keeps state j (effect.Wait on r next) room =
    in_job_bounded _ j state state (same_bounded state)
execution_keeps state j (effect.Rest r next) room =
    in_job_bounded _ j state state (same_bounded state)
execution_keeps state j (effect.Leave v) room =
    in_job_bounded _ j state state (same_bounded state)
execution_keeps state j (effect.Halt kind at) room = halt_bounded kind at state

and_then_keeps : {A : Type 0} (state : State) (j : ℕ) (f : A → Option Act)
    → ((x : A) → Keeps state j (f x)) → (o : Option A) → Keeps state j (option_and_then f o)
unfolding Keeps
and_then_keeps state j f keeps None = same_bounded state
and_then_keeps state j f keeps (Some x) = keeps x

act_keeps : (graph : Graph) (state : State) (j : ℕ) (job : Job) (status : Status)
    → Keeps state j (act_by graph state job status)
unfolding Keeps
act_keeps graph state j job Ready =
    and_then_keeps state j (dispatch_of state) (λ frame. by (is_free frame.executor state.jobs))
    (top_frame job) where
      by : (free : Bool) → Keeps state j (cond free (Some Dispatch) None)
      by true = in_job_bounded dispatch j state state (same_bounded state)
      by false = same_bounded state
act_keeps graph state j job (Waiting on r) = by (result_of state on) where
  by : (o : Option Value) → Keeps state j (option_map (Wake on r) o)
  by None = same_bounded state
  by (Some v) = in_job_bounded (wake r v) j state state (same_bounded state)
act_keeps graph state j job Running =
    and_then_keeps state j (λ frame. execution_of (effect_of graph state (length job.frames) frame))
    (λ frame. execution_keeps state j (effect_of graph state (length job.frames) frame)
    (effect_has_room graph state (length job.frames) frame)) (top_frame job)
act_keeps graph state j job (Ended v) = same_bounded state

step_bounded : (graph : Graph) (state : State) (j : ℕ) → IsBounded state (step_of graph state j)
unfolding act_of Keeps
step_bounded graph state j =
    subst (IsBounded state) (sym (step_by_act graph state j)) (by (is_some state.halted)) where
      by : (halted : Bool) → Keeps state j
          (cond halted None (option_and_then (λ job. act_by graph state job job.status)
          (slice_get state.jobs j)))
      by true = same_bounded state
      by false = and_then_keeps state j (λ job. act_by graph state job job.status)
          (λ job. act_keeps graph state j job job.status) (slice_get state.jobs j)

HasFewJobs : State → Type 0
HasFewJobs state = length state.jobs ≤ MAX_JOBS

pub few_jobs : (graph : Graph) (items : List ℕ) → length (reach graph items).jobs ≤ MAX_JOBS
unfolding HasFewJobs start_of
few_jobs graph items = reach_keeps HasFewJobs graph (lit≤ tt)
    (λ state item. (step_bounded graph state item).jobs) items

pub few_cells : (graph : Graph) (items : List ℕ) → length (reach graph items).cells ≤ length items
unfolding start_of
few_cells graph items =
    reach_counts (λ state. length state.cells) graph refl
    (λ state item. (step_bounded graph state item).cells) items
