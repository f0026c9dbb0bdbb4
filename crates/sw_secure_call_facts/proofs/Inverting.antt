-- Which instructions have the effect of a call, and what they find.
use Rattle.std.proofs.Common.{◌≡◌, ◌+◌, ℕ, Bool, true, false, cond, nat_le, Option, Some, None}
use Rattle.std.proofs.Common.{List, ◌++◌, length, refl, sym, ap, ◌∙◌}
use Rattle.std.specs.Option.{option_map, option_and_then}
use Rattle.std.specs.Prelude.{Result, Ok, Err}
use Rattle.std.specs.List.{slice_get}
use Rattle.sw_list.proofs.ListLemmas.{some_injective}
use Rattle.sw_types.specs.declared.isolation.CallKind.{CallKind}
use Rattle.sw_types.specs.declared.isolation.CallKind.TheVariants.{Plain}
use Rattle.sw_graph.specs.declared.function.Function.{Function}
use Rattle.sw_graph.specs.declared.graph.Graph.{Graph}
use Rattle.sw_graph.specs.declared.instr.Instr.TheVariants as instr
use Rattle.sw_graph.specs.declared.instr.Last.TheVariants as last
use Rattle.sw_graph.specs.declared.instr.Operand.{Operand}
use Rattle.sw_graph.specs.Points.{Point, Middle, End}
use Rattle.sw_value.specs.declared.cell.HeapCell.{HeapCell}
use Rattle.sw_value.specs.declared.cell.HeapCell.TheVariants as cell
use Rattle.sw_value.specs.declared.effect.Effect.{Effect}
use Rattle.sw_value.specs.declared.effect.Effect.TheVariants as effect
use Rattle.sw_value.specs.declared.executor.Executor.{Executor}
use Rattle.sw_value.specs.declared.frame.Frame.{Frame}
use Rattle.sw_value.specs.declared.frame.TheConstants.{MAX_FRAMES}
use Rattle.sw_value.specs.declared.job.TheConstants.{MAX_JOBS}
use Rattle.sw_value.specs.declared.state.State.{State}
use Rattle.sw_value.specs.declared.state.TrapKind.{TrapKind}
use Rattle.sw_value.specs.declared.state.TrapKind.TheVariants.{Frames, Jobs}
use Rattle.sw_value.specs.declared.value.Value.{Value}
use Rattle.sw_value.specs.Call.{call_executor, called_frame, called_in, closure_frame, crosses}
use Rattle.sw_value.specs.Call.{pushed_frame}
use Rattle.sw_value.specs.Arithmetic.{binary, unary}
use Rattle.sw_value.specs.Cell.{task_of}
use Rattle.sw_value.specs.Effect.{cell_at, computed_of, enter_of, field_write, global_write}
use Rattle.sw_value.specs.Effect.{goto_of}
use Rattle.sw_value.specs.Effect.{loaded, needs, new_of, point_effect, returned_value, set_of}
use Rattle.sw_value.specs.Effect.{slot_at, slot_write, spawn_of}
use Rattle.sw_value.specs.Frame.{first_frame, start_at}
use Rattle.sw_value.specs.Printed.{printed_line}
use Rattle.sw_value.specs.declared.cell.Slot.{Slot}
use Rattle.sw_value.specs.declared.cell.Slot.TheVariants.{Content, Part}
use Rattle.sw_value.specs.Value.{field_of, made, operand_value, payload_of, reference_of, registers}
use Rattle.sw_value.specs.Value.{tag_of, truth_of, value_at, values_at}
use Rattle.sw_store_facts.proofs.Getting.{from_some}
use Rattle.sw_secure_facts.specs.Executing.{is_call}

-- ---- no call
never : {A : Type 0} (o : Option A) (g : A → Effect) → ((x : A) → is_call (g x) ≡ false)
    → is_call (needs o g) ≡ false
never None g none = refl
never (Some x) g none = none x

computed_never : (next at r : ℕ) (o : Result Value TrapKind)
    → is_call (computed_of next at r o) ≡ false
computed_never next at r (Ok v) = refl
computed_never next at r (Err kind) = refl

spawn_never : (state : State) (next at r : ℕ) (frame : Frame)
    → is_call (spawn_of state next at r frame) ≡ false
spawn_never state next at r frame = by (nat_le MAX_JOBS (length state.jobs)) where
  by : (b : Bool) → is_call (cond b (effect.Halt Jobs at)
      (effect.Spawn r frame (length state.jobs) (length state.cells) next)) ≡ false
  by true = refl
  by false = refl

set_never : (next r : ℕ) (o : Option Value) → is_call (set_of next r o) ≡ false
set_never next r o = never o (λ v. effect.Set r v next) (λ v. refl)

new_never : (o : Option (List Value)) (g : List Value → HeapCell) (state : State) (next r : ℕ)
    → is_call (needs o (λ vs. new_of state next r (g vs))) ≡ false
new_never o g state next r = never o (λ vs. new_of state next r (g vs)) (λ vs. refl)

field_never : (f : Frame) (next : ℕ) (r : Operand) (i : ℕ) (s : Operand)
    → is_call (field_write f next r i s) ≡ false
field_never f next r i s = never (operand_value f.regs s)
    (λ v. needs (option_and_then (field_of i) (operand_value f.regs r))
    (λ old. effect.SetField r.reg i v next))
    (λ v. never (option_and_then (field_of i) (operand_value f.regs r))
    (λ old. effect.SetField r.reg i v next) (λ old. refl))

slot_never : (state : State) (f : Frame) (next : ℕ) (o : Operand) (slot : Slot) (s : Operand)
    → is_call (slot_write state f next o slot s) ≡ false
slot_never state f next o slot s = never (operand_value f.regs s)
    (λ v. needs (slot_at state f o slot) (λ c. effect.Write c slot v next))
    (λ v. never (slot_at state f o slot) (λ c. effect.Write c slot v next) (λ c. refl))

global_never : (state : State) (f : Frame) (next g : ℕ) (s : Operand)
    → is_call (global_write state f next g s) ≡ false
global_never state f next g s = never (operand_value f.regs s)
    (λ v. needs (slice_get state.globals g) (λ old. effect.WriteGlobal g v next))
    (λ v. never (slice_get state.globals g) (λ old. effect.WriteGlobal g v next) (λ old. refl))

goto_never : (graph : Graph) (f : Frame) (block : ℕ) → is_call (goto_of graph f block) ≡ false
goto_never graph f block = never (start_at graph f block) effect.Goto (λ n. refl)

-- ---- a call
pub data CallsAt : Point → Type 0 where
  function : (at dst : ℕ) (kind : CallKind) (number : ℕ) (args : List Operand) (point : Point)
      → point ≡ Middle (instr.Call at dst kind number args) → CallsAt point
  closure : (at dst : ℕ) (called : Operand) (args : List Operand) (point : Point)
      → point ≡ Middle (instr.CallClosure at dst called args) → CallsAt point

clash : {A : Type 0} {b : Bool} → b ≡ false → b ≡ true → A
clash {b} is_not is = absurd (let both : true ≡ false = sym is ∙ is_not in let wrong : ⊥ = cc in
    wrong)

pub calls_at : (graph : Graph) (state : State) (depth : ℕ) (f : Frame) (point : Point)
    → is_call (point_effect graph state depth f point) ≡ true → CallsAt point
calls_at graph state depth f (Middle (instr.Call at dst kind number args)) is =
    function at dst kind number args (Middle (instr.Call at dst kind number args)) refl
calls_at graph state depth f (Middle (instr.CallClosure at dst called args)) is =
    closure at dst called args (Middle (instr.CallClosure at dst called args)) refl
calls_at graph state depth f (Middle (instr.Const at dst literal)) is = cc
calls_at graph state depth f (Middle (instr.Un at dst op src)) is =
    clash (never (option_and_then (unary op) (operand_value f.regs src))
    (computed_of (f.point + 1) at dst) (computed_never (f.point + 1) at dst)) is
calls_at graph state depth f (Middle (instr.Bin at dst op left right)) is =
    clash (never (operand_value f.regs left)
    (λ v. needs (option_and_then (binary op v) (operand_value f.regs right))
    (computed_of (f.point + 1) at dst))
    (λ v. never (option_and_then (binary op v) (operand_value f.regs right))
    (computed_of (f.point + 1) at dst) (computed_never (f.point + 1) at dst))) is
calls_at graph state depth f (Middle (instr.Print at dst args)) is =
    clash (never (printed_line f.regs args) (λ line. effect.Print dst line (f.point + 1))
    (λ line. refl)) is
calls_at graph state depth f (Middle (instr.Copy at dst src)) is =
    clash (set_never (f.point + 1) dst (operand_value f.regs src)) is
calls_at graph state depth f (Middle (instr.Field at dst src part)) is =
    clash (set_never (f.point + 1) dst
    (option_and_then (field_of part) (operand_value f.regs src))) is
calls_at graph state depth f (Middle (instr.Payload at dst src index)) is =
    clash (set_never (f.point + 1) dst
    (option_and_then (payload_of index) (operand_value f.regs src))) is
calls_at graph state depth f (Middle (instr.SetField at target part src)) is =
    clash (field_never f (f.point + 1) target part src) is
calls_at graph state depth f (Middle (instr.Make at dst shape tag args)) is =
    clash (never (values_at f.regs args) (λ parts. effect.Set dst (made tag parts) (f.point + 1))
    (λ parts. refl)) is
calls_at graph state depth f (Middle (instr.NewObject at dst shape args)) is =
    clash (new_never (values_at f.regs args) (cell.Object shape) state (f.point + 1) dst) is
calls_at graph state depth f (Middle (instr.NewBox at dst src)) is =
    clash (never (operand_value f.regs src)
    (λ v. new_of state (f.point + 1) dst (cell.BoxOf v)) (λ v. refl)) is
calls_at graph state depth f (Middle (instr.NewActor at dst shape args)) is =
    clash (new_never (values_at f.regs args) (cell.Actor shape) state (f.point + 1) dst) is
calls_at graph state depth f (Middle (instr.LoadBox at dst c)) is =
    clash (set_never (f.point + 1) dst (loaded state f c Content)) is
calls_at graph state depth f (Middle (instr.StoreBox at c src)) is =
    clash (slot_never state f (f.point + 1) c Content src) is
calls_at graph state depth f (Middle (instr.LoadProp at dst c part)) is =
    clash (set_never (f.point + 1) dst (loaded state f c (Part part))) is
calls_at graph state depth f (Middle (instr.StoreProp at c part src)) is =
    clash (slot_never state f (f.point + 1) c (Part part) src) is
calls_at graph state depth f (Middle (instr.LoadGlobal at dst global)) is =
    clash (set_never (f.point + 1) dst (value_at state.globals global)) is
calls_at graph state depth f (Middle (instr.StoreGlobal at global src)) is =
    clash (global_never state f (f.point + 1) global src) is
calls_at graph state depth f (Middle (instr.NewClosure at dst number captures)) is =
    clash (new_never (values_at f.regs captures) (cell.Closure number) state (f.point + 1) dst) is
calls_at graph state depth f (Middle (instr.NewTask at dst number captures)) is =
    clash (never (values_at f.regs captures)
    (λ values. needs (first_frame graph number values) (spawn_of state (f.point + 1) at dst))
    (λ values. never (first_frame graph number values) (spawn_of state (f.point + 1) at dst)
    (spawn_never state (f.point + 1) at dst))) is
calls_at graph state depth f (Middle (instr.Await at dst task)) is =
    clash (never (option_and_then task_of (cell_at state f task))
    (λ job. effect.Wait job dst (f.point + 1)) (λ job. refl)) is
calls_at graph state depth f (Middle (instr.Yield at dst)) is = cc
calls_at graph state depth f (End (last.Jump to)) is = clash (goto_never graph f to) is
calls_at graph state depth f (End (last.Branch condition holds fails)) is =
    clash (never (option_and_then truth_of (operand_value f.regs condition))
    (λ truth. goto_of graph f (cond truth holds fails))
    (λ truth. goto_never graph f (cond truth holds fails))) is
calls_at graph state depth f (End (last.Switch subject to)) is =
    clash (never (option_and_then tag_of (operand_value f.regs subject))
    (λ tag. needs (slice_get to tag) (goto_of graph f))
    (λ tag. never (slice_get to tag) (goto_of graph f) (goto_never graph f))) is
calls_at graph state depth f (End (last.Return operand)) is =
    clash (never (returned_value f.regs operand) effect.Leave (λ v. refl)) is

-- ---- what it finds
needs_gives : {A : Type 0} (o : Option A) (g : A → Effect) (t : Frame) (n : ℕ)
    → needs o g ≡ effect.Enter t n → (x : A) × (o ≡ Some x) × (g x ≡ effect.Enter t n)
needs_gives None g t n is = cc
needs_gives (Some x) g t n is = (x, refl, is)

enter_gives : (depth next at : ℕ) (frame t : Frame) (n : ℕ)
    → enter_of depth next at frame ≡ effect.Enter t n → (frame ≡ t) × (next ≡ n)
enter_gives depth next at frame t n = by (nat_le MAX_FRAMES depth) where
  by : (b : Bool) → cond b (effect.Halt Frames at) (effect.Enter frame next) ≡ effect.Enter t n
      → (frame ≡ t) × (next ≡ n)
  by true is = cc
  by false is = (cc, cc)

-- the function that is called, and the executor on which its frame begins
pub record IsCalled (graph : Graph) (f : Frame) (kind : CallKind) (number dst : ℕ)
    (values : List Value) (t : Frame) : Type 0 where
  pub callee : Function
  pub is : slice_get graph.functions number ≡ Some callee
  pub executor : Executor
  pub runs : call_executor kind f.executor callee.iso (registers (length callee.regs) values)
      ≡ Some executor
  pub frame : pushed_frame number dst (crosses kind) (registers (length callee.regs) values)
      executor
      ≡ t

executor_there : (g : Executor → Frame) (o : Option Executor) (t : Frame)
    → option_map g o ≡ Some t → (e : Executor) × (o ≡ Some e) × (g e ≡ t)
executor_there g None t is = cc
executor_there g (Some e) t is = (e, refl, some_injective is)

is_called : (graph : Graph) (f : Frame) (kind : CallKind) (number dst : ℕ) (values : List Value)
    (t : Frame) → called_frame graph f number kind dst values ≡ Some t
    → IsCalled graph f kind number dst values t
unfolding called_frame
is_called graph f kind number dst values t is =
    let callee = from_some (λ (b : Function). called_in f number kind dst b.iso
    (registers (length b.regs) values)) (slice_get graph.functions number) t is in
    let e = executor_there (pushed_frame number dst (crosses kind)
    (registers (length callee.0.regs) values))
    (call_executor kind f.executor callee.0.iso (registers (length callee.0.regs) values)) t
    callee.2 in
    record { callee = callee.0; is = callee.1; executor = e.0; runs = e.1; frame = e.2 }

-- a call of a function
pub record FunctionCalled (graph : Graph) (f : Frame) (kind : CallKind) (number dst : ℕ)
    (args : List Operand) (t : Frame) (n : ℕ) : Type 0 where
  pub values : List Value
  pub are : values_at f.regs args ≡ Some values
  pub called : IsCalled graph f kind number dst values t
  pub next : f.point + 1 ≡ n

pub function_called : (graph : Graph) (state : State) (depth : ℕ) (f : Frame) (at dst : ℕ)
    (kind : CallKind) (number : ℕ) (args : List Operand) (t : Frame) (n : ℕ)
    → point_effect graph state depth f (Middle (instr.Call at dst kind number args))
    ≡ effect.Enter t n → FunctionCalled graph f kind number dst args t n
function_called graph state depth f at dst kind number args t n is =
    let values = needs_gives (values_at f.regs args) (λ values.
    needs (called_frame graph f number kind dst values) (enter_of depth (f.point + 1) at)) t n is in
    let frame = needs_gives (called_frame graph f number kind dst values.0)
    (enter_of depth (f.point + 1) at) t n values.2 in
    let both = enter_gives depth (f.point + 1) at frame.0 t n frame.2 in
    record {
      values = values.0;
      are = values.1;
      called = is_called graph f kind number dst values.0 t (frame.1 ∙ ap Some both.0);
      next = both.1;
    }

-- a call of a closure
pub record ClosureCalled (graph : Graph) (state : State) (f : Frame) (dst : ℕ) (o : Operand)
    (args : List Operand) (t : Frame) (n : ℕ) : Type 0 where
  pub values : List Value
  pub are : values_at f.regs args ≡ Some values
  pub value : Value
  pub has : value_at f.regs o.reg ≡ Some value
  pub number : ℕ
  pub refers : reference_of value ≡ Some number
  pub body : ℕ
  pub captures : List Value
  pub at : slice_get state.cells number ≡ Some (cell.Closure body captures)
  pub called : IsCalled graph f Plain body dst (captures ++ values) t
  pub next : f.point + 1 ≡ n

record IsClosure (graph : Graph) (f : Frame) (dst : ℕ) (values : List Value) (c : HeapCell)
    (t : Frame) : Type 0 where
  body : ℕ
  captures : List Value
  is : c ≡ cell.Closure body captures
  frame : called_frame graph f body Plain dst (captures ++ values) ≡ Some t

closure_is : (graph : Graph) (f : Frame) (dst : ℕ) (values : List Value) (c : HeapCell) (t : Frame)
    → closure_frame graph f dst values c ≡ Some t → IsClosure graph f dst values c t
closure_is graph f dst values (cell.Closure body captures) t is =
    record { body = body; captures = captures; is = refl; frame = is }
closure_is graph f dst values (cell.Object k vs) t is = absurd (let no : ⊥ = cc in no)
closure_is graph f dst values (cell.Actor k vs) t is = absurd (let no : ⊥ = cc in no)
closure_is graph f dst values (cell.BoxOf v) t is = absurd (let no : ⊥ = cc in no)
closure_is graph f dst values (cell.TaskOf j) t is = absurd (let no : ⊥ = cc in no)

-- the cell of an operand
record CellFound (state : State) (f : Frame) (o : Operand) (c : HeapCell) : Type 0 where
  value : Value
  has : value_at f.regs o.reg ≡ Some value
  number : ℕ
  refers : reference_of value ≡ Some number
  at : slice_get state.cells number ≡ Some c

cell_found : (state : State) (f : Frame) (o : Operand) (c : HeapCell)
    → cell_at state f o ≡ Some c → CellFound state f o c
cell_found state f o c is =
    let reference = from_some (λ k. slice_get state.cells k)
    (option_and_then reference_of (value_at f.regs o.reg)) c is in
    let v = from_some reference_of (value_at f.regs o.reg) reference.0 reference.1 in
    record { value = v.0; has = v.1; number = reference.0; refers = v.2; at = reference.2 }

closure_found : (graph : Graph) (state : State) (f : Frame) (dst : ℕ) (o : Operand)
    (args : List Operand) (t : Frame) (n : ℕ) (values : List Value)
    → values_at f.regs args ≡ Some values
    → option_and_then (closure_frame graph f dst values) (cell_at state f o) ≡ Some t
    → f.point + 1 ≡ n → ClosureCalled graph state f dst o args t n
closure_found graph state f dst o args t n values are is next =
    let c = from_some (closure_frame graph f dst values) (cell_at state f o) t is in
    let found = cell_found state f o c.0 c.1 in
    let closed = closure_is graph f dst values c.0 t c.2 in
    record {
      values = values;
      are = are;
      value = found.value;
      has = found.has;
      number = found.number;
      refers = found.refers;
      body = closed.body;
      captures = closed.captures;
      at = found.at ∙ ap (λ (d : HeapCell). Some d) closed.is;
      called = is_called graph f Plain closed.body dst (closed.captures ++ values) t closed.frame;
      next = next;
    }

pub closure_called : (graph : Graph) (state : State) (depth : ℕ) (f : Frame) (at dst : ℕ)
    (o : Operand) (args : List Operand) (t : Frame) (n : ℕ)
    → point_effect graph state depth f (Middle (instr.CallClosure at dst o args))
    ≡ effect.Enter t n → ClosureCalled graph state f dst o args t n
closure_called graph state depth f at dst o args t n is =
    let values = needs_gives (values_at f.regs args) (λ values.
    needs (option_and_then (closure_frame graph f dst values) (cell_at state f o))
    (enter_of depth (f.point + 1) at)) t n is in
    let frame = needs_gives (option_and_then (closure_frame graph f dst values.0)
    (cell_at state f o)) (enter_of depth (f.point + 1) at) t n values.2 in
    let both = enter_gives depth (f.point + 1) at frame.0 t n frame.2 in
    closure_found graph state f dst o args t n values.0 values.1
    (frame.1 ∙ ap (λ (g : Frame). Some g) both.0) both.1
