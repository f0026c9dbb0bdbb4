-- What is in the registers of a frame that an instruction begins, and where it runs.
use Rattle.std.proofs.Common.{◌≡◌, ℕ, ◌+◌, ◌⊎◌, inl, inr, Bool, true, false, cond, Option, Some, None}
use Rattle.std.proofs.Common.{List, ◌++◌, length, nat_le, Contains, refl, ap}
use Rattle.std.proofs.Common.{◌∙◌, subst, arith}
use Rattle.std.specs.Prelude.{option_and_then}
use Rattle.std.specs.Option.{option_map}
use Rattle.std.specs.List.{slice_get}
use Rattle.std.proofs.lemmas.List.Elements.{Contains-append_cases}
use Rattle.sw_list.proofs.ListLemmas.{some_injective}
use Rattle.sw_types.specs.declared.isolation.CallKind.{CallKind}
use Rattle.sw_types.specs.declared.isolation.CallKind.TheVariants.{Plain, Same, Weak, Strong, Make}
use Rattle.sw_types.specs.declared.isolation.Iso.{Iso}
use Rattle.sw_types.specs.declared.isolation.Iso.TheVariants as iso
use Rattle.sw_graph.specs.declared.function.Function.{Function}
use Rattle.sw_graph.specs.declared.graph.Graph.{Graph}
use Rattle.sw_graph.specs.declared.instr.Instr.{Instr}
use Rattle.sw_graph.specs.declared.instr.Instr.TheVariants as instr
use Rattle.sw_graph.specs.declared.instr.Last.{Last}
use Rattle.sw_graph.specs.declared.instr.Operand.{Operand}
use Rattle.sw_graph.specs.Points.{Point, Middle, End}
use Rattle.sw_value.specs.declared.cell.HeapCell.{HeapCell}
use Rattle.sw_value.specs.declared.cell.HeapCell.TheVariants as cell
use Rattle.sw_value.specs.declared.effect.Act.TheVariants.{Execute}
use Rattle.sw_value.specs.declared.effect.Effect.{Effect}
use Rattle.sw_value.specs.declared.effect.Effect.TheVariants as effect
use Rattle.sw_value.specs.declared.executor.Executor.{Executor}
use Rattle.sw_value.specs.declared.executor.Executor.TheVariants.{ActorOf}
use Rattle.sw_value.specs.declared.frame.Frame.{Frame}
use Rattle.sw_value.specs.declared.frame.TheConstants.{MAX_FRAMES, NO_REGISTER}
use Rattle.sw_value.specs.declared.job.TheConstants.{MAX_JOBS}
use Rattle.sw_value.specs.declared.state.State.{State}
use Rattle.sw_value.specs.declared.state.TrapKind.TheVariants.{Frames, Jobs}
use Rattle.sw_value.specs.declared.value.Value.{Value}
use Rattle.sw_value.specs.Call.{crosses, call_executor, pushed_frame, called_in, called_frame}
use Rattle.sw_value.specs.Call.{closure_frame}
use Rattle.sw_value.specs.Effect.{needs, cell_at, enter_of, spawn_of, instr_effect, last_effect}
use Rattle.sw_value.specs.Effect.{point_effect}
use Rattle.sw_value.specs.Executor.{executor_of}
use Rattle.sw_value.specs.Frame.{first_frame_of, first_frame}
use Rattle.sw_value.specs.Value.{reference_at, reference_of, value_at, values_at, registers}
use Rattle.sw_reach_facts.specs.Reached.{references}
use Rattle.sw_machine_name_facts.specs.Names.{RegistersName, CapturesName}
use Rattle.sw_machine_name_facts.proofs.Jobs.{begun_frame}
use Rattle.sw_machine_name_facts.proofs.Needs.{of_needs}
use Rattle.sw_machine_name_facts.proofs.Registers.{in_register, in_reference, in_operands}
use Rattle.sw_machine_name_facts.proofs.Parts.{refers}

-- The first registers have these values. If the frame runs on an actor, that is the caller's, or a
-- register names it.
pub record Filled (caller : Executor) (vs : List Value) (frame : Frame) : Type 0 where
  pub count : ℕ
  pub registers : frame.regs ≡ registers count vs
  pub on : (c : ℕ) → frame.executor ≡ ActorOf c → (caller ≡ ActorOf c) ⊎ RegistersName frame.regs c

-- the actor of a function that is isolated to `self` is in its first register
own_named : (i : Iso) (regs : List (Option Value)) (c : ℕ)
    → executor_of i regs ≡ Some (ActorOf c) → RegistersName regs c
own_named iso.Free regs c is = cc
own_named iso.Caller regs c is = cc
own_named (iso.Global g) regs c is = cc
own_named iso.Own regs c is = by (value_at regs 0) refl is where
  of_reference : (v : Value) → value_at regs 0 ≡ Some v → (o : Option ℕ) → reference_of v ≡ o
      → option_map ActorOf o ≡ Some (ActorOf c) → RegistersName regs c
  of_reference v at None found is = cc
  of_reference v at (Some d) found is =
      let same : d ≡ c = cc in in_register regs 0 v c at (refers v c (found ∙ ap Some same))

  by : (o : Option Value) → value_at regs 0 ≡ o
      → option_map ActorOf (option_and_then reference_of o) ≡ Some (ActorOf c)
      → RegistersName regs c
  by None at is = cc
  by (Some v) at is = of_reference v at (reference_of v) refl is

call_on : (kind : CallKind) (caller : Executor) (i : Iso) (regs : List (Option Value)) (c : ℕ)
    → call_executor kind caller i regs ≡ Some (ActorOf c)
    → (caller ≡ ActorOf c) ⊎ RegistersName regs c
call_on Plain caller i regs c is = inl (some_injective is)
call_on Same caller i regs c is = inl (some_injective is)
call_on Weak caller i regs c is = cc
call_on Strong caller i regs c is = inr (own_named i regs c is)
call_on Make caller i regs c is = inl (some_injective is)

called_filled : (graph : Graph) (caller : Frame) (number : ℕ) (kind : CallKind) (r : ℕ)
    (vs : List Value) (frame : Frame) → called_frame graph caller number kind r vs ≡ Some frame
    → Filled caller.executor vs frame
unfolding called_frame
called_filled graph caller number kind r vs frame = by (slice_get graph.functions number) where
  pick : (i : Iso) (count : ℕ) (o : Option Executor)
      → call_executor kind caller.executor i (registers count vs) ≡ o
      → option_map (pushed_frame number r (crosses kind) (registers count vs)) o ≡ Some frame
      → Filled caller.executor vs frame
  pick i count None found e = cc
  pick i count (Some executor) found e =
      subst (Filled caller.executor vs) (some_injective e) (record {
        count = count;
        registers = refl;
        on = λ c is. call_on kind caller.executor i (registers count vs) c (found ∙ ap Some is);
      })

  by : (o : Option Function)
      → option_and_then (λ (function : Function). called_in caller number kind r function.iso
      (registers (length function.regs) vs)) o ≡ Some frame → Filled caller.executor vs frame
  by None e = cc
  by (Some function) e =
      pick function.iso (length function.regs)
      (call_executor kind caller.executor function.iso (registers (length function.regs) vs)) refl e

first_filled : (graph : Graph) (caller : Executor) (number : ℕ) (vs : List Value) (frame : Frame)
    → first_frame graph number vs ≡ Some frame → Filled caller vs frame
unfolding first_frame
first_filled graph caller number vs frame = by (slice_get graph.functions number) where
  pick : (i : Iso) (count : ℕ) → first_frame_of number i (registers count vs) ≡ Some frame
      → Filled caller vs frame
  pick i count = by_executor (executor_of i (registers count vs)) refl where
    by_executor : (o : Option Executor) → executor_of i (registers count vs) ≡ o
        → option_map (λ e. record {
          function = number;
          point = 0;
          regs = registers count vs;
          executor = e;
          crossing = true;
          result = NO_REGISTER;
        }) o ≡ Some frame → Filled caller vs frame
    by_executor None found e = cc
    by_executor (Some executor) found e =
        subst (Filled caller vs) (some_injective e) (record {
          count = count;
          registers = refl;
          on = λ c is. inr (own_named i (registers count vs) c (found ∙ ap Some is));
        })

  by : (o : Option Function)
      → option_and_then (λ (function : Function). first_frame_of number function.iso
      (registers (length function.regs) vs)) o ≡ Some frame → Filled caller vs frame
  by None e = cc
  by (Some function) e = pick function.iso (length function.regs) e

-- A frame that is begun: its values are those of operands, or captures of a closure to which an
-- operand refers.
pub record NewFrame (state : State) (caller frame : Frame) : Type 0 where
  pub values : List Value
  pub filled : Filled caller.executor values frame
  pub from : (v : Value) (k : ℕ) → Contains values v → Contains (references v) k
      → RegistersName caller.regs k
      ⊎ ((c : ℕ) × RegistersName caller.regs c × CapturesName state c k)

abbrev Begins : Frame → Effect → Type 0
Begins frame e = begun_frame (Execute e) ≡ Some frame

stuck_begins : (frame : Frame) → Begins frame effect.Stuck → ⊥
stuck_begins frame e = cc

entered : (depth next at : ℕ) (new frame : Frame) → Begins frame (enter_of depth next at new)
    → new ≡ frame
entered depth next at new frame = by (nat_le MAX_FRAMES depth) where
  by : (full : Bool) → Begins frame (cond full (effect.Halt Frames at) (effect.Enter new next))
      → new ≡ frame
  by true e = cc
  by false e = some_injective e

spawned : (state : State) (next at r : ℕ) (new frame : Frame)
    → Begins frame (spawn_of state next at r new) → new ≡ frame
spawned state next at r new frame = by (nat_le MAX_JOBS (length state.jobs)) where
  by : (full : Bool)
      → Begins frame (cond full (effect.Halt Jobs at)
      (effect.Spawn r new (length state.jobs) (length state.cells) next)) → new ≡ frame
  by true e = cc
  by false e = some_injective e

-- a closure that is called
closed : (graph : Graph) (state : State) (caller frame : Frame) (r : ℕ) (operands : List Operand)
    (vs : List Value) → values_at caller.regs operands ≡ Some vs → (o : Operand)
    → option_and_then (closure_frame graph caller r vs) (cell_at state caller o) ≡ Some frame
    → NewFrame state caller frame
closed graph state caller frame r operands vs are o = by (reference_at caller.regs o) refl where
  of_closure : (c : ℕ) → reference_at caller.regs o ≡ Some c → (f : ℕ) (captures : List Value)
      → slice_get state.cells c ≡ Some (cell.Closure f captures)
      → called_frame graph caller f Plain r (captures ++ vs) ≡ Some frame
      → NewFrame state caller frame
  of_closure c refers f captures is e = record {
    values = captures ++ vs;
    filled = called_filled graph caller f Plain r (captures ++ vs) frame e;
    from = λ v k has names. elim (Contains-append_cases captures vs v has) [
      | inl captured ↦ inr (
        c,
        in_reference caller.regs o c refers,
        record {
          function = f;
          captures = captures;
          is = is;
          value = v;
          among = captured;
          names = names;
        },
      )
      | inr given ↦ inl (in_operands caller.regs operands vs v k are given names)
    ];
  }

  of_cell : (c : ℕ) → reference_at caller.regs o ≡ Some c → (h : Option HeapCell)
      → slice_get state.cells c ≡ h
      → option_and_then (closure_frame graph caller r vs) h ≡ Some frame
      → NewFrame state caller frame
  of_cell c refers (Some (cell.Closure f captures)) is e = of_closure c refers f captures is e
  of_cell c refers h is e = cc

  by : (n : Option ℕ) → reference_at caller.regs o ≡ n
      → option_and_then (closure_frame graph caller r vs)
      (option_and_then (λ c. slice_get state.cells c) n) ≡ Some frame
      → NewFrame state caller frame
  by None refers e = cc
  by (Some c) refers e = of_cell c refers (slice_get state.cells c) refl e

-- the values of operands alone
plainly : (state : State) (caller frame : Frame) (operands : List Operand) (vs : List Value)
    → values_at caller.regs operands ≡ Some vs → Filled caller.executor vs frame
    → NewFrame state caller frame
plainly state caller frame operands vs are filled = record {
  values = vs;
  filled = filled;
  from = λ v k has names. inl (in_operands caller.regs operands vs v k are has names);
}

abbrev begins_frame : Instr → Bool
begins_frame (instr.Call at r kind f ss) = true
begins_frame (instr.CallClosure at r c ss) = true
begins_frame (instr.NewTask at r f ss) = true
begins_frame _ = false

others : (graph : Graph) (state : State) (depth next : ℕ) (caller frame : Frame) (i : Instr)
    → begins_frame i ≡ false → Begins frame (instr_effect graph state depth caller next i) → ⊥
others graph state depth next caller frame i other e = grind arith

instr_frame : (graph : Graph) (state : State) (depth next : ℕ) (caller frame : Frame) (i : Instr)
    → Begins frame (instr_effect graph state depth caller next i) → NewFrame state caller frame
instr_frame graph state depth next caller frame (instr.Call at r kind f ss) e =
    let values = of_needs (Begins frame) (stuck_begins frame) (values_at caller.regs ss)
    (λ vs. needs (called_frame graph caller f kind r vs) (enter_of depth next at)) e in
    let new = of_needs (Begins frame) (stuck_begins frame)
    (called_frame graph caller f kind r values.0) (enter_of depth next at) values.2 in
    plainly state caller frame ss values.0 values.1
    (called_filled graph caller f kind r values.0 frame
    (new.1 ∙ ap Some (entered depth next at new.0 frame new.2)))
instr_frame graph state depth next caller frame (instr.CallClosure at r c ss) e =
    let values = of_needs (Begins frame) (stuck_begins frame) (values_at caller.regs ss)
    (λ vs. needs (option_and_then (closure_frame graph caller r vs) (cell_at state caller c))
    (enter_of depth next at)) e in
    let new = of_needs (Begins frame) (stuck_begins frame)
    (option_and_then (closure_frame graph caller r values.0) (cell_at state caller c))
    (enter_of depth next at) values.2 in
    closed graph state caller frame r ss values.0 values.1 c
    (new.1 ∙ ap Some (entered depth next at new.0 frame new.2))
instr_frame graph state depth next caller frame (instr.NewTask at r f ss) e =
    let values = of_needs (Begins frame) (stuck_begins frame) (values_at caller.regs ss)
    (λ vs. needs (first_frame graph f vs) (spawn_of state next at r)) e in
    let new = of_needs (Begins frame) (stuck_begins frame)
    (first_frame graph f values.0) (spawn_of state next at r) values.2 in
    plainly state caller frame ss values.0 values.1
    (first_filled graph caller.executor f values.0 frame
    (new.1 ∙ ap Some (spawned state next at r new.0 frame new.2)))
instr_frame graph state depth next caller frame i e =
    absurd (others graph state depth next caller frame i refl e)

last_frame : (graph : Graph) (caller frame : Frame) (l : Last)
    → Begins frame (last_effect graph caller l) → ⊥
last_frame graph caller frame l e = grind arith

pub point_frame : (graph : Graph) (state : State) (depth : ℕ) (caller frame : Frame)
    (point : Point) → Begins frame (point_effect graph state depth caller point)
    → NewFrame state caller frame
point_frame graph state depth caller frame (Middle i) e =
    instr_frame graph state depth (caller.point + 1) caller frame i e
point_frame graph state depth caller frame (End l) e =
    absurd (last_frame graph caller frame l e)
