-- Until a global has its first value, one job runs first-value functions and what they lead to.
use Rattle.std.proofs.Common.{◌≡◌, ℕ, ◌+◌, ◌⊎◌, inl, inr, leb, Bool, true}
use Rattle.std.proofs.Common.{false, cond, eqb, Option, Some, None, List, [], ◌∷◌, ◌++◌}
use Rattle.std.proofs.Common.{length, refl, ap, sym, ◌∙◌, subst, arith}
use Rattle.std.specs.Prelude.{option_and_then, Result, Ok, Err}
use Rattle.std.specs.Option.{option_map}
use Rattle.std.specs.List.{slice_get, Contains}
use Rattle.std.proofs.lemmas.Bool.{cases_eq}
use Rattle.std.proofs.lemmas.Bool.Decides.{nat_tests}
use Rattle.sw_list.proofs.ListLemmas.{some_injective}
use Rattle.sw_types.specs.declared.isolation.CallKind.{CallKind}
use Rattle.sw_types.specs.declared.isolation.CallKind.TheVariants as kind
use Rattle.sw_graph.specs.declared.function.Function.{Function}
use Rattle.sw_graph.specs.declared.graph.Graph.{Graph}
use Rattle.sw_graph.specs.declared.instr.Instr.{Instr}
use Rattle.sw_graph.specs.declared.instr.Instr.TheVariants as instr
use Rattle.sw_graph.specs.declared.instr.Last.{Last}
use Rattle.sw_graph.specs.declared.instr.Last.TheVariants as last
use Rattle.sw_graph.specs.declared.instr.Operand.{Operand}
use Rattle.sw_graph.specs.Mentions.{blocks_of}
use Rattle.sw_graph.specs.Placed.{GivesFirst, leads}
use Rattle.sw_graph.specs.Points.{Point, Middle, End, point_in, block_start}
use Rattle.sw_graph.specs.Ways.{Leads, on, to}
use Rattle.sw_value.specs.declared.cell.HeapCell.{HeapCell}
use Rattle.sw_value.specs.declared.cell.HeapCell.TheVariants as cell
use Rattle.sw_value.specs.declared.effect.Effect.{Effect}
use Rattle.sw_value.specs.declared.effect.Effect.TheVariants as effect
use Rattle.sw_value.specs.declared.executor.Executor.{Executor}
use Rattle.sw_value.specs.declared.frame.Frame.{Frame}
use Rattle.sw_value.specs.declared.frame.TheConstants.{MAX_FRAMES}
use Rattle.sw_value.specs.declared.state.State.{State}
use Rattle.sw_value.specs.declared.state.TrapKind.{TrapKind}
use Rattle.sw_value.specs.declared.state.TrapKind.TheVariants.{Frames}
use Rattle.sw_value.specs.declared.value.Value.{Value}
use Rattle.sw_value.specs.Arithmetic.{unary, binary}
use Rattle.sw_value.specs.Call.{called_in, called_frame, closure_frame, call_executor, pushed_frame}
use Rattle.sw_value.specs.Call.{crosses}
use Rattle.sw_value.specs.Cell.{task_of}
use Rattle.sw_value.specs.Effect.{needs, set_of, computed_of, new_of, cell_at, loaded, slot_at}
use Rattle.sw_value.specs.Effect.{slot_write, enter_of, instr_effect, goto_of}
use Rattle.sw_value.specs.Effect.{returned_value, last_effect, point_effect, effect_of}
use Rattle.sw_value.specs.declared.cell.Slot.{Slot}
use Rattle.sw_value.specs.declared.cell.Slot.TheVariants.{Part, Content}
use Rattle.sw_value.specs.Frame.{point_at, start_at}
use Rattle.sw_value.specs.Printed.{printed_line}
use Rattle.sw_value.specs.Value.{values_at, operand_value, value_at, field_of, payload_of, made}
use Rattle.sw_value.specs.Value.{registers, truth_of, tag_of, reference_at}
use Rattle.sw_graph.specs.Stores.{point_stores}
use Rattle.sw_graph.specs.Supplied.{IsSupplied}

-- a frame goes on from a point that gives global g no value
pub record Steps (function : Function) (p next g : ℕ) : Type 0 where
  pub goes : Leads function p next
  pub not_here : point_stores g (point_in function p) ≡ false

-- where a first-value function executes an effect before global g has its value
unfoldable pub FirstFits : Graph → Function → ℕ → ℕ → Effect → Type 0
FirstFits graph function p g (effect.Set r v next) = Steps function p next g
FirstFits graph function p g (effect.SetField r i v next) = Steps function p next g
FirstFits graph function p g (effect.Print r line next) = Steps function p next g
FirstFits graph function p g (effect.New r c number next) = Steps function p next g
    × ((f : ℕ) (captures : List Value) → c ≡ cell.Closure f captures → GivesFirst graph f)
FirstFits graph function p g (effect.Write c slot v next) = Steps function p next g
FirstFits graph function p g (effect.WriteGlobal h v next) = (h ≡ g) ⊎ Steps function p next g
FirstFits graph function p g (effect.Goto next) = Steps function p next g
FirstFits graph function p g (effect.Enter frame next) = Steps function p next g
    × GivesFirst graph frame.function
FirstFits graph function p g (effect.Wait job r next) = Steps function p next g
FirstFits graph function p g (effect.Rest r next) = Steps function p next g
FirstFits graph function p g (effect.Spawn r frame job c next) = ⊥
FirstFits graph function p g (effect.Leave v) = (s : Option Operand)
    × (point_in function p ≡ Some (End (last.Return s)))
FirstFits graph function p g (effect.Halt kind at) = Unit {0}
FirstFits graph function p g effect.Stuck = Unit {0}

-- the function that is executed
pub record IsFirstAt (graph : Graph) (state : State) (frame : Frame) (function : Function)
    (g : ℕ) : Type 0 where
  pub supplied : IsSupplied graph
  pub is : slice_get graph.functions frame.function ≡ Some function
  pub first : GivesFirst graph frame.function
  pub closures : (c f : ℕ) (captures : List Value)
      → slice_get state.cells c ≡ Some (cell.Closure f captures) → GivesFirst graph f

if_there : {A : Type 0} (graph : Graph) (function : Function) (p g : ℕ) (f : A → Effect)
    (o : Option A) → ((x : A) → o ≡ Some x → FirstFits graph function p g (f x))
    → FirstFits graph function p g (needs o f)
unfolding FirstFits
if_there graph function p g f None has = tt
if_there graph function p g f (Some x) has = has x refl

set_first : (graph : Graph) (function : Function) (p next g r : ℕ) (o : Option Value)
    → Steps function p next g → FirstFits graph function p g (set_of next r o)
unfolding FirstFits
set_first graph function p next g r None steps = tt
set_first graph function p next g r (Some v) steps = steps

computed_first : (graph : Graph) (function : Function) (p next g at r : ℕ)
    (o : Result Value TrapKind) → Steps function p next g
    → FirstFits graph function p g (computed_of next at r o)
unfolding FirstFits
computed_first graph function p next g at r (Ok v) steps = steps
computed_first graph function p next g at r (Err kind) steps = tt

store_first : (graph : Graph) (state : State) (function : Function) (frame : Frame)
    (next g : ℕ) (o : Operand) (slot : Slot) (s : Operand) → Steps function frame.point next g
    → FirstFits graph function frame.point g (slot_write state frame next o slot s)
unfolding FirstFits
store_first graph state function frame next g o slot s steps =
    if_there graph function frame.point g
    (λ v. needs (slot_at state frame o slot) (λ c. effect.Write c slot v next))
    (operand_value frame.regs s)
    (λ v _. if_there graph function frame.point g (λ c. effect.Write c slot v next)
    (slot_at state frame o slot) (λ c _. steps))

enter_first : (graph : Graph) (function : Function) (p next g depth at : ℕ) (frame : Frame)
    → Steps function p next g → GivesFirst graph frame.function
    → FirstFits graph function p g (enter_of depth next at frame)
unfolding FirstFits
enter_first graph function p next g depth at frame steps first = by (leb MAX_FRAMES depth) where
  by : (b : Bool) → FirstFits graph function p g
      (cond b (effect.Halt Frames at) (effect.Enter frame next))
  by true = tt
  by false = (steps, first)

-- a frame that is called is of the function that is called
pub called_number : (graph : Graph) (caller : Frame) (number : ℕ) (call : CallKind) (r : ℕ)
    (values : List Value) (frame : Frame)
    → called_frame graph caller number call r values ≡ Some frame → frame.function ≡ number
unfolding called_frame
called_number graph caller number call r values frame = by (slice_get graph.functions number) where
  pick : (regs : List (Option Value)) (o : Option Executor)
      → option_map (pushed_frame number r (crosses call) regs) o ≡ Some frame
      → frame.function ≡ number
  pick regs None e = cc
  pick regs (Some executor) e = ap (λ (f : Frame). f.function) (sym (some_injective e))

  by : (o : Option Function)
      → option_and_then (λ (function : Function). called_in caller number call r function.iso
      (registers (length function.regs) values)) o ≡ Some frame → frame.function ≡ number
  by None e = cc
  by (Some function) e = pick (registers (length function.regs) values)
      (call_executor call caller.executor function.iso (registers (length function.regs) values)) e

-- a closure that is called was made by what first-value functions lead to
closure_first : (graph : Graph) (state : State) (caller : Frame) (function : Function) (g : ℕ)
    → IsFirstAt graph state caller function g → (c : Operand) (r : ℕ) (values : List Value)
    (frame : Frame)
    → option_and_then (closure_frame graph caller r values) (cell_at state caller c) ≡ Some frame
    → GivesFirst graph frame.function
closure_first graph state caller function g x c r values frame =
    by (reference_at caller.regs c) where
      of_cell : (n : ℕ) (h : HeapCell) → slice_get state.cells n ≡ Some h
          → closure_frame graph caller r values h ≡ Some frame → GivesFirst graph frame.function
      of_cell n (cell.Closure f captures) is e =
          subst (GivesFirst graph)
          (sym (called_number graph caller f kind.Plain r (captures ++ values) frame e))
          (x.closures n f captures is)
      of_cell n (cell.Object k vs) is e = absurd (let wrong : ⊥ = cc in wrong)
      of_cell n (cell.Actor k vs) is e = absurd (let wrong : ⊥ = cc in wrong)
      of_cell n (cell.BoxOf v) is e = absurd (let wrong : ⊥ = cc in wrong)
      of_cell n (cell.TaskOf j) is e = absurd (let wrong : ⊥ = cc in wrong)

      found : (n : ℕ) (o : Option HeapCell) → slice_get state.cells n ≡ o
          → option_and_then (closure_frame graph caller r values) o ≡ Some frame
          → GivesFirst graph frame.function
      found n None is e = absurd (let wrong : ⊥ = cc in wrong)
      found n (Some h) is e = of_cell n h is e

      by : (o : Option ℕ)
          → option_and_then (closure_frame graph caller r values)
          (option_and_then (λ n. slice_get state.cells n) o) ≡ Some frame
          → GivesFirst graph frame.function
      by None e = absurd (let wrong : ⊥ = cc in wrong)
      by (Some n) e = found n (slice_get state.cells n) refl e

one_named : (f : ℕ) → Contains (f ∷ []) f
one_named f = (0, omega arith, refl)

steps_on : (function : Function) (p g : ℕ) (i : Instr) → point_in function p ≡ Some (Middle i)
    → point_stores g (Some (Middle i)) ≡ false → Steps function p (p + 1) g
steps_on function p g i here plain =
    record { goes = on p i here; not_here = ap (point_stores g) here ∙ plain }

no_closure : (graph : Graph) (h : HeapCell) → ((f : ℕ) (vs : List Value) → h ≡ cell.Closure f vs →
    ⊥)
    → (f : ℕ) (vs : List Value) → h ≡ cell.Closure f vs → GivesFirst graph f
no_closure graph h none f vs e = absurd (none f vs e)

instr_first : (graph : Graph) (state : State) (depth : ℕ) (frame : Frame) (function : Function)
    (g : ℕ) → IsFirstAt graph state frame function g → (i : Instr)
    → point_in function frame.point ≡ Some (Middle i)
    → FirstFits graph function frame.point g
    (instr_effect graph state depth frame (frame.point + 1) i)
unfolding FirstFits
instr_first graph state depth frame function g x (instr.Const at r v) here =
    steps_on function frame.point g (instr.Const at r v) here refl
instr_first graph state depth frame function g x (instr.Un at r op s) here =
    if_there graph function frame.point g (computed_of (frame.point + 1) at r)
    (option_and_then (unary op) (operand_value frame.regs s))
    (λ v _. computed_first graph function frame.point (frame.point + 1) g at r v
    (steps_on function frame.point g (instr.Un at r op s) here refl))
instr_first graph state depth frame function g x (instr.Bin at r op s t) here =
    if_there graph function frame.point g
    (λ v. needs (option_and_then (binary op v) (operand_value frame.regs t))
    (computed_of (frame.point + 1) at r)) (operand_value frame.regs s)
    (λ v _. if_there graph function frame.point g (computed_of (frame.point + 1) at r)
    (option_and_then (binary op v) (operand_value frame.regs t))
    (λ w _. computed_first graph function frame.point (frame.point + 1) g at r w
    (steps_on function frame.point g (instr.Bin at r op s t) here refl)))
instr_first graph state depth frame function g x (instr.Print at r ss) here =
    if_there graph function frame.point g (λ line. effect.Print r line (frame.point + 1))
    (printed_line frame.regs ss)
    (λ line _. steps_on function frame.point g (instr.Print at r ss) here refl)
instr_first graph state depth frame function g x (instr.Copy at r s) here =
    set_first graph function frame.point (frame.point + 1) g r (operand_value frame.regs s)
    (steps_on function frame.point g (instr.Copy at r s) here refl)
instr_first graph state depth frame function g x (instr.Field at r s i) here =
    set_first graph function frame.point (frame.point + 1) g r
    (option_and_then (field_of i) (operand_value frame.regs s))
    (steps_on function frame.point g (instr.Field at r s i) here refl)
instr_first graph state depth frame function g x (instr.Payload at r s i) here =
    set_first graph function frame.point (frame.point + 1) g r
    (option_and_then (payload_of i) (operand_value frame.regs s))
    (steps_on function frame.point g (instr.Payload at r s i) here refl)
instr_first graph state depth frame function g x (instr.SetField at r i s) here =
    if_there graph function frame.point g
    (λ v. needs (option_and_then (field_of i) (operand_value frame.regs r))
    (λ old. effect.SetField r.reg i v (frame.point + 1))) (operand_value frame.regs s)
    (λ v _. if_there graph function frame.point g
    (λ old. effect.SetField r.reg i v (frame.point + 1))
    (option_and_then (field_of i) (operand_value frame.regs r))
    (λ old _. steps_on function frame.point g (instr.SetField at r i s) here refl))
instr_first graph state depth frame function g x (instr.Make at r k tag ss) here =
    if_there graph function frame.point g (λ parts. effect.Set r (made tag parts) (frame.point + 1))
    (values_at frame.regs ss)
    (λ parts _. steps_on function frame.point g (instr.Make at r k tag ss) here refl)
instr_first graph state depth frame function g x (instr.NewObject at r k ss) here =
    if_there graph function frame.point g
    (λ parts. new_of state (frame.point + 1) r (cell.Object k parts)) (values_at frame.regs ss)
    (λ parts _. (
      steps_on function frame.point g (instr.NewObject at r k ss) here refl,
      no_closure graph (cell.Object k parts) (λ f vs e. cc),
    ))
instr_first graph state depth frame function g x (instr.NewBox at r s) here =
    if_there graph function frame.point g
    (λ v. new_of state (frame.point + 1) r (cell.BoxOf v)) (operand_value frame.regs s)
    (λ v _. (
      steps_on function frame.point g (instr.NewBox at r s) here refl,
      no_closure graph (cell.BoxOf v) (λ f vs e. cc),
    ))
instr_first graph state depth frame function g x (instr.NewActor at r k ss) here =
    if_there graph function frame.point g
    (λ parts. new_of state (frame.point + 1) r (cell.Actor k parts)) (values_at frame.regs ss)
    (λ parts _. (
      steps_on function frame.point g (instr.NewActor at r k ss) here refl,
      no_closure graph (cell.Actor k parts) (λ f vs e. cc),
    ))
instr_first graph state depth frame function g x (instr.LoadBox at r b) here =
    set_first graph function frame.point (frame.point + 1) g r (loaded state frame b Content)
    (steps_on function frame.point g (instr.LoadBox at r b) here refl)
instr_first graph state depth frame function g x (instr.StoreBox at b s) here =
    store_first graph state function frame (frame.point + 1) g b Content s
    (steps_on function frame.point g (instr.StoreBox at b s) here refl)
instr_first graph state depth frame function g x (instr.LoadProp at r o i) here =
    set_first graph function frame.point (frame.point + 1) g r (loaded state frame o (Part i))
    (steps_on function frame.point g (instr.LoadProp at r o i) here refl)
instr_first graph state depth frame function g x (instr.StoreProp at o i s) here =
    store_first graph state function frame (frame.point + 1) g o (Part i) s
    (steps_on function frame.point g (instr.StoreProp at o i s) here refl)
instr_first graph state depth frame function g x (instr.LoadGlobal at r h) here =
    set_first graph function frame.point (frame.point + 1) g r (value_at state.globals h)
    (steps_on function frame.point g (instr.LoadGlobal at r h) here refl)
instr_first graph state depth frame function g x (instr.StoreGlobal at h s) here =
    if_there graph function frame.point g
    (λ v. needs (slice_get state.globals h) (λ old. effect.WriteGlobal h v (frame.point + 1)))
    (operand_value frame.regs s)
    (λ v _. if_there graph function frame.point g
    (λ old. effect.WriteGlobal h v (frame.point + 1)) (slice_get state.globals h)
    (λ old _. elim (cases_eq h g) [
      | inl same ↦ inl same
      | inr other ↦ inr (steps_on function frame.point g (instr.StoreGlobal at h s) here
          (let different : eqb h g ≡ false = grind (arith, nat_tests, other) in different))
    ]))
instr_first graph state depth frame function g x (instr.NewClosure at r f cs) here =
    if_there graph function frame.point g
    (λ captures. new_of state (frame.point + 1) r (cell.Closure f captures))
    (values_at frame.regs cs)
    (λ captures _. (
      steps_on function frame.point g (instr.NewClosure at r f cs) here refl,
      λ h vs e. subst (GivesFirst graph) (let same : f ≡ h = cc in same)
          (leads frame.function f frame.point function (instr.NewClosure at r f cs) x.first x.is
          here
          (one_named f)),
    ))
instr_first graph state depth frame function g x (instr.Call at r call f ss) here =
    if_there graph function frame.point g
    (λ vs. needs (called_frame graph frame f call r vs) (enter_of depth (frame.point + 1) at))
    (values_at frame.regs ss)
    (λ vs _. if_there graph function frame.point g (enter_of depth (frame.point + 1) at)
    (called_frame graph frame f call r vs)
    (λ callee is. enter_first graph function frame.point (frame.point + 1) g depth at callee
    (steps_on function frame.point g (instr.Call at r call f ss) here refl)
    (subst (GivesFirst graph) (sym (called_number graph frame f call r vs callee is))
    (leads frame.function f frame.point function (instr.Call at r call f ss) x.first x.is here
    (one_named f)))))
instr_first graph state depth frame function g x (instr.CallClosure at r c ss) here =
    if_there graph function frame.point g
    (λ vs. needs (option_and_then (closure_frame graph frame r vs) (cell_at state frame c))
    (enter_of depth (frame.point + 1) at)) (values_at frame.regs ss)
    (λ vs _. if_there graph function frame.point g (enter_of depth (frame.point + 1) at)
    (option_and_then (closure_frame graph frame r vs) (cell_at state frame c))
    (λ callee is. enter_first graph function frame.point (frame.point + 1) g depth at callee
    (steps_on function frame.point g (instr.CallClosure at r c ss) here refl)
    (closure_first graph state frame function g x c r vs callee is)))
instr_first graph state depth frame function g x (instr.NewTask at r f cs) here =
    absurd (x.supplied.globals.alone frame.function frame.point function (instr.NewTask at r f cs)
    x.first
    x.is
    here)
instr_first graph state depth frame function g x (instr.Await at r t) here =
    if_there graph function frame.point g (λ job. effect.Wait job r (frame.point + 1))
    (option_and_then task_of (cell_at state frame t))
    (λ job _. steps_on function frame.point g (instr.Await at r t) here refl)
instr_first graph state depth frame function g x (instr.Yield at r) here =
    steps_on function frame.point g (instr.Yield at r) here refl

goto_first : (graph : Graph) (frame : Frame) (function : Function) (g : ℕ)
    → slice_get graph.functions frame.function ≡ Some function → (l : Last)
    → point_in function frame.point ≡ Some (End l) → (k number : ℕ)
    → slice_get (blocks_of l) k ≡ Some number
    → FirstFits graph function frame.point g (goto_of graph frame number)
unfolding FirstFits start_at
goto_first graph frame function g is l here k number at =
    if_there graph function frame.point g effect.Goto (start_at graph frame number)
    (λ next starts. record {
      goes = to frame.point l k number next here at
          (sym (ap (option_and_then (λ (f : Function). block_start f number)) is) ∙ starts);
      not_here = ap (point_stores g) here;
    })

last_first : (graph : Graph) (frame : Frame) (function : Function) (g : ℕ)
    → slice_get graph.functions frame.function ≡ Some function → (l : Last)
    → point_in function frame.point ≡ Some (End l)
    → FirstFits graph function frame.point g (last_effect graph frame l)
unfolding FirstFits
last_first graph frame function g is (last.Jump next) here =
    goto_first graph frame function g is (last.Jump next) here 0 next refl
last_first graph frame function g is (last.Branch s holds fails) here =
    if_there graph function frame.point g (λ truth. goto_of graph frame (cond truth holds fails))
    (option_and_then truth_of (operand_value frame.regs s)) (λ truth _. by truth) where
      by : (truth : Bool) → FirstFits graph function frame.point g
          (goto_of graph frame (cond truth holds fails))
      by true = goto_first graph frame function g is (last.Branch s holds fails) here 0 holds refl
      by false = goto_first graph frame function g is (last.Branch s holds fails) here 1 fails refl
last_first graph frame function g is (last.Switch s blocks) here =
    if_there graph function frame.point g (λ tag. needs (slice_get blocks tag)
    (goto_of graph frame))
    (option_and_then tag_of (operand_value frame.regs s))
    (λ tag _. if_there graph function frame.point g (goto_of graph frame) (slice_get blocks tag)
    (λ number at. goto_first graph frame function g is (last.Switch s blocks) here tag number at))
last_first graph frame function g is (last.Return s) here =
    if_there graph function frame.point g effect.Leave (returned_value frame.regs s)
    (λ v _. (s, here))

pub effect_first : (graph : Graph) (state : State) (depth : ℕ) (frame : Frame)
    (function : Function) (g : ℕ) → IsFirstAt graph state frame function g
    → FirstFits graph function frame.point g (effect_of graph state depth frame)
unfolding effect_of point_at FirstFits
effect_first graph state depth frame function g x =
    if_there graph function frame.point g (point_effect graph state depth frame)
    (point_at graph frame) (λ point is. by point
    (sym (ap (option_and_then (λ (f : Function). point_in f frame.point)) x.is) ∙ is)) where
      by : (point : Point) → point_in function frame.point ≡ Some point
          → FirstFits graph function frame.point g (point_effect graph state depth frame point)
      by (Middle i) here = instr_first graph state depth frame function g x i here
      by (End l) here = last_first graph frame function g x.is l here
