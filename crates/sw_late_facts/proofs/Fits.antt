-- What the effects that push a frame, make a job or make a cell say of executors and of numbers.
use Rattle.std.proofs.Common.{◌≡◌, ℕ, zero, suc, ◌+◌, ◌<◌, ◌≤◌, max, arith, refl, ap, sym, ◌∙◌, Bool, true, false, cond}
use Rattle.std.proofs.Common.{Option, Some, None, List, [], ◌∷◌, ◌++◌, length, fold, slice_get, subst}
use Rattle.std.specs.Prelude.{option_map, option_and_then, nat_le, Result, Ok, Err, is_some}
use Rattle.sw_list.proofs.ListLemmas.{some_injective}
use Rattle.sw_types.specs.declared.isolation.Iso.{Iso}
use Rattle.sw_types.specs.declared.isolation.Iso.TheVariants as iso
use Rattle.sw_types.specs.declared.isolation.CallKind.{CallKind}
use Rattle.sw_types.specs.declared.isolation.CallKind.TheVariants.{Plain, Same, Weak, Strong, Make}
use Rattle.sw_graph.specs.declared.graph.Graph.{Graph}
use Rattle.sw_graph.specs.declared.function.Function.{Function}
use Rattle.sw_graph.specs.declared.instr.Instr.{Instr}
use Rattle.sw_graph.specs.declared.instr.Instr.TheVariants as instr
use Rattle.sw_graph.specs.declared.instr.Last.{Last}
use Rattle.sw_graph.specs.declared.instr.Last.TheVariants as last
use Rattle.sw_graph.specs.Points.{Point, Middle, End}
use Rattle.sw_value.specs.declared.cell.HeapCell.{HeapCell}
use Rattle.sw_value.specs.declared.cell.HeapCell.TheVariants as cell
use Rattle.sw_value.specs.declared.executor.Executor.{Executor}
use Rattle.sw_value.specs.declared.executor.Executor.TheVariants as executor
use Rattle.sw_value.specs.declared.value.Value.{Value}
use Rattle.sw_value.specs.declared.frame.Frame.{Frame}
use Rattle.sw_value.specs.declared.job.Job.{Job}
use Rattle.sw_value.specs.declared.job.Status.{Status}
use Rattle.sw_value.specs.declared.job.Status.TheVariants.{Ready, Running, Waiting, Ended}
use Rattle.sw_value.specs.declared.state.State.{State}
use Rattle.sw_value.specs.declared.state.TrapKind.{TrapKind}
use Rattle.sw_value.specs.declared.state.TrapKind.TheVariants.{Frames, Jobs}
use Rattle.sw_value.specs.declared.effect.Effect.{Effect}
use Rattle.sw_value.specs.declared.effect.Effect.TheVariants as effect
use Rattle.sw_value.specs.declared.effect.Act.TheVariants.{Dispatch, Wake, Execute}
use Rattle.sw_value.specs.declared.frame.TheConstants.{MAX_FRAMES, NO_REGISTER}
use Rattle.sw_value.specs.declared.job.TheConstants.{MAX_JOBS}
use Rattle.sw_value.specs.Act.{act_of, act_by, execution_of, dispatch_of}
use Rattle.sw_value.specs.Call.{called_frame, called_in, call_executor, pushed_frame, crosses, closure_frame}
use Rattle.sw_value.specs.Effect.{effect_of, needs, point_effect, instr_effect, last_effect, computed_of}
use Rattle.sw_value.specs.Effect.{enter_of, spawn_of, goto_of, set_of, new_of, cell_at, loaded, slot_at}
use Rattle.sw_value.specs.Effect.{slot_write, returned_value}
use Rattle.sw_value.specs.Arithmetic.{unary, binary}
use Rattle.sw_value.specs.Printed.{printed_line}
use Rattle.sw_value.specs.Cell.{task_of}
use Rattle.sw_value.specs.declared.cell.Slot.{Slot}
use Rattle.sw_value.specs.declared.cell.Slot.TheVariants.{Part, Content}
use Rattle.sw_graph.specs.declared.instr.Operand.{Operand}
use Rattle.sw_value.specs.Executor.{executor_of}
use Rattle.sw_value.specs.Frame.{first_frame, first_frame_of, point_at, start_at}
use Rattle.sw_value.specs.Job.{top_frame}
use Rattle.sw_value.specs.State.{is_free, result_of}
use Rattle.sw_value.specs.Value.{registers, operand_value, value_at, values_at, field_of, payload_of, made}
use Rattle.sw_value.specs.Value.{truth_of, tag_of}
use Rattle.sw_color_rules.specs.Machine.{actors_to, global_count}

-- a global actor of an executor is among those that functions are isolated to
abbrev pub IsKnown : Graph → Executor → Type 0
IsKnown graph (executor.Global g) = g < global_count graph.functions
IsKnown graph _ = Unit {0}

-- A frame that is pushed by a call from elsewhere, or begins a task, is on such an executor; a task
-- has the next job's number, and a cell that is made the next cell's.
abbrev pub Fits : Graph → State → Effect → Type 0
Fits graph state (effect.Enter frame next) = frame.crossing ≡ true → IsKnown graph frame.executor
Fits graph state (effect.Spawn r frame job cell next) =
    IsKnown graph frame.executor × (job ≡ length state.jobs)
Fits graph state (effect.New r cell n next) = n ≡ length state.cells
Fits graph state _ = Unit {0}

-- ---- global actors
counted : (functions : List Function) (n : ℕ)
    → n ≤ fold (λ m (f : Function). max m (actors_to f.iso)) n functions
counted [] n = omega arith
counted (f ∷ fs) n = omega (arith, counted fs (max n (actors_to f.iso)))

known_at : (functions : List Function) (n i : ℕ) (f : Function) → slice_get functions i ≡ Some f
    → actors_to f.iso ≤ fold (λ m (g : Function). max m (actors_to g.iso)) n functions
known_at [] n i f e = cc
known_at (g ∷ gs) n zero f e =
    let same : g ≡ f = some_injective e in
    omega (arith, ap (λ (h : Function). actors_to h.iso) same, counted gs (max n (actors_to g.iso)))
known_at (g ∷ gs) n (suc i) f e = known_at gs (max n (actors_to g.iso)) i f e

known_executor : (graph : Graph) (number : ℕ) (f : Function) → slice_get graph.functions number ≡ Some f
    → (regs : List (Option Value)) (e : Executor) → executor_of f.iso regs ≡ Some e → IsKnown graph e
known_executor graph number f there regs e is =
    by f.iso (known_at graph.functions 0 number f there) is where
      of_value : (o : Option ℕ) → option_map executor.ActorOf o ≡ Some e → IsKnown graph e
      of_value None h = cc
      of_value (Some c) h = let same : executor.ActorOf c ≡ e = some_injective h in
          subst (IsKnown graph) same tt

      by : (i : Iso) → actors_to i ≤ global_count graph.functions → executor_of i regs ≡ Some e
          → IsKnown graph e
      by iso.Free few h = let same : executor.Generic ≡ e = some_injective h in subst (IsKnown graph) same tt
      by iso.Caller few h =
          let same : executor.Generic ≡ e = some_injective h in subst (IsKnown graph) same tt
      by (iso.Global g) few h =
          let same : executor.Global g ≡ e = some_injective h in
          subst (IsKnown graph) same (let below : g < global_count graph.functions = omega arith in below)
      by iso.Own few h = of_value _ h

-- ---- frames
known_call : (graph : Graph) (caller : Frame) (number : ℕ) (kind : CallKind) (r : ℕ)
    (values : List Value) (callee : Frame) → called_frame graph caller number kind r values ≡ Some callee
    → callee.crossing ≡ true → IsKnown graph callee.executor
unfolding called_frame
known_call graph caller number kind r values callee is crossing =
    by (slice_get graph.functions number) refl is where
      on : (regs : List (Option Value)) (e : Executor) → IsKnown graph e
          → pushed_frame number r (crosses kind) regs e ≡ callee → IsKnown graph callee.executor
      on regs e known same = subst (λ (f : Frame). IsKnown graph f.executor) same known

      stays : (regs : List (Option Value)) (e : Executor) → crosses kind ≡ false
          → pushed_frame number r (crosses kind) regs e ≡ callee → IsKnown graph callee.executor
      stays regs e no_cross same =
          let clash : true ≡ false =
          sym crossing ∙ sym (ap (λ (f : Frame). f.crossing) same) ∙ no_cross in cc clash

      to_own : (regs : List (Option Value)) (o : Option Executor)
          → ((e : Executor) → o ≡ Some e → IsKnown graph e)
          → option_map (pushed_frame number r (crosses kind) regs) o ≡ Some callee
          → IsKnown graph callee.executor
      to_own regs None knows h = cc
      to_own regs (Some e) knows h = on regs e (knows e refl) (some_injective h)

      kinds : (f : Function) → slice_get graph.functions number ≡ Some f → (k : CallKind) → kind ≡ k
          → option_map (pushed_frame number r (crosses kind) (registers (length f.regs) values))
          (call_executor k caller.executor f.iso (registers (length f.regs) values)) ≡ Some callee
          → IsKnown graph callee.executor
      kinds f there Plain e h = stays (registers (length f.regs) values) caller.executor (ap crosses e) (some_injective h)
      kinds f there Same e h = stays (registers (length f.regs) values) caller.executor (ap crosses e) (some_injective h)
      kinds f there Make e h = stays (registers (length f.regs) values) caller.executor (ap crosses e) (some_injective h)
      kinds f there Weak e h = on (registers (length f.regs) values) executor.Generic tt (some_injective h)
      kinds f there Strong e h =
          to_own (registers (length f.regs) values) (executor_of f.iso (registers (length f.regs) values))
          (known_executor graph number f there (registers (length f.regs) values)) h

      by : (o : Option Function) → slice_get graph.functions number ≡ o
          → option_and_then (λ f. called_in caller number kind r f.iso (registers (length f.regs) values)) o
          ≡ Some callee → IsKnown graph callee.executor
      by None there h = cc
      by (Some f) there h = kinds f there kind refl h

abbrev first_frame_at : ℕ → List (Option Value) → Executor → Frame
first_frame_at number regs e = record {
  function = number;
  point = 0;
  regs = regs;
  executor = e;
  crossing = true;
  result = NO_REGISTER;
}

known_task : (graph : Graph) (number : ℕ) (values : List Value) (frame : Frame)
    → first_frame graph number values ≡ Some frame → IsKnown graph frame.executor
unfolding first_frame
known_task graph number values frame is = by (slice_get graph.functions number) refl is where
  to_own : (f : Function) (regs : List (Option Value)) (o : Option Executor)
      → ((e : Executor) → o ≡ Some e → IsKnown graph e)
      → option_map (λ e. first_frame_at number regs e) o ≡ Some frame → IsKnown graph frame.executor
  to_own f regs None knows h = cc
  to_own f regs (Some e) knows h =
      subst (λ (g : Frame). IsKnown graph g.executor) (some_injective h) (knows e refl)

  by : (o : Option Function) → slice_get graph.functions number ≡ o
      → option_and_then (λ f. first_frame_of number f.iso (registers (length f.regs) values)) o ≡ Some frame
      → IsKnown graph frame.executor
  by None there h = cc
  by (Some f) there h =
      to_own f (registers (length f.regs) values) (executor_of f.iso (registers (length f.regs) values))
      (known_executor graph number f there (registers (length f.regs) values)) h

-- ---- effects
module _ (graph : Graph) (state : State) where
  record FitsHere (e : Effect) : Type 0 where
    fits : Fits graph state e

  fits_needs : {A : Type 0} (o : Option A) (f : A → Effect) → ((x : A) → o ≡ Some x → FitsHere (f x))
      → FitsHere (needs o f)
  fits_needs None f each = record { fits = tt }
  fits_needs (Some x) f each = each x refl

  fits_set : (next r : ℕ) (o : Option Value) → FitsHere (set_of next r o)
  fits_set next r o = fits_needs o (λ v. effect.Set r v next) (λ v e. record { fits = tt })

  fits_computed : (next at r : ℕ) (o : Option (Result Value TrapKind))
      → FitsHere (needs o (computed_of next at r))
  fits_computed next at r o = fits_needs o (computed_of next at r) (λ c e. by c) where
    by : (c : Result Value TrapKind) → FitsHere (computed_of next at r c)
    by (Ok v) = record { fits = tt }
    by (Err kind) = record { fits = tt }

  fits_enter : (depth next at : ℕ) (frame : Frame)
      → (frame.crossing ≡ true → IsKnown graph frame.executor)
      → FitsHere (enter_of depth next at frame)
  fits_enter depth next at frame known = by (nat_le MAX_FRAMES depth) where
    by : (b : Bool) → FitsHere (cond b (effect.Halt Frames at) (effect.Enter frame next))
    by true = record { fits = tt }
    by false = record { fits = known }

  fits_spawn : (next at r : ℕ) (frame : Frame) → IsKnown graph frame.executor
      → FitsHere (spawn_of state next at r frame)
  fits_spawn next at r frame known = by (nat_le MAX_JOBS (length state.jobs)) where
    by : (b : Bool) → FitsHere (cond b (effect.Halt Jobs at)
        (effect.Spawn r frame (length state.jobs) (length state.cells) next))
    by true = record { fits = tt }
    by false = record { fits = (known, refl) }

  fits_closure : (frame : Frame) (r : ℕ) (values : List Value) (c : HeapCell) (callee : Frame)
      → closure_frame graph frame r values c ≡ Some callee → callee.crossing ≡ true
      → IsKnown graph callee.executor
  fits_closure frame r values (cell.Closure number captures) callee e crossing =
      known_call graph frame number Plain r (captures ++ values) callee e crossing
  fits_closure frame r values (cell.Object k parts) callee e crossing = cc
  fits_closure frame r values (cell.Actor k parts) callee e crossing = cc
  fits_closure frame r values (cell.BoxOf v) callee e crossing = cc
  fits_closure frame r values (cell.TaskOf j) callee e crossing = cc

  fits_write : (frame : Frame) (next : ℕ) (o : Operand) (slot : Slot) (src : Operand)
      → FitsHere (slot_write state frame next o slot src)
  fits_write frame next o slot src =
      fits_needs (operand_value frame.regs src)
      (λ v. needs (slot_at state frame o slot) (λ c. effect.Write c slot v next))
      (λ v e. fits_needs (slot_at state frame o slot) (λ c. effect.Write c slot v next)
      (λ c f. record { fits = tt }))

  -- what sets a register, writes, or makes a cell
  fits_after : {A : Type 0} (o : Option A) (f : A → Effect) → ((x : A) → FitsHere (f x))
      → FitsHere (needs o f)
  fits_after o f each = fits_needs o f (λ x e. each x)

  fits_instr : (depth : ℕ) (frame : Frame) (next : ℕ) (i : Instr)
      → FitsHere (instr_effect graph state depth frame next i)
  fits_instr depth frame next (instr.Const at dst literal) = record { fits = tt }
  fits_instr depth frame next (instr.Un at dst op src) =
      fits_computed next at dst (option_and_then (unary op) (operand_value frame.regs src))
  fits_instr depth frame next (instr.Bin at dst op left right) =
      fits_after (operand_value frame.regs left)
      (λ v. needs (option_and_then (binary op v) (operand_value frame.regs right)) (computed_of next at dst))
      (λ v. fits_computed next at dst (option_and_then (binary op v) (operand_value frame.regs right)))
  fits_instr depth frame next (instr.Print at dst args) =
      fits_after (printed_line frame.regs args) (λ line. effect.Print dst line next)
      (λ line. record { fits = tt })
  fits_instr depth frame next (instr.Copy at dst src) = fits_set next dst (operand_value frame.regs src)
  fits_instr depth frame next (instr.Field at dst src part) =
      fits_set next dst (option_and_then (field_of part) (operand_value frame.regs src))
  fits_instr depth frame next (instr.Payload at dst src index) =
      fits_set next dst (option_and_then (payload_of index) (operand_value frame.regs src))
  fits_instr depth frame next (instr.SetField at target part src) =
      fits_after (operand_value frame.regs src)
      (λ v. needs (option_and_then (field_of part) (operand_value frame.regs target))
      (λ old. effect.SetField target.reg part v next))
      (λ v. fits_after (option_and_then (field_of part) (operand_value frame.regs target))
      (λ old. effect.SetField target.reg part v next) (λ old. record { fits = tt }))
  fits_instr depth frame next (instr.Make at dst shape tag args) =
      fits_after (values_at frame.regs args) (λ parts. effect.Set dst (made tag parts) next)
      (λ parts. record { fits = tt })
  fits_instr depth frame next (instr.NewObject at dst shape args) =
      fits_after (values_at frame.regs args) (λ parts. new_of state next dst (cell.Object shape parts))
      (λ parts. record { fits = refl })
  fits_instr depth frame next (instr.NewBox at dst src) =
      fits_after (operand_value frame.regs src) (λ v. new_of state next dst (cell.BoxOf v))
      (λ v. record { fits = refl })
  fits_instr depth frame next (instr.NewActor at dst shape args) =
      fits_after (values_at frame.regs args) (λ parts. new_of state next dst (cell.Actor shape parts))
      (λ parts. record { fits = refl })
  fits_instr depth frame next (instr.LoadBox at dst c) = fits_set next dst (loaded state frame c Content)
  fits_instr depth frame next (instr.StoreBox at c src) = fits_write frame next c Content src
  fits_instr depth frame next (instr.LoadProp at dst c part) =
      fits_set next dst (loaded state frame c (Part part))
  fits_instr depth frame next (instr.StoreProp at c part src) = fits_write frame next c (Part part) src
  fits_instr depth frame next (instr.LoadGlobal at dst global) =
      fits_set next dst (value_at state.globals global)
  fits_instr depth frame next (instr.StoreGlobal at global src) =
      fits_after (operand_value frame.regs src)
      (λ v. needs (slice_get state.globals global) (λ old. effect.WriteGlobal global v next))
      (λ v. fits_after (slice_get state.globals global) (λ old. effect.WriteGlobal global v next)
      (λ old. record { fits = tt }))
  fits_instr depth frame next (instr.NewClosure at dst function captures) =
      fits_after (values_at frame.regs captures)
      (λ values. new_of state next dst (cell.Closure function values)) (λ values. record { fits = refl })
  fits_instr depth frame next (instr.Call at dst kind function args) =
      fits_after (values_at frame.regs args)
      (λ values. needs (called_frame graph frame function kind dst values) (enter_of depth next at))
      (λ values. fits_needs (called_frame graph frame function kind dst values) (enter_of depth next at)
      (λ callee f. fits_enter depth next at callee (known_call graph frame function kind dst values callee f)))
  fits_instr depth frame next (instr.CallClosure at dst closure args) =
      fits_after (values_at frame.regs args)
      (λ values. needs (option_and_then (closure_frame graph frame dst values) (cell_at state frame closure))
      (enter_of depth next at))
      (λ values. fits_needs
      (option_and_then (closure_frame graph frame dst values) (cell_at state frame closure))
      (enter_of depth next at)
      (λ callee f. fits_enter depth next at callee (of_cell values (cell_at state frame closure) callee f)))
    where
      of_cell : (values : List Value) (o : Option HeapCell) (callee : Frame)
          → option_and_then (closure_frame graph frame dst values) o ≡ Some callee
          → callee.crossing ≡ true → IsKnown graph callee.executor
      of_cell values None callee e crossing = cc
      of_cell values (Some c) callee e crossing = fits_closure frame dst values c callee e crossing
  fits_instr depth frame next (instr.NewTask at dst function captures) =
      fits_after (values_at frame.regs captures)
      (λ values. needs (first_frame graph function values) (spawn_of state next at dst))
      (λ values. fits_needs (first_frame graph function values) (spawn_of state next at dst)
      (λ first f. fits_spawn next at dst first (known_task graph function values first f)))
  fits_instr depth frame next (instr.Await at dst task) =
      fits_after (option_and_then task_of (cell_at state frame task)) (λ job. effect.Wait job dst next)
      (λ job. record { fits = tt })
  fits_instr depth frame next (instr.Yield at dst) = record { fits = tt }

  fits_goto : (frame : Frame) (block : ℕ) → FitsHere (goto_of graph frame block)
  fits_goto frame block =
      fits_after (start_at graph frame block) effect.Goto (λ next. record { fits = tt })

  fits_last : (frame : Frame) (l : Last) → FitsHere (last_effect graph frame l)
  fits_last frame (last.Jump to) = fits_goto frame to
  fits_last frame (last.Branch condition holds fails) =
      fits_after (option_and_then truth_of (operand_value frame.regs condition))
      (λ truth. goto_of graph frame (cond truth holds fails))
      (λ truth. fits_goto frame (cond truth holds fails))
  fits_last frame (last.Switch subject to) =
      fits_after (option_and_then tag_of (operand_value frame.regs subject))
      (λ tag. needs (slice_get to tag) (goto_of graph frame))
      (λ tag. fits_after (slice_get to tag) (goto_of graph frame) (fits_goto frame))
  fits_last frame (last.Return operand) =
      fits_after (returned_value frame.regs operand) effect.Leave (λ v. record { fits = tt })

  fits_point : (depth : ℕ) (frame : Frame) (p : Point) → FitsHere (point_effect graph state depth frame p)
  fits_point depth frame (Middle i) = fits_instr depth frame (frame.point + 1) i
  fits_point depth frame (End l) = fits_last frame l

  fits_effect : (depth : ℕ) (frame : Frame) → FitsHere (effect_of graph state depth frame)
  unfolding effect_of
  fits_effect depth frame = fits_after (point_at graph frame) (point_effect graph state depth frame) (fits_point depth frame)

  -- and so do the effects of acts
  pub fits_act : (j : ℕ) (e : Effect) → act_of graph state j ≡ Some (Execute e) → Fits graph state e
  unfolding act_of
  fits_act j e is = (halts (is_some state.halted) is).fits where
    inner : (f : Effect) → Execute f ≡ Execute e → f ≡ e
    inner f h = cc

    executed : (f : Effect) → FitsHere f → execution_of f ≡ Some (Execute e) → FitsHere e
    executed effect.Stuck fits h = cc
    executed f fits h = subst FitsHere (inner f (some_injective h)) fits

    on_top : (depth : ℕ) (o : Option Frame)
        → option_and_then (λ frame. execution_of (effect_of graph state depth frame)) o ≡ Some (Execute e)
        → FitsHere e
    on_top depth None h = cc
    on_top depth (Some frame) h = executed (effect_of graph state depth frame) (fits_effect depth frame) h

    no_dispatch : (o : Option Frame) → option_and_then (dispatch_of state) o ≡ Some (Execute e) → FitsHere e
    no_dispatch None h = cc
    no_dispatch (Some frame) h = by (is_free frame.executor state.jobs) h where
      by : (b : Bool) → cond b (Some Dispatch) None ≡ Some (Execute e) → FitsHere e
      by true g = cc
      by false g = cc

    no_wake : (on r : ℕ) (o : Option Value) → option_map (Wake on r) o ≡ Some (Execute e) → FitsHere e
    no_wake on r None h = cc
    no_wake on r (Some v) h = cc

    of_job : (job : Job) (status : Status) → act_by graph state job status ≡ Some (Execute e) → FitsHere e
    of_job job Ready h = no_dispatch (top_frame job) h
    of_job job (Waiting on r) h = no_wake on r (result_of state on) h
    of_job job Running h = on_top (length job.frames) (top_frame job) h
    of_job job (Ended v) h = cc

    jobs : (o : Option Job) → option_and_then (λ job. act_by graph state job job.status) o ≡ Some (Execute e)
        → FitsHere e
    jobs None h = cc
    jobs (Some job) h = of_job job job.status h

    halts : (b : Bool) → cond b None (option_and_then (λ job. act_by graph state job job.status)
        (slice_get state.jobs j)) ≡ Some (Execute e) → FitsHere e
    halts true h = cc
    halts false h = jobs (slice_get state.jobs j) h
