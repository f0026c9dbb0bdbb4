-- A step changes no location but the one that the next access of its job writes.
use Rattle.std.proofs.Common.{◌≡◌, ℕ, ◌+◌, Bool, true, false, cond, Option, Some, None, length}
use Rattle.std.proofs.Common.{refl, ap, sym, subst, ◌∙◌, nat_le}
use Rattle.std.specs.Prelude.{option_and_then, Result, Ok, Err}
use Rattle.std.specs.Option.{option_map}
use Rattle.std.specs.List.{slice_get}
use Rattle.sw_list.proofs.ListLemmas.{some_injective}
use Rattle.sw_graph.specs.declared.graph.Graph.{Graph}
use Rattle.sw_graph.specs.declared.instr.Instr.{Instr}
use Rattle.sw_graph.specs.declared.instr.Instr.TheVariants as instr
use Rattle.sw_graph.specs.declared.instr.Last.{Last}
use Rattle.sw_graph.specs.declared.instr.Last.TheVariants as last
use Rattle.sw_graph.specs.declared.instr.Operand.{Operand}
use Rattle.sw_graph.specs.Points.{Point, Middle, End}
use Rattle.sw_value.specs.declared.cell.HeapCell.TheVariants as cell
use Rattle.sw_value.specs.declared.cell.Slot.{Slot}
use Rattle.sw_value.specs.declared.cell.Slot.TheVariants.{Part, Content}
use Rattle.sw_value.specs.declared.effect.Act.{Act}
use Rattle.sw_value.specs.declared.effect.Act.TheVariants.{Dispatch, Wake, Execute}
use Rattle.sw_value.specs.declared.effect.Effect.{Effect}
use Rattle.sw_value.specs.declared.effect.Effect.TheVariants as effect
use Rattle.sw_value.specs.declared.frame.Frame.{Frame}
use Rattle.sw_value.specs.declared.frame.TheConstants.{MAX_FRAMES}
use Rattle.sw_value.specs.declared.job.TheConstants.{MAX_JOBS}
use Rattle.sw_value.specs.declared.race.Access.{Access}
use Rattle.sw_value.specs.declared.race.Place.{Place}
use Rattle.sw_value.specs.declared.race.Place.TheVariants.{Prop, Global, BoxOf}
use Rattle.sw_value.specs.declared.state.State.{State}
use Rattle.sw_value.specs.declared.state.TrapKind.{TrapKind}
use Rattle.sw_value.specs.declared.state.TrapKind.TheVariants.{Frames, Jobs}
use Rattle.sw_value.specs.declared.value.Value.{Value}
use Rattle.sw_value.specs.Access.{box_at, part_at, write_by, point_access}
use Rattle.sw_value.specs.Access.{next_access}
use Rattle.sw_value.specs.Act.{execution_of, act_of}
use Rattle.sw_value.specs.Arithmetic.{unary, binary}
use Rattle.sw_value.specs.Call.{called_frame, closure_frame}
use Rattle.sw_value.specs.Cell.{slot_of, with_slot, task_of}
use Rattle.sw_value.specs.Effect.{needs, is_stuck, computed_of, slot_write, global_write, enter_of}
use Rattle.sw_value.specs.Effect.{spawn_of, goto_of, instr_effect, last_effect, point_effect}
use Rattle.sw_value.specs.Effect.{new_of, loaded, cell_at, returned_value}
use Rattle.sw_value.specs.Frame.{first_frame, start_at}
use Rattle.sw_value.specs.Printed.{printed_line}
use Rattle.sw_value.specs.Reach.{after_effect, step_of}
use Rattle.sw_value.specs.State.{in_job, add_job, add_cell, in_cell, set_global, halt}
use Rattle.sw_value.specs.Value.{operand_value, reference_at, value_at, values_at, field_of}
use Rattle.sw_value.specs.Value.{payload_of, made, truth_of, tag_of}
use Rattle.sw_value.proofs.ReachLemmas.{after_acts, step_by_act}
use Rattle.sw_machine_access_facts.specs.Footprint.{IsWriteOf, Writes}
use Rattle.sw_machine_access_facts.specs.Location.{location_at, IsLocation, content_of}
use Rattle.sw_machine_access_facts.proofs.CellLemmas.{slot_place}
use Rattle.sw_machine_access_facts.proofs.ContentLemmas.{content_kept, content_same, content_added}
use Rattle.sw_machine_access_facts.proofs.ContentLemmas.{location_same, location_added, location_kept}
use Rattle.sw_machine_access_facts.proofs.NextLemmas.{access_at, access_made, Next, next_of}
use Rattle.sw_machine_access_facts.proofs.NextLemmas.{idle, dispatches, wakes, executes}

-- the place that an effect writes, if it writes one
abbrev written : Effect → Option Place
written (effect.Write c slot v next) = Some (slot_place c slot)
written (effect.WriteGlobal g v next) = Some (Global g)
written _ = None

-- another place than that of the slot that is written
pub slot_written : (state : State) (c : ℕ) (slot : Slot) (v : Value) (place : Place)
    → (slot_place c slot ≡ place → ⊥)
    → content_of (in_cell (with_slot slot v) c state) place ≡ content_of state place
slot_written state c (Part i) v place apart =
    content_kept state (Prop c i) place v (λ e. apart (sym e))
slot_written state c Content v place apart =
    content_kept state (BoxOf c) place v (λ e. apart (sym e))

slot_stays : (graph : Graph) (state : State) (c : ℕ) (slot : Slot) (v : Value) (place : Place)
    → location_at graph (in_cell (with_slot slot v) c state) place ≡ location_at graph state place
slot_stays graph state c (Part i) v place = location_kept graph state (Prop c i) place v
slot_stays graph state c Content v place = location_kept graph state (BoxOf c) place v

-- an effect changes no location but the one that it writes
effect_writes : (graph : Graph) (state : State) (j : ℕ) (e : Effect) (place : Place)
    → IsLocation graph state place → (written e ≡ Some place → ⊥)
    → content_of (after_effect j e state) place ≡ content_of state place
unfolding in_job add_job add_cell in_cell set_global halt
effect_writes graph state j (effect.New r h number next) place is apart =
    content_same (add_cell h state) (after_effect j (effect.New r h number next) state) refl refl
    place
    ∙ content_added graph state h place is
effect_writes graph state j (effect.Spawn r frame job c next) place is apart =
    content_same (add_cell (cell.TaskOf job) state)
    (after_effect j (effect.Spawn r frame job c next) state) refl refl place
    ∙ content_added graph state (cell.TaskOf job) place is
effect_writes graph state j (effect.Write c slot v next) place is apart =
    content_same (in_cell (with_slot slot v) c state)
    (after_effect j (effect.Write c slot v next) state) refl refl place
    ∙ slot_written state c slot v place (λ e. apart (ap Some e))
effect_writes graph state j (effect.WriteGlobal g v next) place is apart =
    content_same (set_global g v state) (after_effect j (effect.WriteGlobal g v next) state) refl
    refl place
    ∙ content_kept state (Global g) place v (λ e. apart (ap Some (sym e)))
effect_writes graph state j e place is apart =
    content_same state (after_effect j e state) refl refl place

effect_stays : (graph : Graph) (state : State) (j : ℕ) (e : Effect) (place : Place)
    → IsLocation graph state place
    → location_at graph (after_effect j e state) place ≡ location_at graph state place
unfolding in_job add_job add_cell in_cell set_global halt
effect_stays graph state j (effect.New r h number next) place is =
    location_same graph (add_cell h state)
    (after_effect j (effect.New r h number next) state) refl place
    ∙ location_added graph state h place is
effect_stays graph state j (effect.Spawn r frame job c next) place is =
    location_same graph (add_cell (cell.TaskOf job) state)
    (after_effect j (effect.Spawn r frame job c next) state) refl place
    ∙ location_added graph state (cell.TaskOf job) place is
effect_stays graph state j (effect.Write c slot v next) place is =
    location_same graph (in_cell (with_slot slot v) c state)
    (after_effect j (effect.Write c slot v next) state) refl place
    ∙ slot_stays graph state c slot v place
effect_stays graph state j e place is =
    location_same graph state (after_effect j e state) refl place

-- most instructions write nothing
needs_quiet : {A : Type 0} (o : Option A) (f : A → Effect) → ((x : A) → written (f x) ≡ None)
    → written (needs o f) ≡ None
needs_quiet None f quiet = refl
needs_quiet (Some x) f quiet = quiet x

computed_quiet : (next at r : ℕ) (result : Result Value TrapKind)
    → written (computed_of next at r result) ≡ None
computed_quiet next at r (Ok v) = refl
computed_quiet next at r (Err kind) = refl

enter_quiet : (depth next at : ℕ) (frame : Frame) → written (enter_of depth next at frame) ≡ None
enter_quiet depth next at frame = by (nat_le MAX_FRAMES depth) where
  by : (full : Bool)
      → written (cond full (effect.Halt Frames at) (effect.Enter frame next)) ≡ None
  by true = refl
  by false = refl

spawn_quiet : (state : State) (next at r : ℕ) (frame : Frame)
    → written (spawn_of state next at r frame) ≡ None
spawn_quiet state next at r frame = by (nat_le MAX_JOBS (length state.jobs)) where
  by : (full : Bool) → written (cond full (effect.Halt Jobs at)
      (effect.Spawn r frame (length state.jobs) (length state.cells) next)) ≡ None
  by true = refl
  by false = refl

abbrev is_store : Instr → Bool
is_store (instr.StoreBox at b s) = true
is_store (instr.StoreProp at o i s) = true
is_store (instr.StoreGlobal at g s) = true
is_store _ = false

instr_quiet : (graph : Graph) (state : State) (depth next : ℕ) (frame : Frame) (i : Instr)
    → is_store i ≡ false → written (instr_effect graph state depth frame next i) ≡ None
instr_quiet graph state depth next frame (instr.StoreBox at b s) calm = cc
instr_quiet graph state depth next frame (instr.StoreProp at o i s) calm = cc
instr_quiet graph state depth next frame (instr.StoreGlobal at g s) calm = cc
instr_quiet graph state depth next frame (instr.Const at r literal) calm = refl
instr_quiet graph state depth next frame (instr.Un at r op s) calm =
    needs_quiet (option_and_then (unary op) (operand_value frame.regs s)) (computed_of next at r)
    (computed_quiet next at r)
instr_quiet graph state depth next frame (instr.Bin at r op s t) calm =
    needs_quiet (operand_value frame.regs s)
    (λ v. needs (option_and_then (binary op v) (operand_value frame.regs t))
    (computed_of next at r))
    (λ v. needs_quiet (option_and_then (binary op v) (operand_value frame.regs t))
    (computed_of next at r) (computed_quiet next at r))
instr_quiet graph state depth next frame (instr.Print at r ss) calm =
    needs_quiet (printed_line frame.regs ss) (λ line. effect.Print r line next) (λ line. refl)
instr_quiet graph state depth next frame (instr.Copy at r s) calm =
    needs_quiet (operand_value frame.regs s) (λ v. effect.Set r v next) (λ v. refl)
instr_quiet graph state depth next frame (instr.Field at r s i) calm =
    needs_quiet (option_and_then (field_of i) (operand_value frame.regs s))
    (λ v. effect.Set r v next) (λ v. refl)
instr_quiet graph state depth next frame (instr.Payload at r s i) calm =
    needs_quiet (option_and_then (payload_of i) (operand_value frame.regs s))
    (λ v. effect.Set r v next) (λ v. refl)
instr_quiet graph state depth next frame (instr.SetField at r i s) calm =
    needs_quiet (operand_value frame.regs s)
    (λ v. needs (option_and_then (field_of i) (operand_value frame.regs r))
    (λ old. effect.SetField r.reg i v next))
    (λ v. needs_quiet (option_and_then (field_of i) (operand_value frame.regs r))
    (λ old. effect.SetField r.reg i v next) (λ old. refl))
instr_quiet graph state depth next frame (instr.Make at r k tag ss) calm =
    needs_quiet (values_at frame.regs ss) (λ parts. effect.Set r (made tag parts) next)
    (λ parts. refl)
instr_quiet graph state depth next frame (instr.NewObject at r k ss) calm =
    needs_quiet (values_at frame.regs ss) (λ parts. new_of state next r (cell.Object k parts))
    (λ parts. refl)
instr_quiet graph state depth next frame (instr.NewBox at r s) calm =
    needs_quiet (operand_value frame.regs s) (λ v. new_of state next r (cell.BoxOf v)) (λ v. refl)
instr_quiet graph state depth next frame (instr.NewActor at r k ss) calm =
    needs_quiet (values_at frame.regs ss) (λ parts. new_of state next r (cell.Actor k parts))
    (λ parts. refl)
instr_quiet graph state depth next frame (instr.LoadBox at r b) calm =
    needs_quiet (loaded state frame b Content) (λ v. effect.Set r v next) (λ v. refl)
instr_quiet graph state depth next frame (instr.LoadProp at r o i) calm =
    needs_quiet (loaded state frame o (Part i)) (λ v. effect.Set r v next) (λ v. refl)
instr_quiet graph state depth next frame (instr.LoadGlobal at r g) calm =
    needs_quiet (value_at state.globals g) (λ v. effect.Set r v next) (λ v. refl)
instr_quiet graph state depth next frame (instr.NewClosure at r f cs) calm =
    needs_quiet (values_at frame.regs cs)
    (λ captures. new_of state next r (cell.Closure f captures)) (λ captures. refl)
instr_quiet graph state depth next frame (instr.Call at r kind f ss) calm =
    needs_quiet (values_at frame.regs ss)
    (λ values. needs (called_frame graph frame f kind r values) (enter_of depth next at))
    (λ values. needs_quiet (called_frame graph frame f kind r values) (enter_of depth next at)
    (enter_quiet depth next at))
instr_quiet graph state depth next frame (instr.CallClosure at r c ss) calm =
    needs_quiet (values_at frame.regs ss)
    (λ values. needs (option_and_then (closure_frame graph frame r values) (cell_at state frame c))
    (enter_of depth next at))
    (λ values. needs_quiet
    (option_and_then (closure_frame graph frame r values) (cell_at state frame c))
    (enter_of depth next at) (enter_quiet depth next at))
instr_quiet graph state depth next frame (instr.NewTask at r f cs) calm =
    needs_quiet (values_at frame.regs cs)
    (λ captures. needs (first_frame graph f captures) (spawn_of state next at r))
    (λ captures. needs_quiet (first_frame graph f captures) (spawn_of state next at r)
    (spawn_quiet state next at r))
instr_quiet graph state depth next frame (instr.Await at r t) calm =
    needs_quiet (option_and_then task_of (cell_at state frame t)) (λ job. effect.Wait job r next)
    (λ job. refl)
instr_quiet graph state depth next frame (instr.Yield at r) calm = refl

goto_quiet : (graph : Graph) (frame : Frame) (block : ℕ)
    → written (goto_of graph frame block) ≡ None
goto_quiet graph frame block =
    needs_quiet (start_at graph frame block) effect.Goto (λ point. refl)

last_quiet : (graph : Graph) (frame : Frame) (l : Last) → written (last_effect graph frame l) ≡ None
last_quiet graph frame (last.Jump to) = goto_quiet graph frame to
last_quiet graph frame (last.Branch s holds fails) =
    needs_quiet (option_and_then truth_of (operand_value frame.regs s))
    (λ truth. goto_of graph frame (cond truth holds fails))
    (λ truth. goto_quiet graph frame (cond truth holds fails))
last_quiet graph frame (last.Switch s to) =
    needs_quiet (option_and_then tag_of (operand_value frame.regs s))
    (λ tag. needs (slice_get to tag) (goto_of graph frame))
    (λ tag. needs_quiet (slice_get to tag) (goto_of graph frame) (goto_quiet graph frame))
last_quiet graph frame (last.Return operand) =
    needs_quiet (returned_value frame.regs operand) effect.Leave (λ v. refl)

-- a store writes the place that its operand refers to
slot_store : (state : State) (frame : Frame) (next : ℕ) (o : Operand) (slot : Slot) (s : Operand)
    (place : Place) → written (slot_write state frame next o slot s) ≡ Some place
    → (c : ℕ) × (reference_at frame.regs o ≡ Some c) × (slot_place c slot ≡ place)
slot_store state frame next o slot s place = by (operand_value frame.regs s) where
  by_slot : (c : ℕ) (v : Value) → reference_at frame.regs o ≡ Some c → (old : Option Value)
      → written (needs (option_map (λ old. c) old) (λ c. effect.Write c slot v next)) ≡ Some place
      → (c : ℕ) × (reference_at frame.regs o ≡ Some c) × (slot_place c slot ≡ place)
  by_slot c v is None e = cc
  by_slot c v is (Some old) e = (c, is, some_injective e)

  by_cell : (v : Value) (reference : Option ℕ) → reference_at frame.regs o ≡ reference
      → written (needs (option_and_then
      (λ c. option_map (λ old. c) (option_and_then (slot_of slot) (slice_get state.cells c)))
      reference) (λ c. effect.Write c slot v next)) ≡ Some place
      → (c : ℕ) × (reference_at frame.regs o ≡ Some c) × (slot_place c slot ≡ place)
  by_cell v None is e = cc
  by_cell v (Some c) is e =
      by_slot c v is (option_and_then (slot_of slot) (slice_get state.cells c)) e

  by : (v : Option Value) → written (needs v (λ v. needs (option_and_then
      (λ c. option_map (λ old. c) (option_and_then (slot_of slot) (slice_get state.cells c)))
      (reference_at frame.regs o)) (λ c. effect.Write c slot v next))) ≡ Some place
      → (c : ℕ) × (reference_at frame.regs o ≡ Some c) × (slot_place c slot ≡ place)
  by None e = cc
  by (Some v) e = by_cell v (reference_at frame.regs o) refl e

global_store : (state : State) (frame : Frame) (next g : ℕ) (s : Operand) (place : Place)
    → written (global_write state frame next g s) ≡ Some place → Global g ≡ place
global_store state frame next g s place =
    by (operand_value frame.regs s) (slice_get state.globals g) where
      by : (v : Option Value) (old : Option (Option Value))
          → written (needs v (λ v. needs old (λ old. effect.WriteGlobal g v next))) ≡ Some place
          → Global g ≡ place
      by None old e = cc
      by (Some v) None e = cc
      by (Some v) (Some old) e = some_injective e

-- a point makes a write of the place
abbrev IsStore : Graph → State → ℕ → Frame → Point → Place → Type 0
IsStore graph state j frame point place =
    (at : ℕ) × (point_access graph state j frame point ≡ Some (write_by j at place))

silent : {B : Type 0} (o : Option Place) (place : Place) → o ≡ None → o ≡ Some place → B
silent o place none some = cc

-- an instruction that writes a location makes the access that says so
instr_writes : (graph : Graph) (state : State) (j depth next : ℕ) (frame : Frame) (i : Instr)
    (place : Place) → IsLocation graph state place
    → written (instr_effect graph state depth frame next i) ≡ Some place
    → IsStore graph state j frame (Middle i) place
instr_writes graph state j depth next frame (instr.StoreBox at b s) place is e =
    let found = slot_store state frame next b Content s place e in (
      at,
      ap (λ o. option_map (write_by j at) (option_and_then (box_at state) o)) found.1
          ∙ ap (option_map (write_by j at)) (ap (location_at graph state) found.2 ∙ is),
    )
instr_writes graph state j depth next frame (instr.StoreProp at o i s) place is e =
    let found = slot_store state frame next o (Part i) s place e in (
      at,
      ap (λ c. option_map (write_by j at) (option_and_then (part_at graph state i) c)) found.1
          ∙ ap (option_map (write_by j at)) (ap (location_at graph state) found.2 ∙ is),
    )
instr_writes graph state j depth next frame (instr.StoreGlobal at g s) place is e =
    let same = global_store state frame next g s place e in
    (at, ap (option_map (write_by j at)) (ap (location_at graph state) same ∙ is))
instr_writes graph state j depth next frame i place is e =
    silent (written (instr_effect graph state depth frame next i)) place
    (instr_quiet graph state depth next frame i refl) e

point_writes : (graph : Graph) (state : State) (j depth : ℕ) (frame : Frame) (point : Point)
    (place : Place) → IsLocation graph state place
    → written (point_effect graph state depth frame point) ≡ Some place
    → IsStore graph state j frame point place
point_writes graph state j depth frame (Middle i) place is e =
    instr_writes graph state j depth (frame.point + 1) frame i place is e
point_writes graph state j depth frame (End l) place is e =
    silent (written (last_effect graph frame l)) place (last_quiet graph frame l) e

-- what writes is not stuck
writes_free : (e : Effect) (place : Place) → written e ≡ Some place → is_stuck e ≡ false
writes_free effect.Stuck place is = cc
writes_free e place is = refl

made_write : (graph : Graph) (state : State) (j depth : ℕ) (frame : Frame) (point : Point)
    (place : Place) → IsLocation graph state place
    → written (point_effect graph state depth frame point) ≡ Some place
    → IsWriteOf place (access_at graph state j depth frame point)
made_write graph state j depth frame point place is e =
    let store = point_writes graph state j depth frame point place is e in
    subst (IsWriteOf place)
    (sym (access_made graph state j depth frame point (Some (write_by j store.0 place))
    (writes_free (point_effect graph state depth frame point) place e) store.1)) (refl, refl)

-- an instruction that is stuck changes nothing
executed : (j : ℕ) (e : Effect) (state : State)
    → after_acts j (execution_of e) state ≡ after_effect j e state
executed j effect.Stuck state = refl
executed j e state = refl

act_writes : (graph : Graph) (state : State) (j : ℕ) (place : Place) → IsLocation graph state place
    → (act : Option Act) (next : Option Access) → Next graph state j act next
    → (IsWriteOf place next → ⊥)
    → content_of (after_acts j act state) place ≡ content_of state place
unfolding in_job
act_writes graph state j place is _ _ idle apart = refl
act_writes graph state j place is _ _ dispatches apart =
    content_same state (after_acts j (Some Dispatch) state) refl refl place
act_writes graph state j place is _ _ (wakes ended r v) apart =
    content_same state (after_acts j (Some (Wake ended r v)) state) refl refl place
act_writes graph state j place is _ _ (executes depth frame point) apart =
    let e = point_effect graph state depth frame point in
    ap (λ s. content_of s place) (executed j e state)
    ∙ effect_writes graph state j e place is
    (λ w. apart (made_write graph state j depth frame point place is w))

act_stays : (graph : Graph) (state : State) (j : ℕ) (place : Place) → IsLocation graph state place
    → (act : Option Act)
    → location_at graph (after_acts j act state) place ≡ location_at graph state place
unfolding in_job
act_stays graph state j place is None = refl
act_stays graph state j place is (Some Dispatch) =
    location_same graph state (after_acts j (Some Dispatch) state) refl place
act_stays graph state j place is (Some (Wake ended r v)) =
    location_same graph state (after_acts j (Some (Wake ended r v)) state) refl place
act_stays graph state j place is (Some (Execute e)) = effect_stays graph state j e place is

pub step_writes : (graph : Graph) (state : State) (j : ℕ) (place : Place)
    → IsLocation graph state place → (Writes graph state j place → ⊥)
    → content_of (step_of graph state j) place ≡ content_of state place
step_writes graph state j place is apart =
    ap (λ s. content_of s place) (step_by_act graph state j)
    ∙ act_writes graph state j place is (act_of graph state j) (next_access graph state j)
    (next_of graph state j) apart

pub step_stays : (graph : Graph) (state : State) (j : ℕ) (place : Place)
    → IsLocation graph state place → IsLocation graph (step_of graph state j) place
step_stays graph state j place is =
    ap (λ s. location_at graph s place) (step_by_act graph state j)
    ∙ act_stays graph state j place is (act_of graph state j) ∙ is
