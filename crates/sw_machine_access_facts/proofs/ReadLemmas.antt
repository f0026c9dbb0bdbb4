-- What an item makes its job do doesn't depend on what stands at a location that the next access of
-- the job doesn't read.
use Rattle.std.proofs.Common.{◌≡◌, ℕ, ◌+◌, Bool, true, false, cond, Option, Some, None}
use Rattle.std.proofs.Common.{List, [], ◌∷◌, zero, suc, length, refl, ap, sym, subst, ◌∙◌, nat_le}
use Rattle.std.specs.Prelude.{option_and_then, is_some, IsSome}
use Rattle.std.specs.Option.{option_map}
use Rattle.std.specs.List.{slice_get, slice_set}
use Rattle.sw_graph.specs.declared.graph.Graph.{Graph}
use Rattle.sw_graph.specs.declared.instr.Instr.{Instr}
use Rattle.sw_graph.specs.declared.instr.Instr.TheVariants as instr
use Rattle.sw_graph.specs.declared.instr.Operand.{Operand}
use Rattle.sw_graph.specs.Points.{Point, Middle, End}
use Rattle.sw_value.specs.declared.cell.HeapCell.{HeapCell}
use Rattle.sw_value.specs.declared.cell.HeapCell.TheVariants as cell
use Rattle.sw_value.specs.declared.cell.Slot.{Slot}
use Rattle.sw_value.specs.declared.cell.Slot.TheVariants.{Part, Content}
use Rattle.sw_value.specs.declared.effect.Act.TheVariants.{Dispatch, Wake}
use Rattle.sw_value.specs.declared.effect.Effect.{Effect}
use Rattle.sw_value.specs.declared.effect.Effect.TheVariants as effect
use Rattle.sw_value.specs.declared.frame.Frame.{Frame}
use Rattle.sw_value.specs.declared.job.Job.{Job}
use Rattle.sw_value.specs.declared.job.Status.{Status}
use Rattle.sw_value.specs.declared.job.Status.TheVariants.{Ready, Running, Waiting, Ended}
use Rattle.sw_value.specs.declared.job.TheConstants.{MAX_JOBS}
use Rattle.sw_value.specs.declared.race.Place.{Place}
use Rattle.sw_value.specs.declared.race.Place.TheVariants.{Prop, Global, BoxOf}
use Rattle.sw_value.specs.declared.state.State.{State}
use Rattle.sw_value.specs.declared.state.TrapKind.TheVariants.{Jobs}
use Rattle.sw_value.specs.declared.value.Value.{Value}
use Rattle.sw_value.specs.Access.{box_at, part_at, read_by, point_access, frame_access}
use Rattle.sw_value.specs.Access.{job_access, next_access}
use Rattle.sw_value.specs.Act.{execution_of, act_by, act_of}
use Rattle.sw_value.specs.Call.{closure_frame}
use Rattle.sw_value.specs.Cell.{slot_of, task_of}
use Rattle.sw_value.specs.Effect.{needs, is_stuck, set_of, cell_at, slot_write}
use Rattle.sw_value.specs.Effect.{global_write, enter_of, instr_effect, point_effect, effect_of}
use Rattle.sw_value.specs.Frame.{first_frame, point_at}
use Rattle.sw_value.specs.Job.{top_frame, is_running_status, is_running, ended_with}
use Rattle.sw_value.specs.State.{is_free, result_of, in_cell, set_global}
use Rattle.sw_value.specs.Value.{operand_value, reference_at, value_at, values_at}
use Rattle.sw_machine_access_facts.specs.Footprint.{IsReadOf, Reads}
use Rattle.sw_machine_access_facts.specs.Location.{location_at, IsLocation, content_of, with_content}
use Rattle.sw_machine_access_facts.proofs.CellLemmas.{IsOfForm, task_form, closure_form, slot_form, slot_place}
use Rattle.sw_machine_access_facts.proofs.ContentLemmas.{slot_content, content_kept, form_same}
use Rattle.sw_machine_access_facts.proofs.ContentLemmas.{count_same, jobs_same, halted_same}
use Rattle.sw_machine_access_facts.proofs.NextLemmas.{access_at, access_made}

-- A location that has a value, and that the access of a point doesn't read.
record IsUnread (graph : Graph) (state : State) (j depth : ℕ) (frame : Frame) (point : Point)
    (place : Place) : Type 0 where
  is : IsLocation graph state place
  has : IsSome (content_of state place)
  apart : IsReadOf place (access_at graph state j depth frame point) → ⊥

-- a load that finds a value is not stuck
set_free : (next r : ℕ) (o : Option Value) → IsSome o → is_stuck (set_of next r o) ≡ false
set_free next r None has = cc
set_free next r (Some v) has = refl

-- a point that is not stuck and that reads the place
unread : (graph : Graph) (state : State) (j depth at : ℕ) (frame : Frame) (point : Point)
    (place : Place) → IsUnread graph state j depth frame point place
    → is_stuck (point_effect graph state depth frame point) ≡ false
    → point_access graph state j frame point ≡ Some (read_by j at place) → ⊥
unread graph state j depth at frame point place x free makes =
    x.apart (subst (IsReadOf place)
    (sym (access_made graph state j depth frame point (Some (read_by j at place)) free makes))
    (refl, refl))

-- what a load finds, by the cell that its operand refers to
abbrev found_in : State → Slot → Option ℕ → Option Value
found_in state slot reference =
    option_and_then (slot_of slot) (option_and_then (λ c. slice_get state.cells c) reference)

-- a load from a place that is not the one that changes
load_apart : (state : State) (place : Place) (v : Value) (slot : Slot) (reference : Option ℕ)
    → ((c : ℕ) → reference ≡ Some c → slot_place c slot ≡ place → ⊥)
    → found_in (with_content place v state) slot reference ≡ found_in state slot reference
load_apart state place v slot None apart = refl
load_apart state place v slot (Some c) apart =
    sym (slot_content c slot (with_content place v state))
    ∙ content_kept state place (slot_place c slot) v (apart c refl)
    ∙ slot_content c slot state

-- the place that a load refers to is one that it reads
load_reads : (state : State) (place : Place) (slot : Slot) (next r c : ℕ) (reference : Option ℕ)
    → reference ≡ Some c → slot_place c slot ≡ place → IsSome (content_of state place)
    → is_stuck (set_of next r (found_in state slot reference)) ≡ false
load_reads state place slot next r c reference names same has =
    set_free next r (found_in state slot reference)
    (subst IsSome (ap (content_of state) (sym same) ∙ slot_content c slot state
    ∙ ap (found_in state slot) (sym names)) has)

-- what is said of the cell of an operand, whatever its slots have
operand_form : {B : Type 0} (f : HeapCell → Option B) → IsOfForm f → (state : State)
    (place : Place) (v : Value) (reference : Option ℕ)
    → option_and_then f
    (option_and_then (λ c. slice_get (with_content place v state).cells c) reference)
    ≡ option_and_then f (option_and_then (λ c. slice_get state.cells c) reference)
operand_form f form state place v None = refl
operand_form f form state place v (Some c) = form_same f form place v state c

-- whether the cell of an operand has a slot
map_then : {A B C : Type 0} (x : C) (f : A → Option B) (o : Option A)
    → option_map (λ _. x) (option_and_then f o)
    ≡ option_and_then (λ a. option_and_then (λ _. Some x) (f a)) o
map_then {B = B} {C = C} x f None = refl
map_then {B = B} {C = C} x f (Some a) = by (f a) where
  by : (o : Option B) → option_map (λ _. x) o ≡ option_and_then (λ _. Some x) o
  by None = refl
  by (Some b) = refl

slot_there : (state : State) (place : Place) (v : Value) (slot : Slot) (reference : Option ℕ)
    → option_and_then
    (λ c. option_map (λ old. c)
    (option_and_then (slot_of slot) (slice_get (with_content place v state).cells c))) reference
    ≡ option_and_then
    (λ c. option_map (λ old. c)
    (option_and_then (slot_of slot) (slice_get state.cells c))) reference
slot_there state place v slot None = refl
slot_there state place v slot (Some c) =
    map_then c (slot_of slot) (slice_get (with_content place v state).cells c)
    ∙ form_same (λ h. option_and_then (λ _. Some c) (slot_of slot h)) (slot_form (Some c) slot)
    place v state c
    ∙ sym (map_then c (slot_of slot) (slice_get state.cells c))

-- a store depends on no content
store_same : (state : State) (place : Place) (v : Value) (frame : Frame) (next : ℕ) (o : Operand)
    (slot : Slot) (s : Operand)
    → slot_write (with_content place v state) frame next o slot s
    ≡ slot_write state frame next o slot s
store_same state place v frame next o slot s =
    ap (λ there. needs (operand_value frame.regs s)
    (λ w. needs there (λ c. effect.Write c slot w next)))
    (slot_there state place v slot (reference_at frame.regs o))

set_needs : {A : Type 0} (e : Effect) (xs : List A) (n i : ℕ) (x : A)
    → needs (slice_get (slice_set xs n x) i) (λ _. e) ≡ needs (slice_get xs i) (λ _. e)
set_needs e [] n i x = refl
set_needs e (y ∷ xs) zero zero x = refl
set_needs e (y ∷ xs) zero (suc i) x = refl
set_needs e (y ∷ xs) (suc n) zero x = refl
set_needs e (y ∷ xs) (suc n) (suc i) x = set_needs e xs n i x

global_there : (state : State) (place : Place) (v : Value) (g : ℕ) (e : Effect)
    → needs (slice_get (with_content place v state).globals g) (λ old. e)
    ≡ needs (slice_get state.globals g) (λ old. e)
unfolding in_cell set_global
global_there state (Prop c i) v g e = refl
global_there state (Global h) v g e = set_needs e state.globals h g (Some v)
global_there state (BoxOf c) v g e = refl

global_same : (state : State) (place : Place) (v : Value) (frame : Frame) (next g : ℕ)
    (s : Operand) → global_write (with_content place v state) frame next g s
    ≡ global_write state frame next g s
global_same state place v frame next g s = by (operand_value frame.regs s) where
  by : (o : Option Value)
      → needs o (λ w. needs (slice_get (with_content place v state).globals g)
      (λ old. effect.WriteGlobal g w next))
      ≡ needs o (λ w. needs (slice_get state.globals g) (λ old. effect.WriteGlobal g w next))
  by None = refl
  by (Some w) = global_there state place v g (effect.WriteGlobal g w next)

-- a call of a closure finds the same function and captures
closure_same : (graph : Graph) (state : State) (place : Place) (v : Value) (frame : Frame)
    (depth next at r : ℕ) (c : Operand) (o : Option (List Value))
    → needs o (λ values. needs (option_and_then (closure_frame graph frame r values)
    (cell_at (with_content place v state) frame c)) (enter_of depth next at))
    ≡ needs o (λ values. needs (option_and_then (closure_frame graph frame r values)
    (cell_at state frame c)) (enter_of depth next at))
closure_same graph state place v frame depth next at r c None = refl
closure_same graph state place v frame depth next at r c (Some values) =
    ap (λ f. needs f (enter_of depth next at))
    (operand_form (closure_frame graph frame r values) (closure_form graph frame r values) state
    place v (reference_at frame.regs c))

-- an instruction has the same effect
instr_same : (graph : Graph) (state : State) (j depth : ℕ) (frame : Frame) (i : Instr)
    (place : Place) (v : Value) → IsUnread graph state j depth frame (Middle i) place
    → instr_effect graph (with_content place v state) depth frame (frame.point + 1) i
    ≡ instr_effect graph state depth frame (frame.point + 1) i
instr_same graph state j depth frame (instr.NewObject at r k ss) place v x =
    ap (λ n. needs (values_at frame.regs ss)
    (λ parts. effect.New r (cell.Object k parts) n (frame.point + 1))) (count_same place v state)
instr_same graph state j depth frame (instr.NewBox at r s) place v x =
    ap (λ n. needs (operand_value frame.regs s)
    (λ w. effect.New r (cell.BoxOf w) n (frame.point + 1))) (count_same place v state)
instr_same graph state j depth frame (instr.NewActor at r k ss) place v x =
    ap (λ n. needs (values_at frame.regs ss)
    (λ parts. effect.New r (cell.Actor k parts) n (frame.point + 1))) (count_same place v state)
instr_same graph state j depth frame (instr.NewClosure at r f cs) place v x =
    ap (λ n. needs (values_at frame.regs cs)
    (λ captures. effect.New r (cell.Closure f captures) n (frame.point + 1)))
    (count_same place v state)
instr_same graph state j depth frame (instr.LoadBox at r b) place v x =
    ap (set_of (frame.point + 1) r)
    (load_apart state place v Content (reference_at frame.regs b) (λ c names same.
    unread graph state j depth at frame (Middle (instr.LoadBox at r b)) place x
    (load_reads state place Content (frame.point + 1) r c (reference_at frame.regs b) names same
    x.has)
    (ap (λ o. option_map (read_by j at) (option_and_then (box_at state) o)) names
    ∙ ap (option_map (read_by j at)) (ap (location_at graph state) same ∙ x.is))))
instr_same graph state j depth frame (instr.LoadProp at r o i) place v x =
    ap (set_of (frame.point + 1) r)
    (load_apart state place v (Part i) (reference_at frame.regs o) (λ c names same.
    unread graph state j depth at frame (Middle (instr.LoadProp at r o i)) place x
    (load_reads state place (Part i) (frame.point + 1) r c (reference_at frame.regs o) names same
    x.has)
    (ap (λ c. option_map (read_by j at) (option_and_then (part_at graph state i) c)) names
    ∙ ap (option_map (read_by j at)) (ap (location_at graph state) same ∙ x.is))))
instr_same graph state j depth frame (instr.LoadGlobal at r g) place v x =
    ap (set_of (frame.point + 1) r) (content_kept state place (Global g) v (λ same.
    unread graph state j depth at frame (Middle (instr.LoadGlobal at r g)) place x
    (set_free (frame.point + 1) r (value_at state.globals g)
    (subst IsSome (ap (content_of state) (sym same)) x.has))
    (ap (option_map (read_by j at)) (ap (location_at graph state) same ∙ x.is))))
instr_same graph state j depth frame (instr.StoreBox at b s) place v x =
    store_same state place v frame (frame.point + 1) b Content s
instr_same graph state j depth frame (instr.StoreProp at o i s) place v x =
    store_same state place v frame (frame.point + 1) o (Part i) s
instr_same graph state j depth frame (instr.StoreGlobal at g s) place v x =
    global_same state place v frame (frame.point + 1) g s
instr_same graph state j depth frame (instr.CallClosure at r c ss) place v x =
    closure_same graph state place v frame depth (frame.point + 1) at r c (values_at frame.regs ss)
instr_same graph state j depth frame (instr.NewTask at r f cs) place v x =
    ap (λ l. needs (values_at frame.regs cs) (λ captures. needs (first_frame graph f captures)
    (λ first. cond (nat_le MAX_JOBS (length l)) (effect.Halt Jobs at) (effect.Spawn r first
    (length l) (length (with_content place v state).cells) (frame.point + 1)))))
    (jobs_same place v state)
    ∙ ap (λ n. needs (values_at frame.regs cs) (λ captures. needs (first_frame graph f captures)
    (λ first. cond (nat_le MAX_JOBS (length state.jobs)) (effect.Halt Jobs at) (effect.Spawn r first
    (length state.jobs) n (frame.point + 1)))))
    (count_same place v state)
instr_same graph state j depth frame (instr.Await at r t) place v x =
    ap (λ o. needs o (λ job. effect.Wait job r (frame.point + 1)))
    (operand_form task_of task_form state place v (reference_at frame.regs t))
instr_same graph state j depth frame i place v x = refl

point_same : (graph : Graph) (state : State) (j depth : ℕ) (frame : Frame) (point : Point)
    (place : Place) (v : Value) → IsUnread graph state j depth frame point place
    → point_effect graph (with_content place v state) depth frame point
    ≡ point_effect graph state depth frame point
point_same graph state j depth frame (Middle i) place v x =
    instr_same graph state j depth frame i place v x
point_same graph state j depth frame (End l) place v x = refl

-- a running job does the same
top_same : (graph : Graph) (state : State) (j depth : ℕ) (place : Place) (v : Value)
    → IsLocation graph state place → IsSome (content_of state place) → (o : Option Frame)
    → (IsReadOf place (option_and_then (frame_access graph state j depth) o) → ⊥)
    → option_and_then
    (λ frame. execution_of (effect_of graph (with_content place v state) depth frame)) o
    ≡ option_and_then (λ frame. execution_of (effect_of graph state depth frame)) o
unfolding frame_access effect_of
top_same graph state j depth place v is has None apart = refl
top_same graph state j depth place v is has (Some frame) apart =
    by (point_at graph frame) apart where
      by : (o : Option Point)
          → (IsReadOf place (cond (is_stuck (needs o (point_effect graph state depth frame))) None
          (option_and_then (point_access graph state j frame) o)) → ⊥)
          → execution_of (needs o (point_effect graph (with_content place v state) depth frame))
          ≡ execution_of (needs o (point_effect graph state depth frame))
      by None apart = refl
      by (Some point) apart = ap execution_of (point_same graph state j depth frame point place v
          (record { is = is; has = has; apart = apart }))

status_same : (graph : Graph) (state : State) (j : ℕ) (place : Place) (v : Value)
    → IsLocation graph state place → IsSome (content_of state place) → (job : Job)
    (status : Status) → (IsReadOf place (cond (is_running_status status)
    (option_and_then (frame_access graph state j (length job.frames)) (top_frame job)) None) → ⊥)
    → act_by graph (with_content place v state) job status ≡ act_by graph state job status
unfolding result_of
status_same graph state j place v is has job Ready apart =
    ap (λ l. option_and_then (λ frame. cond (is_free frame.executor l) (Some Dispatch) None)
    (top_frame job)) (jobs_same place v state)
status_same graph state j place v is has job (Waiting on r) apart =
    ap (λ l. option_map (Wake on r)
    (option_and_then (λ job. ended_with job.status) (slice_get l on))) (jobs_same place v state)
status_same graph state j place v is has job Running apart =
    top_same graph state j (length job.frames) place v is has (top_frame job) apart
status_same graph state j place v is has job (Ended w) apart = refl

pub act_same : (graph : Graph) (state : State) (j : ℕ) (place : Place) (v : Value)
    → IsLocation graph state place → IsSome (content_of state place)
    → (Reads graph state j place → ⊥)
    → act_of graph (with_content place v state) j ≡ act_of graph state j
unfolding act_of next_access is_running
act_same graph state j place v is has apart =
    ap (λ h. cond (is_some h) None (option_and_then
    (λ job. act_by graph (with_content place v state) job job.status)
    (slice_get (with_content place v state).jobs j))) (halted_same place v state)
    ∙ ap (λ l. cond (is_some state.halted) None (option_and_then
    (λ job. act_by graph (with_content place v state) job job.status) (slice_get l j)))
    (jobs_same place v state)
    ∙ by (is_some state.halted) apart where
      by_job : (o : Option Job)
          → (IsReadOf place (option_and_then (job_access graph state j) o) → ⊥)
          → option_and_then (λ job. act_by graph (with_content place v state) job job.status) o
          ≡ option_and_then (λ job. act_by graph state job job.status) o
      by_job None apart = refl
      by_job (Some job) apart = status_same graph state j place v is has job job.status apart

      by : (halted : Bool) → (IsReadOf place (cond halted None
          (option_and_then (job_access graph state j) (slice_get state.jobs j))) → ⊥)
          → cond halted None (option_and_then
          (λ job. act_by graph (with_content place v state) job job.status)
          (slice_get state.jobs j))
          ≡ cond halted None (option_and_then (λ job. act_by graph state job job.status)
          (slice_get state.jobs j))
      by true apart = refl
      by false apart = by_job (slice_get state.jobs j) apart
