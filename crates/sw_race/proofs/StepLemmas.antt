-- From a state that is not racing, and in which no job is stuck, the step of a job brings in races
-- of that job alone.
use Rattle.std.proofs.Common.{◌≡◌, ◌↔◌, ℕ, zero, suc, ◌+◌, ◌<◌, ◌⊎◌, inl, inr, length, eqb, Bool}
use Rattle.std.proofs.Common.{true, false}
use Rattle.std.proofs.Common.{cond, Option, Some, None, List, [], ◌∷◌, ◌++◌, refl, ap, sym, subst}
use Rattle.std.proofs.Common.{◌∙◌, arith}
use Rattle.std.specs.Prelude.{option_and_then, is_some}
use Rattle.std.specs.List.{slice_get}
use Rattle.std.specs.Option.{option_map}
use Rattle.std.proofs.lemmas.Bool.{cases_eq, cases_order}
use Rattle.std.proofs.lemmas.Bool.Decides.{nat_tests}
use Rattle.std.proofs.lemmas.Option.{slice_get_within}
use Rattle.sw_graph.specs.declared.graph.Graph.{Graph}
use Rattle.sw_graph.specs.declared.instr.Instr.{Instr}
use Rattle.sw_graph.specs.declared.instr.Instr.TheVariants as instr
use Rattle.sw_graph.specs.declared.instr.Operand.{Operand}
use Rattle.sw_graph.specs.Points.{Point, Middle, End}
use Rattle.sw_value.specs.declared.cell.HeapCell.{HeapCell}
use Rattle.sw_value.specs.declared.cell.HeapCell.TheVariants as cell
use Rattle.sw_value.specs.declared.cell.Slot.{Slot}
use Rattle.sw_value.specs.declared.cell.Slot.TheVariants.{Part, Content}
use Rattle.sw_value.specs.declared.effect.Act.{Act}
use Rattle.sw_value.specs.declared.effect.Act.TheVariants.{Dispatch, Wake, Execute}
use Rattle.sw_value.specs.declared.effect.Effect.{Effect}
use Rattle.sw_value.specs.declared.effect.Effect.TheVariants as effect
use Rattle.sw_value.specs.declared.frame.Frame.{Frame}
use Rattle.sw_value.specs.declared.job.Job.{Job}
use Rattle.sw_value.specs.declared.race.Access.{Access}
use Rattle.sw_value.specs.declared.race.Place.{Place}
use Rattle.sw_value.specs.declared.race.Race.{Race}
use Rattle.sw_value.specs.declared.state.State.{State}
use Rattle.sw_value.specs.declared.value.Value.{Value}
use Rattle.sw_value.specs.Access.{box_in, box_at, part_in, part_at, read_by, write_by}
use Rattle.sw_value.specs.Access.{access_of, point_access, frame_access, job_access, next_access}
use Rattle.sw_value.specs.Act.{act_by, act_of}
use Rattle.sw_value.specs.Cell.{slot_of, with_slot}
use Rattle.sw_value.specs.Effect.{needs, is_stuck, set_of, loaded, slot_at, slot_write, instr_effect}
use Rattle.sw_value.specs.Effect.{point_effect, effect_of}
use Rattle.sw_value.specs.Frame.{point_at}
use Rattle.sw_value.specs.Job.{top_frame, new_job, is_running}
use Rattle.sw_value.specs.Lists.{changed_at}
use Rattle.sw_value.specs.Racing.{Racing}
use Rattle.sw_value.specs.Reach.{after_effect, step_of}
use Rattle.sw_value.specs.State.{in_job, add_job, add_cell, in_cell, set_global, halt}
use Rattle.sw_value.specs.Value.{operand_value, reference_at}
use Rattle.sw_value.proofs.AccessLemmas.{next_names_its_job}
use Rattle.sw_value.proofs.ReachLemmas.{after_acts, step_by_act}
use Rattle.sw_machine_access_facts.proofs.CellLemmas.{IsOfForm, changed_other, form_kept, box_form, part_form}
use Rattle.sw_race.specs.Step.{IsNowhereStuck, BringsInItsOwn, HasRival}
use Rattle.sw_race.specs.Target.{job_target, target_at}
use Rattle.sw_race.specs.With.{IsRaceOf}
use Rattle.sw_race.proofs.UpdateLemmas.{Changes, nothing, in_place, with_new, new_has_none}
use Rattle.sw_race.proofs.UpdateLemmas.{step_changes}
use Rattle.sw_race.proofs.WithLemmas.{conflicts, differ, swapped, sides}

-- what is said of a job that is new is said of no job
pushed_same : {A B : Type 0} (f : A → Option B) (x : A) → f x ≡ None → (xs : List A) (k : ℕ)
    → option_and_then f (slice_get (xs ++ x ∷ []) k) ≡ option_and_then f (slice_get xs k)
pushed_same f x none [] zero = none
pushed_same f x none [] (suc k) = refl
pushed_same f x none (y ∷ xs) zero = refl
pushed_same f x none (y ∷ xs) (suc k) = pushed_same f x none xs k

-- what is said of a job by itself, and of none that is new, stays where another job steps
other_same : {B : Type 0} (f : Job → Option B) → ((frame : Frame) → f (new_job (frame ∷ [])) ≡ None)
    → (j k : ℕ) (before after : List Job) → Changes j before after → (k ≡ j → ⊥)
    → option_and_then f (slice_get after k) ≡ option_and_then f (slice_get before k)
other_same f none j k before _ nothing apart = refl
other_same f none j k before _ (in_place g) apart =
    ap (option_and_then f) (changed_other g j k before apart)
other_same f none j k before _ (with_new g frame) apart =
    ap (option_and_then f) (changed_other g j k (before ++ new_job (frame ∷ []) ∷ []) apart)
    ∙ pushed_same f (new_job (frame ∷ [])) (none frame) before k

pub other_targets : (graph : Graph) (state : State) (j k : ℕ) → (k ≡ j → ⊥)
    → target_at graph (step_of graph state j) k ≡ target_at graph state k
other_targets graph state j k =
    other_same (job_target graph) (new_has_none graph) j k state.jobs (step_of graph state j).jobs
    (step_changes graph state j)

-- How a step changes the list of cells: there may be one more, or one gets another value in a slot.
data Cells (before : List HeapCell) : List HeapCell → Type 0 where
  as_before : Cells before before
  added : (c : HeapCell) → Cells before (before ++ c ∷ [])
  written : (slot : Slot) (v : Value) (c : ℕ) → Cells before
      (changed_at (with_slot slot v) c before)

effect_cells : (j : ℕ) (e : Effect) (state : State)
    → Cells state.cells (after_effect j e state).cells
unfolding in_job add_job add_cell in_cell set_global halt
effect_cells j (effect.Set r v next) state = as_before
effect_cells j (effect.SetField r i v next) state = as_before
effect_cells j (effect.Print r line next) state = as_before
effect_cells j (effect.New r c number next) state = added c
effect_cells j (effect.Write c slot v next) state = written slot v c
effect_cells j (effect.WriteGlobal g v next) state = as_before
effect_cells j (effect.Goto next) state = as_before
effect_cells j (effect.Enter frame next) state = as_before
effect_cells j (effect.Wait on r next) state = as_before
effect_cells j (effect.Rest r next) state = as_before
effect_cells j (effect.Spawn r frame job c next) state = added (cell.TaskOf job)
effect_cells j (effect.Leave v) state = as_before
effect_cells j (effect.Halt kind at) state = as_before
effect_cells j effect.Stuck state = as_before

act_cells : (j : ℕ) (act : Option Act) (state : State)
    → Cells state.cells (after_acts j act state).cells
unfolding in_job
act_cells j None state = as_before
act_cells j (Some Dispatch) state = as_before
act_cells j (Some (Wake ended r v)) state = as_before
act_cells j (Some (Execute e)) state = effect_cells j e state

step_cells : (graph : Graph) (state : State) (j : ℕ)
    → Cells state.cells (step_of graph state j).cells
step_cells graph state j =
    subst (λ s. Cells state.cells s.cells) (sym (step_by_act graph state j))
    (act_cells j (act_of graph state j) state)

-- an item before the last
before_last : {A : Type 0} (xs : List A) (x : A) (c : ℕ) → c < length xs
    → slice_get (xs ++ x ∷ []) c ≡ slice_get xs c
before_last [] x c less = absurd (omega (arith, less))
before_last (y ∷ xs) x zero less = refl
before_last (y ∷ xs) x (suc c) less = before_last xs x c (omega (arith, less))

-- what is said of a cell, whatever it has in its slots, stays
cell_same : {B : Type 0} (f : HeapCell → Option B) → IsOfForm f → (c : ℕ)
    → (before after : List HeapCell) → Cells before after → c < length before
    → option_and_then f (slice_get after c) ≡ option_and_then f (slice_get before c)
cell_same f form c before _ as_before less = refl
cell_same f form c before _ (added h) less =
    ap (option_and_then f) (before_last before h c less)
cell_same f form c before _ (written slot v d) less = form_kept f form slot v d before c

-- the cell of a load or a store that is not stuck is there
abbrev IsFree : Effect → Type 0
IsFree e = is_stuck e ≡ false

load_there : (state : State) (frame : Frame) (o : Operand) (slot : Slot) (n r c : ℕ)
    → reference_at frame.regs o ≡ Some c → IsFree (set_of n r (loaded state frame o slot))
    → c < length state.cells
load_there state frame o slot n r c names = by (slice_get state.cells c) refl where
  by : (h : Option HeapCell) → slice_get state.cells c ≡ h
      → is_stuck (set_of n r (loaded state frame o slot)) ≡ false → c < length state.cells
  by None e free =
      let all : is_stuck (set_of n r (loaded state frame o slot)) ≡ true =
      ap (λ x. is_stuck (set_of n r (option_and_then (slot_of slot)
      (option_and_then (λ c. slice_get state.cells c) x)))) names
      ∙ ap (λ x. is_stuck (set_of n r (option_and_then (slot_of slot) x))) e in
      cc (sym free ∙ all)
  by (Some h) e free = slice_get_within state.cells c h e

store_there : (state : State) (frame : Frame) (n : ℕ) (o : Operand) (slot : Slot) (s : Operand)
    (c : ℕ) → reference_at frame.regs o ≡ Some c → IsFree (slot_write state frame n o slot s)
    → c < length state.cells
store_there state frame n o slot s c names =
    by (slice_get state.cells c) (operand_value frame.regs s) refl where
      by : (h : Option HeapCell) (v : Option Value) → slice_get state.cells c ≡ h
          → is_stuck (needs v (λ v. needs (slot_at state frame o slot)
          (λ c. effect.Write c slot v n))) ≡ false → c < length state.cells
      by (Some h) v e free = slice_get_within state.cells c h e
      by None None e free = cc
      by None (Some v) e free =
          let all : is_stuck (needs (slot_at state frame o slot) (λ c. effect.Write c slot v n))
          ≡ true =
          ap (λ x. is_stuck (needs (option_and_then
          (λ c. option_map (λ old. c) (option_and_then (slot_of slot) (slice_get state.cells c))) x)
          (λ c. effect.Write c slot v n))) names
          ∙ ap (λ x. is_stuck (needs (option_map (λ old. c) (option_and_then (slot_of slot) x))
          (λ c. effect.Write c slot v n))) e in
          cc (sym free ∙ all)

-- where the cell that is named is found as it was, so is the place
place_same : (find found : ℕ → Option Place) (o : Option ℕ)
    → ((c : ℕ) → o ≡ Some c → find c ≡ found c)
    → option_and_then find o ≡ option_and_then found o
place_same find found None is = refl
place_same find found (Some c) is = is c refl

box_same : (graph : Graph) (state : State) (j c : ℕ) → c < length state.cells
    → box_at (step_of graph state j) c ≡ box_at state c
box_same graph state j c =
    cell_same (box_in c) (box_form c) c state.cells (step_of graph state j).cells
    (step_cells graph state j)

part_same : (graph : Graph) (state : State) (j i c : ℕ) → c < length state.cells
    → part_at graph (step_of graph state j) i c ≡ part_at graph state i c
part_same graph state j i c =
    cell_same (part_in graph c i) (part_form graph c i) c state.cells
    (step_of graph state j).cells (step_cells graph state j)

-- the access of an instruction that is not stuck stays where another job steps
instr_same : (graph : Graph) (state : State) (j k depth : ℕ) (frame : Frame) (n : ℕ) (i : Instr)
    → IsFree (instr_effect graph state depth frame n i)
    → access_of graph (step_of graph state j) k frame i ≡ access_of graph state k frame i
instr_same graph state j k depth frame n (instr.LoadBox at r b) free =
    ap (option_map (read_by k at)) (place_same (box_at (step_of graph state j)) (box_at state)
    (reference_at frame.regs b)
    (λ c e. box_same graph state j c (load_there state frame b Content n r c e free)))
instr_same graph state j k depth frame n (instr.StoreBox at b s) free =
    ap (option_map (write_by k at)) (place_same (box_at (step_of graph state j)) (box_at state)
    (reference_at frame.regs b)
    (λ c e. box_same graph state j c (store_there state frame n b Content s c e free)))
instr_same graph state j k depth frame n (instr.LoadProp at r o i) free =
    ap (option_map (read_by k at))
    (place_same (part_at graph (step_of graph state j) i) (part_at graph state i)
    (reference_at frame.regs o)
    (λ c e. part_same graph state j i c (load_there state frame o (Part i) n r c e free)))
instr_same graph state j k depth frame n (instr.StoreProp at o i s) free =
    ap (option_map (write_by k at))
    (place_same (part_at graph (step_of graph state j) i) (part_at graph state i)
    (reference_at frame.regs o)
    (λ c e. part_same graph state j i c (store_there state frame n o (Part i) s c e free)))
instr_same graph state j k depth frame n (instr.LoadGlobal at r g) free = refl
instr_same graph state j k depth frame n (instr.StoreGlobal at g s) free = refl
instr_same graph state j k depth frame n _ free = refl

-- where a test that hides something lets something through, this is there
let_through : {A : Type 0} (b : Bool) (o : Option A) (a : A) → cond b None o ≡ Some a → o ≡ Some a
let_through true o a e = cc
let_through false o a e = e

frame_same : (graph : Graph) (state : State) (j k depth : ℕ) (frame : Frame) (a : Access)
    → IsFree (effect_of graph state depth frame)
    → frame_access graph (step_of graph state j) k depth frame ≡ Some a
    → frame_access graph state k depth frame ≡ Some a
unfolding frame_access effect_of
frame_same graph state j k depth frame a free e =
    by (point_at graph frame) free
    (let_through
    (is_stuck (needs (point_at graph frame)
    (point_effect graph (step_of graph state j) depth frame)))
    (option_and_then (point_access graph (step_of graph state j) k frame)
    (point_at graph frame)) a e)
  where
    by : (o : Option Point)
        → is_stuck (needs o (point_effect graph state depth frame)) ≡ false
        → option_and_then (point_access graph (step_of graph state j) k frame) o ≡ Some a
        → cond (is_stuck (needs o (point_effect graph state depth frame))) None
        (option_and_then (point_access graph state k frame) o) ≡ Some a
    by None free e = cc
    by (Some (Middle i)) free e =
        ap (λ b. cond b None (access_of graph state k frame i)) free
        ∙ sym (instr_same graph state j k depth frame (frame.point + 1) i free) ∙ e
    by (Some (End l)) free e = cc

-- a machine that is halted stays as it is
halted_stays : (graph : Graph) (state : State) (j : ℕ) → is_some state.halted ≡ true
    → step_of graph state j ≡ state
unfolding act_of
halted_stays graph state j e =
    step_by_act graph state j
    ∙ ap (λ b. after_acts j (cond b None (option_and_then
    (λ job. act_by graph state job job.status) (slice_get state.jobs j))) state) e

new_accesses_nothing : (graph : Graph) (state : State) (k : ℕ) (frame : Frame)
    → job_access graph state k (new_job (frame ∷ [])) ≡ None
unfolding new_job is_running
new_accesses_nothing graph state k frame = refl

-- an access that another job is about to make after the step it was about to make before
other_access : (graph : Graph) (state : State) (j k : ℕ) (a : Access) → IsNowhereStuck graph state
    → (k ≡ j → ⊥) → next_access graph (step_of graph state j) k ≡ Some a
    → next_access graph state k ≡ Some a
unfolding next_access
other_access graph state j k a free apart next = by (is_some state.halted) refl where
  here : option_and_then (job_access graph (step_of graph state j) k) (slice_get state.jobs k)
      ≡ Some a
  here =
      sym (other_same (job_access graph (step_of graph state j) k)
      (new_accesses_nothing graph (step_of graph state j) k) j k state.jobs
      (step_of graph state j).jobs (step_changes graph state j) apart)
      ∙ let_through (is_some (step_of graph state j).halted)
      (option_and_then (job_access graph (step_of graph state j) k)
      (slice_get (step_of graph state j).jobs k)) a next

  by_top : (job : Job) → slice_get state.jobs k ≡ Some job → is_running job ≡ true
      → (o : Option Frame) → top_frame job ≡ o
      → option_and_then (frame_access graph (step_of graph state j) k (length job.frames)) o
      ≡ Some a
      → option_and_then (frame_access graph state k (length job.frames)) o ≡ Some a
  by_top job there runs None top e = cc
  by_top job there runs (Some frame) top e =
      frame_same graph state j k (length job.frames) frame a (free k job frame there runs top) e

  by_running : (job : Job) → slice_get state.jobs k ≡ Some job → (b : Bool) → is_running job ≡ b
      → cond b (option_and_then (frame_access graph (step_of graph state j) k (length job.frames))
      (top_frame job)) None
      ≡ Some a
      → cond b (option_and_then (frame_access graph state k (length job.frames))
      (top_frame job)) None
      ≡ Some a
  by_running job there true runs e = by_top job there runs (top_frame job) refl e
  by_running job there false runs e = cc

  by_job : (o : Option Job) → slice_get state.jobs k ≡ o
      → option_and_then (job_access graph (step_of graph state j) k) o ≡ Some a
      → option_and_then (job_access graph state k) o ≡ Some a
  by_job None there e = cc
  by_job (Some job) there e = by_running job there (is_running job) refl e

  by : (b : Bool) → is_some state.halted ≡ b
      → cond b None (option_and_then (job_access graph state k) (slice_get state.jobs k)) ≡ Some a
  by true halted =
      let same = halted_stays graph state j halted in
      let none = ap (λ b. cond b None (option_and_then (job_access graph state k)
      (slice_get state.jobs k))) halted in
      cc (sym none ∙ subst (λ s. next_access graph s k ≡ Some a) same next)
  by false halted = by_job (slice_get state.jobs k) refl here

pub brings_in_its_own : (graph : Graph) (state : State) (j : ℕ) → IsNowhereStuck graph state
    → BringsInItsOwn graph state j
brings_in_its_own graph state j free calm race is =
    elim (cases_eq race.first.job j) [
      | inl e ↦ record { is_race = is; takes_part = inl e }
      | inr first ↦ elim (cases_eq race.second.job j) [
        | inl e ↦ record { is_race = is; takes_part = inr e }
        | inr second ↦
            absurd (calm (
              race,
              record {
                order = is.order;
                first_next = other_access graph state j race.first.job race.first free first
                    is.first_next;
                second_next = other_access graph state j race.second.job race.second free second
                    is.second_next;
                conflict = is.conflict;
              },
            ))
      ]
    ]

-- a job in a race has a rival, and one with a rival is in a race
race_has_rival : (graph : Graph) (state : State) (j : ℕ) (race : Race)
    → IsRaceOf graph state j race → HasRival graph state j
race_has_rival graph state j race r = by r.takes_part where
  by : (race.first.job ≡ j) ⊎ (race.second.job ≡ j) → HasRival graph state j
  by (inl e) =
      let next = subst (λ k. next_access graph state k ≡ Some race.first) e r.is_race.first_next in
      let s = sides graph state j race.first next race r in
      record { access = race.first; rival = s.rival; next = next; is_rival = s.is_rival }
  by (inr e) =
      let next = subst (λ k. next_access graph state k
      ≡ Some race.second) e r.is_race.second_next in
      let s = sides graph state j race.second next race r in
      record { access = race.second; rival = s.rival; next = next; is_rival = s.is_rival }

rival_races : (graph : Graph) (state : State) (j : ℕ) → HasRival graph state j
    → Racing graph state
rival_races graph state j has = elim (cases_order has.access.job has.rival.job) [
  | inl e ↦ absurd (apart e)
  | inr (inl less) ↦ (
    record { first = has.access; second = has.rival },
    record {
      order = less;
      first_next = here;
      second_next = has.is_rival.next;
      conflict = conflicts has.access has.rival has.is_rival.rivals;
    },
  )
  | inr (inr more) ↦ (
    record { first = has.rival; second = has.access },
    record {
      order = more;
      first_next = has.is_rival.next;
      second_next = here;
      conflict = swapped has.access has.rival
          (conflicts has.access has.rival has.is_rival.rivals);
    },
  )
] where
  here : next_access graph state has.access.job ≡ Some has.access
  here = ap (next_access graph state) (next_names_its_job graph state j has.access has.next)
      ∙ has.next

  apart : has.access.job ≡ has.rival.job → ⊥
  apart e = let no = differ has.access has.rival has.is_rival.rivals in
      let test : eqb has.access.job has.rival.job ≡ true = grind (arith, nat_tests, e) in
      cc (sym no ∙ test)

pub racing_by_rival : (graph : Graph) (state : State) (j : ℕ) → IsNowhereStuck graph state
    → (Racing graph state → ⊥)
    → Racing graph (step_of graph state j) ↔ HasRival graph (step_of graph state j) j
racing_by_rival graph state j free calm = (
  λ some. race_has_rival graph (step_of graph state j) j some.0
      (brings_in_its_own graph state j free calm some.0 some.1),
  rival_races graph (step_of graph state j) j,
)
