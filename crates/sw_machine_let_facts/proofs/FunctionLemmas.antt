-- What holds of the functions of all frames and closures holds after a step, where it holds of the
-- functions that instructions name.
use Rattle.std.proofs.Common.{◌≡◌, ℕ, zero, suc, ◌-◌, inl, inr, Bool, true, false, cond, Option}
use Rattle.std.proofs.Common.{Some, None, List, [], ◌∷◌, ◌++◌, length, take, refl, ap, sym, ◌∙◌}
use Rattle.std.proofs.Common.{subst, arith}
use Rattle.std.specs.Prelude.{◌==◌}
use Rattle.std.specs.List.{slice_get, Contains}
use Rattle.std.proofs.lemmas.Bool.{cases_eq}
use Rattle.sw_list.proofs.ListLemmas.{some_injective}
use Rattle.sw_graph.specs.declared.graph.Graph.{Graph}
use Rattle.sw_graph.specs.Placed.{EachInstr, named_by}
use Rattle.sw_value.specs.declared.cell.HeapCell.{HeapCell}
use Rattle.sw_value.specs.declared.cell.HeapCell.TheVariants as cell
use Rattle.sw_value.specs.declared.cell.Slot.{Slot}
use Rattle.sw_value.specs.declared.effect.Act.{Act}
use Rattle.sw_value.specs.declared.effect.Effect.{Effect}
use Rattle.sw_value.specs.declared.effect.Effect.TheVariants as effect
use Rattle.sw_value.specs.declared.frame.Frame.{Frame}
use Rattle.sw_value.specs.declared.frame.TheConstants.{NO_REGISTER}
use Rattle.sw_value.specs.declared.job.Job.{Job}
use Rattle.sw_value.specs.declared.job.Status.{Status}
use Rattle.sw_value.specs.declared.state.State.{State}
use Rattle.sw_value.specs.declared.value.Value.{Value}
use Rattle.sw_value.specs.declared.value.Value.TheVariants as value
use Rattle.sw_value.specs.Act.{act_of}
use Rattle.sw_value.specs.Cell.{with_slot}
use Rattle.sw_value.specs.Frame.{set_register, finish_instr, go_on, set_field, take_result}
use Rattle.sw_value.specs.Job.{top_frame, new_job, in_top, dispatch, wake, enter, wait, rest}
use Rattle.sw_value.specs.Job.{return_to, return_from, leave}
use Rattle.sw_value.specs.Lists.{changed_at}
use Rattle.sw_value.specs.Reach.{after_effect, step_of}
use Rattle.sw_value.specs.State.{in_job, add_job, add_cell, in_cell, set_global, halt}
use Rattle.sw_value.proofs.ListLemmas.{changed_at_found, changed_at_none}
use Rattle.sw_value.proofs.ReachLemmas.{after_acts, step_by_act}
use Rattle.sw_machine_access_facts.proofs.CellLemmas.{changed_other}
use Rattle.sw_machine_let_facts.proofs.ActLemmas.{Executes, asked, Does, idle, dispatches, wakes, executes}
use Rattle.sw_machine_let_facts.proofs.ActLemmas.{does, executed}
use Rattle.sw_machine_let_facts.proofs.BeginLemmas.{function_of, begun, point_begins}

-- what holds of each item of a list, after changes of it
abbrev pub EachItem : {A : Type 0} → (A → Type 0) → List A → Type 0
EachItem {A} Q xs = (k : ℕ) (x : A) → slice_get xs k ≡ Some x → Q x

changed_each : {A : Type 0} (Q : A → Type 0) (g : A → A) (i : ℕ) (xs : List A)
    → ((x : A) → Q x → Q (g x)) → EachItem Q xs → EachItem Q (changed_at g i xs)
changed_each {A} Q g i xs keeps each k x at = elim (cases_eq k i) [
  | inl same ↦
      by (slice_get xs i) refl (ap (slice_get (changed_at g i xs)) (sym same) ∙ at)
  | inr apart ↦ each k x (sym (changed_other g i k xs apart) ∙ at)
] where
  by : (o : Option A) → slice_get xs i ≡ o → slice_get (changed_at g i xs) i ≡ Some x → Q x
  by None is at = each i x (sym (ap (λ l. slice_get l i) (changed_at_none g i xs is)) ∙ at)
  by (Some y) is at =
      subst Q (some_injective (sym (changed_at_found g i xs y is) ∙ at)) (keeps y (each i y is))

added_each : {A : Type 0} (Q : A → Type 0) (x : A) (xs : List A) → EachItem Q xs → Q x
    → EachItem Q (xs ++ x ∷ [])
added_each Q x [] each has zero y at = subst Q (some_injective at) has
added_each Q x [] each has (suc k) y at = cc
added_each Q x (z ∷ xs) each has zero y at = each zero y at
added_each Q x (z ∷ xs) each has (suc k) y at =
    added_each Q x xs (λ n w here. each (suc n) w here) has k y at

taken_each : {A : Type 0} (Q : A → Type 0) (n : ℕ) (xs : List A) → EachItem Q xs
    → EachItem Q (take n xs)
taken_each Q zero xs each k x at = cc
taken_each Q (suc n) [] each k x at = cc
taken_each Q (suc n) (y ∷ xs) each zero x at = each zero x at
taken_each Q (suc n) (y ∷ xs) each (suc k) x at =
    taken_each Q n xs (λ m w here. each (suc m) w here) k x at

-- of the function of each frame, in a job and in all jobs
abbrev pub FrameOf : (ℕ → Type 0) → Frame → Type 0
FrameOf P frame = P frame.function

abbrev pub JobOf : (ℕ → Type 0) → Job → Type 0
JobOf P job = EachItem (FrameOf P) job.frames

abbrev pub JobsOf : (ℕ → Type 0) → State → Type 0
JobsOf P state = EachItem (JobOf P) state.jobs

-- of the function of each closure
abbrev pub CellOf : (ℕ → Type 0) → HeapCell → Type 0
CellOf P h = (f : ℕ) → function_of h ≡ Some f → P f

abbrev pub CellsOf : (ℕ → Type 0) → State → Type 0
CellsOf P state = EachItem (CellOf P) state.cells

-- changes of a job whose frames stay of their functions
top_of : (P : ℕ → Type 0) (g : Frame → Frame) (job : Job)
    → ((frame : Frame) → FrameOf P frame → FrameOf P (g frame)) → JobOf P job
    → EachItem (FrameOf P) (changed_at g (length job.frames - 1) job.frames)
top_of P g job keeps of = changed_each (FrameOf P) g (length job.frames - 1) job.frames keeps of

result_taken : (P : ℕ → Type 0) (r : ℕ) (v : Value) (frame : Frame) → FrameOf P frame
    → FrameOf P (take_result r v frame)
unfolding take_result set_register
result_taken P r v frame of = by (r == NO_REGISTER) where
  by : (none : Bool) → FrameOf P (cond none frame (set_register r v frame))
  by true = of
  by false = of

returned_of : (P : ℕ → Type 0) (below : List Frame) (frame : Frame) (v : Value) (status : Status)
    → EachItem (FrameOf P) below → JobOf P (return_to below frame v status)
returned_of P [] frame v status of = of
returned_of P (f ∷ fs) frame v status of =
    changed_each (FrameOf P) (take_result frame.result v) (length fs) (f ∷ fs)
    (result_taken P frame.result v) of

left_of : (P : ℕ → Type 0) (v : Value) (job : Job) → JobOf P job → JobOf P (leave v job)
unfolding leave
left_of P v job of = by (top_frame job) where
  by : (o : Option Frame) → JobOf P (return_from o v job)
  by None = of
  by (Some frame) =
      returned_of P (take (length job.frames - 1) job.frames) frame v job.status
      (taken_each (FrameOf P) (length job.frames - 1) job.frames of)

-- an effect changes a job, and may add one
changed_jobs : (P : ℕ → Type 0) (state : State) (j : ℕ) (g : Job → Job) → JobsOf P state
    → ((job : Job) → JobOf P job → JobOf P (g job)) → JobsOf P (in_job g j state)
unfolding in_job
changed_jobs P state j g of keeps = changed_each (JobOf P) g j state.jobs keeps of

effect_jobs : (P : ℕ → Type 0) (state : State) (j : ℕ) (e : Effect)
    → ((f : ℕ) → begun e ≡ Some f → P f) → JobsOf P state → JobsOf P (after_effect j e state)
unfolding add_job add_cell in_cell set_global halt in_top finish_instr go_on set_field enter wait
    rest new_job
effect_jobs P state j (effect.Set r v next) begins of =
    changed_jobs P state j (in_top (finish_instr r v next)) of
    (λ job o. top_of P (finish_instr r v next) job (λ f h. h) o)
effect_jobs P state j (effect.SetField r i v next) begins of =
    changed_jobs P state j (in_top (set_field r i v next)) of
    (λ job o. top_of P (set_field r i v next) job (λ f h. h) o)
effect_jobs P state j (effect.Print r line next) begins of =
    changed_jobs P state j (in_top (finish_instr r value.Unit next)) of
    (λ job o. top_of P (finish_instr r value.Unit next) job (λ f h. h) o)
effect_jobs P state j (effect.New r h number next) begins of =
    changed_jobs P (add_cell h state) j (in_top (finish_instr r (value.Cell number) next)) of
    (λ job o. top_of P (finish_instr r (value.Cell number) next) job (λ f h. h) o)
effect_jobs P state j (effect.Write c slot v next) begins of =
    changed_jobs P (in_cell (with_slot slot v) c state) j (in_top (go_on next)) of
    (λ job o. top_of P (go_on next) job (λ f h. h) o)
effect_jobs P state j (effect.WriteGlobal g v next) begins of =
    changed_jobs P (set_global g v state) j (in_top (go_on next)) of
    (λ job o. top_of P (go_on next) job (λ f h. h) o)
effect_jobs P state j (effect.Goto next) begins of =
    changed_jobs P state j (in_top (go_on next)) of
    (λ job o. top_of P (go_on next) job (λ f h. h) o)
effect_jobs P state j (effect.Enter frame next) begins of =
    changed_jobs P state j (enter frame next) of
    (λ job o. added_each (FrameOf P) frame
    (changed_at (go_on next) (length job.frames - 1) job.frames)
    (top_of P (go_on next) job (λ f h. h) o) (begins frame.function refl))
effect_jobs P state j (effect.Wait on r next) begins of =
    changed_jobs P state j (wait on r next) of
    (λ job o. top_of P (go_on next) job (λ f h. h) o)
effect_jobs P state j (effect.Rest r next) begins of =
    changed_jobs P state j (rest r next) of
    (λ job o. top_of P (finish_instr r value.Unit next) job (λ f h. h) o)
effect_jobs P state j (effect.Spawn r frame made number next) begins of =
    changed_jobs P (add_cell (cell.TaskOf made) (add_job (new_job (frame ∷ [])) state)) j
    (in_top (finish_instr r (value.Cell number) next))
    (added_each (JobOf P) (new_job (frame ∷ [])) state.jobs of
    (added_each (FrameOf P) frame [] (λ k x at. cc) (begins frame.function refl)))
    (λ job o. top_of P (finish_instr r (value.Cell number) next) job (λ f h. h) o)
effect_jobs P state j (effect.Leave v) begins of =
    changed_jobs P state j (leave v) of (λ job o. left_of P v job o)
effect_jobs P state j (effect.Halt kind at) begins of = of
effect_jobs P state j effect.Stuck begins of = of

-- and a cell, which stays of its function, or adds one
pub same_function : (slot : Slot) (v : Value) (h : HeapCell)
    → function_of (with_slot slot v h) ≡ function_of h
same_function slot v h = grind arith

effect_cells : (P : ℕ → Type 0) (state : State) (j : ℕ) (e : Effect)
    → ((f : ℕ) → begun e ≡ Some f → P f) → CellsOf P state → CellsOf P (after_effect j e state)
unfolding in_job add_job add_cell in_cell set_global halt
effect_cells P state j (effect.New r h number next) begins of =
    added_each (CellOf P) h state.cells of begins
effect_cells P state j (effect.Spawn r frame made number next) begins of =
    added_each (CellOf P) (cell.TaskOf made) state.cells of (λ f none. cc)
effect_cells P state j (effect.Write c slot v next) begins of =
    changed_each (CellOf P) (with_slot slot v) c state.cells
    (λ h of f is. of f (sym (same_function slot v h) ∙ is)) of
effect_cells P state j e begins of = of

-- the instructions of a graph name such functions alone
abbrev pub NamesOf : (ℕ → Type 0) → Graph → Type 0
NamesOf P graph = EachInstr graph (λ body i. (f : ℕ) → Contains (named_by i) f → P f)

begun_of : (P : ℕ → Type 0) (graph : Graph) → NamesOf P graph → (state : State)
    → CellsOf P state → (j : ℕ) (x : Executes graph state j) (f : ℕ)
    → begun (asked graph state j x) ≡ Some f → P f
begun_of P graph names state cells j x f e =
    let known = point_begins graph state (length x.job.frames) x.frame f x.point e in
    elim known.2 [
      | inl named ↦
          names x.frame.function x.function x.is x.frame.point known.0 (x.here ∙ ap Some known.1) f
          named
      | inr made ↦ cells made.number made.cell made.is f made.of
    ]

pub step_jobs : (P : ℕ → Type 0) (graph : Graph) → NamesOf P graph → (state : State)
    → CellsOf P state → JobsOf P state → (j : ℕ) → JobsOf P (step_of graph state j)
unfolding dispatch wake set_register
step_jobs P graph names state cells jobs j =
    subst (JobsOf P) (sym (step_by_act graph state j))
    (by (act_of graph state j) (does graph state j)) where
      by : (act : Option Act) → Does graph state j act → JobsOf P (after_acts j act state)
      by _ idle = jobs
      by _ dispatches = changed_jobs P state j dispatch jobs (λ job of. of)
      by _ (wakes ended r v) =
          changed_jobs P state j (wake r v) jobs
          (λ job of. top_of P (set_register r v) job (λ f h. h) of)
      by _ (executes x) =
          subst (JobsOf P) (sym (executed j (asked graph state j x) state))
          (effect_jobs P state j (asked graph state j x)
          (begun_of P graph names state cells j x) jobs)

pub step_cells : (P : ℕ → Type 0) (graph : Graph) → NamesOf P graph → (state : State)
    → CellsOf P state → (j : ℕ) → CellsOf P (step_of graph state j)
unfolding in_job
step_cells P graph names state cells j =
    subst (CellsOf P) (sym (step_by_act graph state j))
    (by (act_of graph state j) (does graph state j)) where
      by : (act : Option Act) → Does graph state j act → CellsOf P (after_acts j act state)
      by _ idle = cells
      by _ dispatches = cells
      by _ (wakes ended r v) = cells
      by _ (executes x) =
          subst (CellsOf P) (sym (executed j (asked graph state j x) state))
          (effect_cells P state j (asked graph state j x)
          (begun_of P graph names state cells j x) cells)
