-- Each change of a state keeps that it fits.
use Rattle.std.proofs.Common.{◌≡◌, ℕ, ◌-◌, ◌≤◌, inl, inr, Bool, true, false}
use Rattle.std.proofs.Common.{cond, eqb, Option, Some, None, List, [], ◌∷◌, ◌++◌, length, refl, ap}
use Rattle.std.proofs.Common.{sym}
use Rattle.std.proofs.Common.{◌∙◌, subst, arith, length-append}
use Rattle.std.specs.List.{slice_get, slice_set}
use Rattle.std.proofs.lemmas.Bool.Decides.{nat_tests}
use Rattle.std.proofs.lemmas.Map.Views.{exact_unsigned_eq}
use Rattle.sw_list.proofs.ListLemmas.{some_injective, at_index}
use Rattle.sw_types.specs.declared.ty.Ty.{Ty}
use Rattle.sw_graph.specs.declared.function.Function.{Function}
use Rattle.sw_graph.specs.declared.function.RegKind.{RegKind}
use Rattle.sw_graph.specs.declared.function.RegKind.TheVariants.{Plain}
use Rattle.sw_graph.specs.declared.graph.Graph.{Graph}
use Rattle.sw_graph.specs.Kinds.{value}
use Rattle.sw_graph.specs.Limits.{IsWithinLimits}
use Rattle.sw_value.specs.declared.cell.HeapCell.{HeapCell}
use Rattle.sw_value.specs.declared.frame.Frame.{Frame}
use Rattle.sw_value.specs.declared.frame.TheConstants.{NO_REGISTER}
use Rattle.sw_value.specs.declared.job.Job.{Job}
use Rattle.sw_value.specs.declared.job.Status.{Status}
use Rattle.sw_value.specs.declared.job.Status.TheVariants.{Ready, Running}
use Rattle.sw_value.specs.declared.state.State.{State}
use Rattle.sw_value.specs.declared.value.Value.{Value}
use Rattle.sw_value.specs.Frame.{go_on, set_register, take_result}
use Rattle.sw_value.specs.Job.{in_top, enter, leave, return_to}
use Rattle.sw_value.specs.Lists.{changed_at}
use Rattle.sw_value.specs.State.{in_job, add_job, add_cell, in_cell, set_global}
use Rattle.sw_value.proofs.JobLemmas.{leave_some, return_to_none, return_to_there}
use Rattle.sw_value.proofs.ListLemmas.{length-changed_at}
use Rattle.sw_machine_kind_facts.specs.Kinded.{global_kinds, StateFits}
use Rattle.sw_machine_kind_facts.specs.Kinds.{HasKind, Referents, CellFits}
use Rattle.sw_machine_kind_facts.specs.Standing.{FrameFits, ResultGoes, StackFits, bottom, above, awaited_in}
use Rattle.sw_machine_kind_facts.specs.Standing.{StatusFits, JobFits, over, goes}
use Rattle.sw_graph.specs.Supplied.{IsSupplied}
use Rattle.sw_machine_kind_facts.proofs.FrameLemmas.{slots_set, stands_gets, stands_free}
use Rattle.sw_machine_kind_facts.proofs.GrowthLemmas.{no_more, one_more}
use Rattle.sw_machine_kind_facts.specs.Kinds.{Grows}
use Rattle.sw_machine_kind_facts.proofs.GrowthLemmas.{cell_grows, job_grows, slots_grow}
use Rattle.sw_machine_kind_facts.proofs.ItemLemmas.{pairs_end, pairs_changed, top_of, last_of}
use Rattle.sw_machine_kind_facts.proofs.ItemLemmas.{changed_end}
use Rattle.sw_machine_kind_facts.proofs.ItemLemmas.{set_end}
use Rattle.sw_machine_kind_facts.proofs.KindLemmas.{goes_to, goes_captured}

-- one job changes
pub job_kept : (graph : Graph) (world : Referents) (state : State) (j : ℕ) (job : Job)
    (g : Job → Job)
    → StateFits graph world state → slice_get state.jobs j ≡ Some job
    → ((result : Ty) → slice_get world.results j ≡ Some result → JobFits graph world (g job) result)
    → StateFits graph world (in_job g j state)
unfolding in_job
job_kept graph world state j job g fits at later = record {
  cell_count = fits.cell_count;
  job_count = length-changed_at g j state.jobs ∙ fits.job_count;
  cells = fits.cells;
  globals = fits.globals;
  jobs = pairs_changed (JobFits graph world) g j state.jobs world.results job at fits.jobs later;
}

-- the function with a number
pub one_function : (graph : Graph) (m n : ℕ) (f g : Function) → m ≡ n
    → slice_get graph.functions m ≡ Some f → slice_get graph.functions n ≡ Some g → f ≡ g
one_function graph m n f g same first second =
    some_injective (sym first ∙ ap (slice_get graph.functions) same ∙ second)

-- it has no register with the number of none
few_registers : (graph : Graph) (n : ℕ) (function : Function)
    → slice_get graph.functions n ≡ Some function → length function.regs ≤ NO_REGISTER
few_registers graph n function is =
    (at_index IsWithinLimits graph.functions n function graph.well_formed.limits is).registers

-- the top frame is replaced
pub stack_top : (graph : Graph) (cells : List RegKind) (below : List Frame) (top later : Frame)
    (awaits then_awaits : Option ℕ) (result : Ty) → StackFits graph cells below top awaits result
    → FrameFits graph cells then_awaits later → later.function ≡ top.function
    → later.result ≡ top.result → StackFits graph cells below later then_awaits result
stack_top graph cells below top later awaits then_awaits result (bottom b t a r none fits gives)
    new same results =
    bottom b later then_awaits r none new
    (ap (λ (f : Function). f.result) (one_function graph later.function t.function new.function
    fits.function same
    new.is fits.is) ∙ gives)
stack_top graph cells below top later awaits then_awaits result
    (above b t a r lowest lower is stack fits links) new same results =
    above b later then_awaits r lowest lower is
    (subst (λ q. StackFits graph cells lowest lower (Some q) r) (sym results) stack) new
    (λ function there. subst (λ q. ResultGoes function q new.function.result) (sym results)
    (subst (λ (f : Function). ResultGoes function t.result f.result)
    (sym (one_function graph later.function t.function new.function fits.function same new.is
    fits.is))
    (links function there)))

-- what a job's frames are
pub stack_frame : (graph : Graph) (cells : List RegKind) (below : List Frame) (top : Frame)
    (awaits : Option ℕ) (result : Ty) → StackFits graph cells below top awaits result
    → FrameFits graph cells awaits top
stack_frame graph cells below top awaits result (bottom b t a r none fits gives) = fits
stack_frame graph cells below top awaits result (above b t a r lowest lower is stack fits links) =
    fits

-- a running job
pub record Runs (graph : Graph) (world : Referents) (state : State) (j : ℕ) (job : Job)
    (below : List Frame) (top : Frame) : Type 0 where
  pub fits : StateFits graph world state
  pub at : slice_get state.jobs j ≡ Some job
  pub running : job.status ≡ Running
  pub are : job.frames ≡ below ++ top ∷ []
  pub stack : (result : Ty) → slice_get world.results j ≡ Some result
      → StackFits graph world.cells below top None result

-- its top frame changes, and the job may stop running
pub top_kept : (graph : Graph) (world : Referents) (state : State) (j : ℕ) (job later : Job)
    (below : List Frame) (top changed : Frame) (awaits : Option ℕ) → (g : Job → Job)
    → Runs graph world state j job below top → g job ≡ later
    → later.frames ≡ below ++ changed ∷ [] → awaited_in later.status ≡ awaits
    → StatusFits graph world changed later.status → FrameFits graph world.cells awaits changed
    → changed.function ≡ top.function → changed.result ≡ top.result
    → StateFits graph world (in_job g j state)
top_kept graph world state j job later below top changed awaits g runs is are waits status new
    function result =
    job_kept graph world state j job g runs.fits runs.at
    (λ ty there. subst (λ x. JobFits graph world x ty) (sym is)
    (goes later ty below changed are
    (subst (λ a. StackFits graph world.cells below changed a ty) (sym waits)
    (stack_top graph world.cells below top changed None awaits ty (runs.stack ty there) new function
    result)) status))

status_running : (graph : Graph) (world : Referents) (top : Frame) (status : Status)
    → status ≡ Running → StatusFits graph world top status
status_running graph world top status is =
    subst (StatusFits graph world top) (sym is) tt

-- an instruction of the top frame, after which the job goes on running
pub middle_kept : (graph : Graph) (world : Referents) (state : State) (j : ℕ) (job : Job)
    (below : List Frame) (top : Frame) (h : Frame → Frame) → Runs graph world state j job below top
    → FrameFits graph world.cells None (h top) → (h top).function ≡ top.function
    → (h top).result ≡ top.result → StateFits graph world (in_job (in_top h) j state)
unfolding in_top
middle_kept graph world state j job below top h runs new function result =
    top_kept graph world state j job (in_top h job) below top (h top) None (in_top h) runs refl
    (ap (λ fs. changed_at h (length fs - 1) fs) runs.are ∙ changed_end h below top)
    (ap awaited_in runs.running) (status_running graph world (h top) job.status runs.running) new
    function result

-- one more cell
pub cell_added : (graph : Graph) (world : Referents) (state : State) (c : HeapCell) (kind : RegKind)
    → StateFits graph world state → CellFits graph world c kind
    → StateFits graph (record { cells = world.cells ++ kind ∷ []; results = world.results })
    (add_cell c state)
unfolding add_cell
cell_added graph world state c kind fits new =
    let more : Referents = record { cells = world.cells ++ kind ∷ []; results = world.results } in
    let grows : Grows world more = record {
      cells = one_more world.cells kind;
      results = no_more world.results;
    } in
    let cell_count = fits.cell_count in
    record {
      cell_count = omega (
        arith,
        cell_count,
        length-append state.cells (c ∷ []),
        length-append world.cells (kind ∷ []),
      );
      job_count = fits.job_count;
      cells = pairs_end (CellFits graph more) state.cells world.cells c kind cell_count
          (λ k other known here there. cell_grows graph world more grows other known
          (fits.cells k other known here there)) (cell_grows graph world more grows c kind new);
      globals = slots_grow graph.shapes world.cells more.cells grows.cells state.globals
          (global_kinds graph.globals) fits.globals;
      jobs = λ j job result here there. job_grows graph world more grows job result
          (fits.jobs j job result here there);
    }

-- one more job
pub job_added : (graph : Graph) (world : Referents) (state : State) (job : Job) (result : Ty)
    → StateFits graph world state → JobFits graph world job result
    → StateFits graph (record { cells = world.cells; results = world.results ++ result ∷ [] })
    (add_job job state)
unfolding add_job
job_added graph world state job result fits new =
    let more : Referents = record { cells = world.cells; results = world.results ++ result ∷ [] } in
    let grows : Grows world more = record {
      cells = no_more world.cells;
      results = one_more world.results result;
    } in
    let job_count = fits.job_count in
    record {
      cell_count = fits.cell_count;
      job_count = omega (
        arith,
        job_count,
        length-append state.jobs (job ∷ []),
        length-append world.results (result ∷ []),
      );
      cells = λ k c kind here there. cell_grows graph world more grows c kind
          (fits.cells k c kind here there);
      globals = fits.globals;
      jobs = pairs_end (JobFits graph more) state.jobs world.results job result job_count
          (λ k other known here there. job_grows graph world more grows other known
          (fits.jobs k other known here there)) (job_grows graph world more grows job result new);
    }

-- a cell is written
pub cell_kept : (graph : Graph) (world : Referents) (state : State) (c : ℕ) (old : HeapCell)
    (g : HeapCell → HeapCell) → StateFits graph world state → slice_get state.cells c ≡ Some old
    → ((kind : RegKind) → slice_get world.cells c ≡ Some kind → CellFits graph world (g old) kind)
    → StateFits graph world (in_cell g c state)
unfolding in_cell
cell_kept graph world state c old g fits at keeps = record {
  cell_count = length-changed_at g c state.cells ∙ fits.cell_count;
  job_count = fits.job_count;
  cells = pairs_changed (CellFits graph world) g c state.cells world.cells old at fits.cells keeps;
  globals = fits.globals;
  jobs = fits.jobs;
}

-- a global is written
pub global_kept : (graph : Graph) (world : Referents) (state : State) (g : ℕ) (v : Value)
    (kind : RegKind) → StateFits graph world state
    → slice_get (global_kinds graph.globals) g ≡ Some kind → HasKind graph.shapes world.cells v kind
    → StateFits graph world (set_global g v state)
unfolding set_global
global_kept graph world state g v kind fits at has = record {
  cell_count = fits.cell_count;
  job_count = fits.job_count;
  cells = fits.cells;
  globals = slots_set graph.shapes world.cells state.globals (global_kinds graph.globals) g v kind
      fits.globals at has;
  jobs = fits.jobs;
}

-- a frame is put on top
pub enter_kept : (graph : Graph) (world : Referents) (state : State) (j : ℕ) (job : Job)
    (below : List Frame) (top frame : Frame) (next : ℕ) → Runs graph world state j job below top
    → FrameFits graph world.cells (Some frame.result) (go_on next top)
    → (new : FrameFits graph world.cells None frame)
    → ((function : Function) → slice_get graph.functions top.function ≡ Some function
    → ResultGoes function frame.result new.function.result)
    → StateFits graph world (in_job (enter frame next) j state)
unfolding enter go_on
enter_kept graph world state j job below top frame next runs waits new links =
    job_kept graph world state j job (enter frame next) runs.fits runs.at
    (λ ty there. goes (enter frame next job) ty (below ++ go_on next top ∷ []) frame
    (ap (λ fs. fs ++ frame ∷ []) (ap (λ fs. changed_at (go_on next) (length fs - 1) fs) runs.are
    ∙ changed_end (go_on next) below top))
    (subst (λ a. StackFits graph world.cells (below ++ go_on next top ∷ []) frame a ty)
    (sym (awaits_none frame.crossing))
    (above (below ++ go_on next top ∷ []) frame None ty below (go_on next top) refl
    (stack_top graph world.cells below top (go_on next top) None (Some frame.result) ty
    (runs.stack ty there) waits refl refl) new links)) (status frame.crossing)) where
      awaits_none : (b : Bool) → awaited_in (cond b Ready job.status) ≡ None
      awaits_none true = refl
      awaits_none false = ap awaited_in runs.running

      status : (b : Bool) → StatusFits graph world frame (cond b Ready job.status)
      status true = tt
      status false = status_running graph world frame job.status runs.running

same_number : (a b : ℕ) → a ≡ b → eqb a b ≡ true
same_number a b same = grind (arith, nat_tests, same)

-- the result of the frame above goes to its register
result_taken : (graph : Graph) (cells : List RegKind) (lower : Frame) (r : ℕ) (v : Value) (ty : Ty)
    → (fits : FrameFits graph cells (Some r) lower)
    → length fits.function.regs ≤ NO_REGISTER → ResultGoes fits.function r ty
    → HasKind graph.shapes cells v (Plain ty)
    → FrameFits graph cells None (take_result r v lower)
unfolding take_result set_register
result_taken graph cells lower r v ty fits few links has = by (eqb r NO_REGISTER) refl links where
  free : r ≡ NO_REGISTER → FrameFits graph cells None lower
  free same = record {
    function = fits.function;
    is = fits.is;
    stands = stands_free graph.shapes cells fits.function r lower.point lower.regs fits.stands
        (subst (λ n. length fits.function.regs ≤ n) (sym same) few);
  }

  by : (b : Bool) → eqb r NO_REGISTER ≡ b → ResultGoes fits.function r ty
      → FrameFits graph cells None (cond b lower (set_register r v lower))
  by true is links = free (exact_unsigned_eq r NO_REGISTER is)
  by false is (inl none) = let test : eqb r NO_REGISTER ≡ true = same_number r NO_REGISTER none in
      absurd (let wrong : ⊥ = cc in wrong)
  by false is (inr to) =
      let went = goes_to graph.shapes cells v (Plain ty) (value ty) (slice_get fits.function.regs r)
      has refl (goes_captured (value ty) (slice_get fits.function.regs r) to) in
      record {
        function = fits.function;
        is = fits.is;
        stands = stands_gets graph.shapes cells fits.function lower.point lower.regs r v went.kind
            fits.stands went.is went.has;
      }

pub taken_point : (r : ℕ) (v : Value) (f : Frame) → (take_result r v f).point ≡ f.point
unfolding take_result set_register
taken_point r v f = by (eqb r NO_REGISTER) where
  by : (b : Bool) → (cond b f (set_register r v f)).point ≡ f.point
  by true = refl
  by false = refl

pub taken_function : (r : ℕ) (v : Value) (f : Frame) → (take_result r v f).function ≡ f.function
unfolding take_result set_register
taken_function r v f = by (eqb r NO_REGISTER) where
  by : (b : Bool) → (cond b f (set_register r v f)).function ≡ f.function
  by true = refl
  by false = refl

taken_result : (r : ℕ) (v : Value) (f : Frame) → (take_result r v f).result ≡ f.result
unfolding take_result set_register
taken_result r v f = by (eqb r NO_REGISTER) where
  by : (b : Bool) → (cond b f (set_register r v f)).result ≡ f.result
  by true = refl
  by false = refl

-- the top frame returns
pub leave_kept : (graph : Graph) (world : Referents) (state : State) (j : ℕ) (job : Job)
    (below : List Frame) (top : Frame) (v : Value) → IsSupplied graph
    → Runs graph world state j job below top → (function : Function)
    → slice_get graph.functions top.function ≡ Some function
    → HasKind graph.shapes world.cells v (Plain function.result)
    → StateFits graph world (in_job (leave v) j state)
leave_kept graph world state j job below top v supplied runs function is has =
    job_kept graph world state j job (leave v) runs.fits runs.at
    (λ ty there. subst (λ x. JobFits graph world x ty) (sym (leave_some v job below top runs.are))
    (by ty (runs.stack ty there))) where
      by : (ty : Ty) → StackFits graph world.cells below top None ty
          → JobFits graph world (return_to below top v job.status) ty
      by ty (bottom b t a r none fits gives) =
          let same = one_function graph t.function t.function function fits.function refl is
          fits.is in
          subst (λ x. JobFits graph world x r)
          (sym (return_to_none b t v job.status (ap length none)))
          (over _ r v none refl (subst (λ q. HasKind graph.shapes world.cells v (Plain q))
          (ap (λ (f : Function). f.result) same ∙ gives) has))
      by ty (above b t a r lowest lower are stack fits links) =
          let place : slice_get b (length b - 1) ≡ Some lower =
          ap (λ l. slice_get l (length l - 1)) are ∙ top_of lowest lower in
          let lower_fits = stack_frame graph world.cells lowest lower (Some t.result) r stack in
          let same = one_function graph t.function t.function function fits.function refl is
          fits.is in
          let taken = result_taken graph world.cells lower t.result v function.result lower_fits
          (few_registers graph lower.function lower_fits.function lower_fits.is)
          (subst (λ (f : Function). ResultGoes lower_fits.function t.result f.result) (sym same)
          (links lower_fits.function lower_fits.is)) has in
          subst (λ x. JobFits graph world x r)
          (sym (return_to_there b t lower v job.status place))
          (goes _ r lowest (take_result t.result v lower)
          (ap (λ l. slice_set l (length l - 1) (take_result t.result v lower)) are
          ∙ ap (λ k. slice_set (lowest ++ lower ∷ []) k (take_result t.result v lower))
          (last_of lowest lower) ∙ set_end lowest lower (take_result t.result v lower))
          (subst (λ q. StackFits graph world.cells lowest (take_result t.result v lower) q r)
          (sym (awaits_none t.crossing))
          (stack_top graph world.cells lowest lower (take_result t.result v lower) (Some t.result)
          None
          r stack taken (taken_function t.result v lower) (taken_result t.result v lower)))
          (status (take_result t.result v lower) t.crossing)) where
            awaits_none : (b : Bool) → awaited_in (cond b Ready job.status) ≡ None
            awaits_none true = refl
            awaits_none false = ap awaited_in runs.running

            status : (f : Frame) (b : Bool) → StatusFits graph world f (cond b Ready job.status)
            status f true = tt
            status f false = status_running graph world f job.status runs.running
