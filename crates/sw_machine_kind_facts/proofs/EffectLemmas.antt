-- Each effect and each act keeps that the state fits.
use Rattle.std.proofs.Common.{◌≡◌, ℕ, ◌-◌, inl, inr, Option, Some, None}
use Rattle.std.proofs.Common.{List, [], ◌∷◌, ◌++◌, length, refl, ap, sym, ◌∙◌, subst, arith}
use Rattle.std.specs.Prelude.{option_and_then}
use Rattle.std.specs.List.{slice_get}
use Rattle.std.proofs.lemmas.Option.{slice_get_within}
use Rattle.sw_list.proofs.ListLemmas.{some_injective, slice_get_before}
use Rattle.sw_types.specs.declared.ty.Ty.{Ty}
use Rattle.sw_graph.specs.declared.function.Function.{Function}
use Rattle.sw_graph.specs.declared.function.RegKind.TheVariants.{Plain}
use Rattle.sw_graph.specs.declared.graph.Graph.{Graph}
use Rattle.sw_graph.specs.Kinds.{Goes, value}
use Rattle.sw_value.specs.declared.cell.HeapCell.TheVariants.{TaskOf}
use Rattle.sw_value.specs.declared.effect.Effect.{Effect}
use Rattle.sw_value.specs.declared.effect.Effect.TheVariants as effect
use Rattle.sw_value.specs.declared.frame.Frame.{Frame}
use Rattle.sw_value.specs.declared.job.Job.{Job}
use Rattle.sw_value.specs.declared.job.Status.{Status}
use Rattle.sw_value.specs.declared.job.Status.TheVariants.{Ready, Running, Waiting, Ended}
use Rattle.sw_value.specs.declared.state.State.{State}
use Rattle.sw_value.specs.declared.value.Value.{Value}
use Rattle.sw_value.specs.declared.value.Value.TheVariants as value
use Rattle.sw_value.specs.Cell.{with_slot}
use Rattle.sw_value.specs.Frame.{finish_instr, go_on, set_field, set_register}
use Rattle.sw_value.specs.Job.{dispatch, wake, wait, rest, new_job, ended_with}
use Rattle.sw_value.specs.Lists.{changed_at}
use Rattle.sw_value.specs.Reach.{after_effect}
use Rattle.sw_value.specs.State.{in_job, add_job, add_cell, in_cell, set_global, halt, result_of}
use Rattle.sw_value.proofs.ListLemmas.{slice_get_end}
use Rattle.sw_machine_kind_facts.specs.Kinded.{StateFits}
use Rattle.sw_machine_kind_facts.specs.Kinds.{Grows}
use Rattle.sw_machine_kind_facts.specs.Kinds.{HasKind, Referents}
use Rattle.sw_machine_kind_facts.specs.Standing.{StackFits, bottom, awaited_in}
use Rattle.sw_machine_kind_facts.specs.Standing.{StatusFits, JobFits, over, goes, ResultGoes}
use Rattle.sw_machine_kind_facts.proofs.FrameLemmas.{stands_gets}
use Rattle.sw_machine_kind_facts.proofs.GrowthLemmas.{grows_itself, no_more, one_more, stack_grows}
use Rattle.sw_machine_kind_facts.specs.Kinds.{IsMore}
use Rattle.sw_machine_kind_facts.proofs.ItemLemmas.{at_end, changed_end}
use Rattle.sw_machine_kind_facts.proofs.KindLemmas.{goes_to, goes_captured}
use Rattle.sw_machine_kind_facts.proofs.StateLemmas.{Runs, job_kept, stack_top, stack_frame, one_function}
use Rattle.sw_machine_kind_facts.proofs.StateLemmas.{top_kept}
use Rattle.sw_machine_kind_facts.proofs.StateLemmas.{middle_kept, cell_added, job_added, cell_kept, global_kept}
use Rattle.sw_machine_kind_facts.proofs.StateLemmas.{enter_kept, leave_kept}
use Rattle.sw_machine_kind_facts.proofs.TopLemmas.{Executes, TopFits, NewFits, SpawnFits}

-- the state fits, by a world that has grown
pub record FitsLater (graph : Graph) (before : Referents) (state : State) : Type 0 where
  pub world : Referents
  pub grows : Grows before world
  pub fits : StateFits graph world state

-- a job runs in a state with more cells and jobs
runs_later : (graph : Graph) (world more : Referents) (state after : State) (j : ℕ) (job : Job)
    (below : List Frame) (top : Frame) → Runs graph world state j job below top
    → StateFits graph more after → slice_get after.jobs j ≡ Some job
    → IsMore world.cells more.cells
    → ((result : Ty) → slice_get more.results j ≡ Some result
    → slice_get world.results j ≡ Some result) → Runs graph more after j job below top
runs_later graph world more state after j job below top runs fits at grows old = record {
  fits = fits;
  at = at;
  running = runs.running;
  are = runs.are;
  stack = λ result there. stack_grows graph world.cells more.cells grows below top None result
      (runs.stack result (old result there));
}

new_kept : (graph : Graph) (world : Referents) (state : State) (j : ℕ) (job : Job)
    (below : List Frame) (top : Frame) → Runs graph world state j job below top
    → (x : Executes graph world state top) → (r : ℕ) (cell : _) (number next : ℕ)
    → NewFits graph world state x.function top r cell number next
    → FitsLater graph world (after_effect j (effect.New r cell number next) state)
unfolding add_cell finish_instr
new_kept graph world state j job below top runs x r cell number next new =
    let more : Referents =
    record { cells = world.cells ++ new.kind ∷ []; results = world.results } in
    record {
      world = more;
      grows = record {
        cells = one_more world.cells new.kind;
        results = no_more world.results;
      };
      fits = middle_kept graph more (add_cell cell state) j job below top
          (finish_instr r (value.Cell number) next)
          (runs_later graph world more state (add_cell cell state) j job below top runs
          (cell_added graph world state cell new.kind runs.fits new.fits) runs.at
          (one_more world.cells new.kind) (λ result there. there))
          (record { function = x.function; is = x.is; stands = new.stands }) refl refl;
    }

spawn_kept : (graph : Graph) (world : Referents) (state : State) (j : ℕ) (job : Job)
    (below : List Frame) (top : Frame) → Runs graph world state j job below top
    → (x : Executes graph world state top) → (r : ℕ) (first : Frame) (made cell next : ℕ)
    → SpawnFits graph world state x.function top r first made cell next
    → FitsLater graph world (after_effect j (effect.Spawn r first made cell next) state)
unfolding add_cell add_job finish_instr new_job
spawn_kept graph world state j job below top runs x r first made cell next new =
    let result = new.fits.function.result in
    let middle : Referents =
    record { cells = world.cells; results = world.results ++ result ∷ [] } in
    let more : Referents =
    record { cells = world.cells ++ new.kind ∷ []; results = world.results ++ result ∷ [] } in
    let with_job = add_job (new_job (first ∷ [])) state in
    let job_count = runs.fits.job_count in
    let job_fits = job_added graph world state (new_job (first ∷ [])) result runs.fits
    (goes (new_job (first ∷ [])) result [] first refl
    (bottom [] first None result refl new.fits refl) tt) in
    let made_is : slice_get (world.results ++ result ∷ []) made ≡ Some result =
    ap (slice_get (world.results ++ result ∷ [])) (new.job_is ∙ job_count)
    ∙ slice_get_end world.results result in
    let cell_fits = cell_added graph middle with_job (TaskOf made) new.kind job_fits
    (record { result = result; is = made_is; form = new.form; made = new.made }) in
    record {
      world = more;
      grows = record {
        cells = one_more world.cells new.kind;
        results = one_more world.results result;
      };
      fits = middle_kept graph more (add_cell (TaskOf made) with_job) j job below top
          (finish_instr r (value.Cell cell) next)
          (runs_later graph world more state (add_cell (TaskOf made) with_job) j job below top runs
          cell_fits (slice_get_before state.jobs (new_job (first ∷ []) ∷ []) j job runs.at)
          (one_more world.cells new.kind)
          (λ ty there. elim (at_end world.results result ty j there) [
            | inl before ↦ before
            | inr (place, is) ↦ let inside = slice_get_within state.jobs j job runs.at in
                absurd (omega (arith, inside, place, job_count))
          ]))
          (record { function = x.function; is = x.is; stands = new.stands }) refl refl;
    }

-- an effect that fits
pub effect_kept : (graph : Graph) (world : Referents) (state : State) (j : ℕ) (job : Job)
    (below : List Frame) (top : Frame) → Runs graph world state j job below top
    → (x : Executes graph world state top) → (e : Effect)
    → TopFits graph world state x.function top e → FitsLater graph world (after_effect j e state)
unfolding TopFits finish_instr go_on set_field in_cell set_global wait rest halt
effect_kept graph world state j job below top runs x (effect.Set r v next) fits = record {
  world = world;
  grows = grows_itself world;
  fits = middle_kept graph world state j job below top (finish_instr r v next) runs
      (record { function = x.function; is = x.is; stands = fits }) refl refl;
}
effect_kept graph world state j job below top runs x (effect.SetField r i v next) fits = record {
  world = world;
  grows = grows_itself world;
  fits = middle_kept graph world state j job below top (set_field r i v next) runs
      (record { function = x.function; is = x.is; stands = fits }) refl refl;
}
effect_kept graph world state j job below top runs x (effect.Print r line next) fits = record {
  world = world;
  grows = grows_itself world;
  fits = middle_kept graph world state j job below top (finish_instr r value.Unit next) runs
      (record { function = x.function; is = x.is; stands = fits }) refl refl;
}
effect_kept graph world state j job below top runs x (effect.New r cell number next) fits =
    new_kept graph world state j job below top runs x r cell number next fits
effect_kept graph world state j job below top runs x (effect.Write c slot v next) fits = record {
  world = world;
  grows = grows_itself world;
  fits = middle_kept graph world (in_cell (with_slot slot v) c state) j job below top (go_on next)
      (runs_later graph world world state (in_cell (with_slot slot v) c state) j job below top runs
      (cell_kept graph world state c fits.cell (with_slot slot v) runs.fits fits.is fits.keeps)
      runs.at (no_more world.cells) (λ result there. there))
      (record { function = x.function; is = x.is; stands = fits.stands }) refl refl;
}
effect_kept graph world state j job below top runs x (effect.WriteGlobal g v next) fits = record {
  world = world;
  grows = grows_itself world;
  fits = middle_kept graph world (set_global g v state) j job below top (go_on next)
      (runs_later graph world world state (set_global g v state) j job below top runs
      (global_kept graph world state g v fits.kind runs.fits fits.is fits.fits)
      runs.at (no_more world.cells) (λ result there. there))
      (record { function = x.function; is = x.is; stands = fits.stands }) refl refl;
}
effect_kept graph world state j job below top runs x (effect.Goto next) fits = record {
  world = world;
  grows = grows_itself world;
  fits = middle_kept graph world state j job below top (go_on next) runs
      (record { function = x.function; is = x.is; stands = fits }) refl refl;
}
effect_kept graph world state j job below top runs x (effect.Enter frame next) fits = record {
  world = world;
  grows = grows_itself world;
  fits = enter_kept graph world state j job below top frame next runs
      (record { function = x.function; is = x.is; stands = fits.stands }) fits.fits
      (λ function there. subst (λ f. ResultGoes f frame.result fits.fits.function.result)
      (one_function graph top.function top.function x.function function refl x.is there)
      fits.links);
}
effect_kept graph world state j job below top runs x (effect.Wait on r next) fits = record {
  world = world;
  grows = grows_itself world;
  fits = top_kept graph world state j job (wait on r next job) below top (go_on next top) (Some r)
      (wait on r next) runs refl
      (ap (λ fs. changed_at (go_on next) (length fs - 1) fs) runs.are
      ∙ changed_end (go_on next) below top) refl
      (record {
        result = fits.result;
        is = fits.is;
        goes = λ function there. subst (λ (f : Function). Goes (value fits.result)
            (slice_get f.regs r))
            (one_function graph top.function top.function x.function function refl x.is there)
            fits.goes;
      }) (record { function = x.function; is = x.is; stands = fits.stands }) refl refl;
}
effect_kept graph world state j job below top runs x (effect.Rest r next) fits = record {
  world = world;
  grows = grows_itself world;
  fits = top_kept graph world state j job (rest r next job) below top
      (finish_instr r value.Unit next top) None (rest r next) runs refl
      (ap (λ fs. changed_at (finish_instr r value.Unit next) (length fs - 1) fs) runs.are
      ∙ changed_end (finish_instr r value.Unit next) below top) refl tt
      (record { function = x.function; is = x.is; stands = fits }) refl refl;
}
effect_kept graph world state j job below top runs x (effect.Spawn r first made cell next) fits =
    spawn_kept graph world state j job below top runs x r first made cell next fits
effect_kept graph world state j job below top runs x (effect.Leave v) fits = record {
  world = world;
  grows = grows_itself world;
  fits = leave_kept graph world state j job below top v x.supplied runs x.function x.is fits;
}
effect_kept graph world state j job below top runs x (effect.Halt kind at) fits = record {
  world = world;
  grows = grows_itself world;
  fits = record {
    cell_count = runs.fits.cell_count;
    job_count = runs.fits.job_count;
    cells = runs.fits.cells;
    globals = runs.fits.globals;
    jobs = runs.fits.jobs;
  };
}
effect_kept graph world state j job below top runs x effect.Stuck fits = absurd fits

-- the frames of a job that has not ended
pub record IsGoing (graph : Graph) (world : Referents) (job : Job) (result : Ty) : Type 0 where
  pub below : List Frame
  pub top : Frame
  pub are : job.frames ≡ below ++ top ∷ []
  pub stack : StackFits graph world.cells below top (awaited_in job.status) result
  pub status : StatusFits graph world top job.status

pub going : (graph : Graph) (world : Referents) (job : Job) (result : Ty) → JobFits graph world job
    result
    → ((v : Value) → job.status ≡ Ended v → ⊥) → IsGoing graph world job result
going graph world job result (over j r v none ended has) unended = absurd (unended v ended)
going graph world job result (goes j r below top are stack status) unended =
    record { below = below; top = top; are = are; stack = stack; status = status }

-- a job that has ended has its result
pub ended_has : (graph : Graph) (world : Referents) (job : Job) (result : Ty) (v : Value)
    → JobFits graph world job result → ended_with job.status ≡ Some v
    → HasKind graph.shapes world.cells v (Plain result)
ended_has graph world job result v (over j r w none ended has) is =
    subst (λ x. HasKind graph.shapes world.cells x (Plain r))
    (some_injective (sym (ap ended_with ended) ∙ is)) has
ended_has graph world job result v (goes j r below top are stack status) is =
    by j.status is status where
      by : (s : Status) → ended_with s ≡ Some v → StatusFits graph world top s
          → HasKind graph.shapes world.cells v (Plain r)
      by Ready is fits = cc
      by Running is fits = cc
      by (Waiting on q) is fits = cc
      by (Ended w) is fits = absurd fits

-- a job that is ready is dispatched
pub dispatch_kept : (graph : Graph) (world : Referents) (state : State) (j : ℕ) (job : Job)
    → StateFits graph world state → slice_get state.jobs j ≡ Some job → job.status ≡ Ready
    → StateFits graph world (in_job dispatch j state)
unfolding dispatch
dispatch_kept graph world state j job fits at ready =
    job_kept graph world state j job dispatch fits at
    (λ result there. by result (going graph world job result (fits.jobs j job result at there)
    (λ v ended. let wrong = sym ready ∙ ended in cc))) where
      by : (result : Ty) → IsGoing graph world job result
          → JobFits graph world (dispatch job) result
      by result is = goes (dispatch job) result is.below is.top is.are
          (subst (λ a. StackFits graph world.cells is.below is.top a result) (ap awaited_in ready)
          is.stack) tt

-- a job that waits gets the result for which it waits
pub wake_kept : (graph : Graph) (world : Referents) (state : State) (j : ℕ) (job : Job) (on r : ℕ)
    (v : Value) → StateFits graph world state → slice_get state.jobs j ≡ Some job
    → job.status ≡ Waiting on r → result_of state on ≡ Some v
    → StateFits graph world (in_job (wake r v) j state)
unfolding wake result_of set_register
wake_kept graph world state j job on r v fits at waits found =
    job_kept graph world state j job (wake r v) fits at
    (λ result there. by result (going graph world job result (fits.jobs j job result at there)
    (λ w ended. let wrong = sym waits ∙ ended in cc))) where
      of_job : (o : Option Job) → slice_get state.jobs on ≡ o
          → option_and_then (λ (other : Job). ended_with other.status) o ≡ Some v → (ty : Ty)
          → slice_get world.results on ≡ Some ty → HasKind graph.shapes world.cells v (Plain ty)
      of_job None is ended ty there = cc
      of_job (Some other) is ended ty there =
          ended_has graph world other ty v (fits.jobs on other ty is there) ended

      by : (result : Ty) → IsGoing graph world job result
          → JobFits graph world (wake r v job) result
      by result is =
          let await = subst (StatusFits graph world is.top) waits is.status in
          let stack = subst (λ a. StackFits graph world.cells is.below is.top a result)
          (ap awaited_in waits) is.stack in
          let frame = stack_frame graph world.cells is.below is.top (Some r) result stack in
          let has = of_job (slice_get state.jobs on) refl found await.result await.is in
          let went = goes_to graph.shapes world.cells v (Plain await.result) (value await.result)
          (slice_get frame.function.regs r) has refl
          (goes_captured (value await.result) (slice_get frame.function.regs r)
          (await.goes frame.function frame.is)) in
          goes (wake r v job) result is.below (set_register r v is.top)
          (ap (λ fs. changed_at (set_register r v) (length fs - 1) fs) is.are
          ∙ changed_end (set_register r v) is.below is.top)
          (stack_top graph world.cells is.below is.top (set_register r v is.top) (Some r) None
          result
          stack
          (record {
            function = frame.function;
            is = frame.is;
            stands = stands_gets graph.shapes world.cells frame.function is.top.point is.top.regs r
                v
                went.kind frame.stands went.is went.has;
          }) refl refl) tt
