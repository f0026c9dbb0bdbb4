-- Each state that items lead to is kinded, and no running job of such a state is stuck.
use Rattle.std.proofs.Common.{◌≡◌, ℕ, ◌-◌, ◌<◌, inl, inr, Bool, true, false, cond}
use Rattle.std.proofs.Common.{Option, Some, None, List, [], ◌∷◌, ◌++◌, length, refl, ap, sym}
use Rattle.std.proofs.Common.{◌∙◌, subst, arith}
use Rattle.std.specs.Prelude.{option_and_then, is_some}
use Rattle.std.specs.Option.{option_map}
use Rattle.std.specs.List.{slice_get}
use Rattle.std.proofs.lemmas.List.{length-map}
use Rattle.std.proofs.lemmas.Option.{slice_get_within}
use Rattle.sw_list.proofs.ListLemmas.{some_injective, at_index}
use Rattle.sw_types.specs.declared.ty.Ty.{Ty}
use Rattle.sw_graph.specs.declared.function.GlobalKind.{GlobalKind}
use Rattle.sw_graph.specs.declared.function.RegKind.TheVariants.{Plain}
use Rattle.sw_graph.specs.declared.graph.Graph.{Graph}
use Rattle.sw_graph.specs.declared.instr.Instr.TheVariants as instr
use Rattle.sw_graph.specs.Mentions.{globals_of}
use Rattle.sw_graph.specs.Points.{Point, point_in}
use Rattle.sw_value.specs.declared.effect.Act.TheVariants.{Dispatch, Wake}
use Rattle.sw_value.specs.declared.effect.Effect.{Effect}
use Rattle.sw_value.specs.declared.effect.Effect.TheVariants as effect
use Rattle.sw_value.specs.declared.frame.Frame.{Frame}
use Rattle.sw_value.specs.declared.job.Job.{Job}
use Rattle.sw_value.specs.declared.job.Status.{Status}
use Rattle.sw_value.specs.declared.job.Status.TheVariants.{Ready, Running, Waiting, Ended}
use Rattle.sw_value.specs.declared.state.State.{State}
use Rattle.sw_value.specs.declared.value.Value.{Value}
use Rattle.sw_value.specs.Act.{execution_of, dispatch_of, act_by, act_of}
use Rattle.sw_value.specs.Effect.{effect_of}
use Rattle.sw_value.specs.Frame.{set_register}
use Rattle.sw_value.specs.Job.{top_frame, dispatch, wake}
use Rattle.sw_value.specs.Lists.{changed_at}
use Rattle.sw_value.specs.Reach.{after_effect, reach, step_of}
use Rattle.sw_value.specs.State.{in_job, add_job, add_cell, in_cell, set_global, halt, result_of}
use Rattle.sw_value.specs.State.{is_free}
use Rattle.sw_value.proofs.ReachLemmas.{after_acts, step_by_act, reach_keeps}
use Rattle.sw_machine_kind_facts.specs.FirstValues.{HasValue}
use Rattle.sw_machine_kind_facts.proofs.GrowthLemmas.{grows_itself}
use Rattle.sw_machine_kind_facts.specs.Kinded.{KindedLater, Kinded}
use Rattle.sw_machine_kind_facts.specs.Standing.{StackFits, awaited_in}
use Rattle.sw_graph.specs.Supplied.{IsSupplied}
use Rattle.sw_machine_kind_facts.proofs.BeginningLemmas.{IsFirstOrSet, first_kept, begins_moves, only_job}
use Rattle.sw_machine_kind_facts.proofs.BeginningLemmas.{jobs_after, due_same, top_first}
use Rattle.sw_machine_kind_facts.proofs.EffectLemmas.{effect_kept, IsGoing, going, dispatch_kept, wake_kept}
use Rattle.sw_machine_kind_facts.proofs.FirstLemmas.{effect_first}
use Rattle.sw_machine_kind_facts.proofs.FrameLemmas.{still_set}
use Rattle.sw_machine_kind_facts.proofs.ItemLemmas.{changed_end, found_within, top_of}
use Rattle.sw_machine_kind_facts.proofs.LastLemmas.{ReadsSet, effect_fits}
use Rattle.sw_machine_kind_facts.proofs.OperandLemmas.{function_fits, instr_fits}
use Rattle.sw_machine_kind_facts.proofs.StartLemmas.{start_kinded}
use Rattle.sw_machine_kind_facts.proofs.StateLemmas.{Runs, stack_frame}
use Rattle.sw_machine_kind_facts.proofs.TopLemmas.{Executes}

-- a running job of a kinded state
pub record IsRunning (graph : Graph) (state : State) (k : Kinded graph state) (j : ℕ) (job : Job)
    : Type 0 where
  pub below : List Frame
  pub top : Frame
  pub runs : Runs graph k.world state j job below top
  pub run : Executes graph k.world state top
  pub top_is : top_frame job ≡ Some top
  pub reads : (point : Point) → point_in run.function top.point ≡ Some point
      → ReadsSet state point

pub running_job : (graph : Graph) → IsSupplied graph → (state : State) (k : Kinded graph state)
    (j : ℕ) (job : Job) → slice_get state.jobs j ≡ Some job → job.status ≡ Running
    → IsRunning graph state k j job
unfolding top_frame
running_job graph supplied state k j job at running =
    let job_count = k.fits.job_count in
    let inside = slice_get_within state.jobs j job at in
    let result = found_within k.world.results j (omega (arith, inside, job_count)) in
    let is = going graph k.world job result.0 (k.fits.jobs j job result.0 at result.1)
    (λ v ended. let wrong = sym running ∙ ended in cc) in
    let stack = subst (λ a. StackFits graph k.world.cells is.below is.top a result.0)
    (ap awaited_in running) is.stack in
    let frame = stack_frame graph k.world.cells is.below is.top None result.0 stack in
    let well = function_fits graph is.top.function frame.function frame.is in
    record {
      below = is.below;
      top = is.top;
      runs = record {
        fits = k.fits;
        at = at;
        running = running;
        are = is.are;
        stack = λ ty there. subst (λ t. StackFits graph k.world.cells is.below is.top None t)
            (let same : result.0 ≡ ty = some_injective (sym result.1 ∙ there) in same) stack;
      };
      run = record {
        supplied = supplied;
        fits = k.fits;
        function = frame.function;
        is = frame.is;
        well = well;
        stands = frame.stands;
      };
      top_is = ap (λ l. slice_get l (length l - 1)) is.are ∙ top_of is.below is.top;
      reads = λ point here at_byte r g is_load.
          let load = here ∙ ap Some is_load in
          let fits = instr_fits graph frame.function well is.top.point frame.stands.place
          (instr.LoadGlobal at_byte r g) load in
          let within = at_index (λ n. n < length graph.globals)
          (globals_of (instr.LoadGlobal at_byte r g)) 0 g fits.globals_in refl in
          elim (k.firsts g within) [
            | inl has ↦ has
            | inr b ↦ let only = only_job job b.job j (ap (λ l. slice_get l j) (sym b.alone) ∙ at)
                in
                absurd (supplied.globals.alone is.top.function is.top.point frame.function
                (instr.LoadGlobal at_byte r g) (top_first graph state g b is.below is.top
                (ap (λ (x : Job). x.frames) (sym only.1) ∙ is.are)) frame.is load)
          ];
    }

-- a global that has a value keeps one
value_kept : (state : State) (g j : ℕ) (e : Effect) → HasValue state g
    → HasValue (after_effect j e state) g
unfolding in_job add_job add_cell in_cell set_global halt
value_kept state g j (effect.Set r v next) has = has
value_kept state g j (effect.SetField r i v next) has = has
value_kept state g j (effect.Print r line next) has = has
value_kept state g j (effect.New r c number next) has = has
value_kept state g j (effect.Write c slot v next) has = has
value_kept state g j (effect.WriteGlobal n v next) has =
    still_set state.globals n v g has.0 has.1
value_kept state g j (effect.Goto next) has = has
value_kept state g j (effect.Enter frame next) has = has
value_kept state g j (effect.Wait other r next) has = has
value_kept state g j (effect.Rest r next) has = has
value_kept state g j (effect.Spawn r frame made c next) has = has
value_kept state g j (effect.Leave v) has = has
value_kept state g j (effect.Halt kind at) has = has
value_kept state g j effect.Stuck has = has

executed : (j : ℕ) (e : Effect) (state : State)
    → after_acts j (execution_of e) state ≡ after_effect j e state
executed j (effect.Set r v next) state = refl
executed j (effect.SetField r i v next) state = refl
executed j (effect.Print r line next) state = refl
executed j (effect.New r c number next) state = refl
executed j (effect.Write c slot v next) state = refl
executed j (effect.WriteGlobal n v next) state = refl
executed j (effect.Goto next) state = refl
executed j (effect.Enter frame next) state = refl
executed j (effect.Wait other r next) state = refl
executed j (effect.Rest r next) state = refl
executed j (effect.Spawn r frame made c next) state = refl
executed j (effect.Leave v) state = refl
executed j (effect.Halt kind at) state = refl
executed j effect.Stuck state = refl

-- an instruction
effect_kinded : (graph : Graph) (supplied : IsSupplied graph) (state : State)
    (k : Kinded graph state) (j : ℕ) (job : Job) → slice_get state.jobs j ≡ Some job
    → (x : IsRunning graph state k j job) → (depth : ℕ)
    → KindedLater graph k.world (after_effect j (effect_of graph state depth x.top) state)
effect_kinded graph supplied state k j job at x depth =
    let e = effect_of graph state depth x.top in
    let kept = effect_kept graph k.world state j job x.below x.top x.runs x.run e
    (effect_fits graph k.world state x.top depth x.run x.reads) in
    record {
      kinded = record {
        world = kept.world;
        fits = kept.fits;
        firsts = λ g inside. elim (k.firsts g inside) [
          | inl has ↦ inl (value_kept state g j e has)
          | inr b ↦
              let count = k.fits.globals.count in
              let kinds = length-map graph.globals (λ (global : GlobalKind). Plain global.ty) in
              let only = only_job job b.job j (ap (λ l. slice_get l j) (sym b.alone) ∙ at) in
              first_kept graph state g j b job x.below x.top x.run.function at x.runs.are x.run.is
              (omega (arith, inside, count, kinds)) e
              (effect_first graph state depth x.top x.run.function g (record {
                supplied = supplied;
                is = x.run.is;
                first = top_first graph state g b x.below x.top
                    (ap (λ (y : Job). y.frames) (sym only.1) ∙ x.runs.are);
                closures = b.closures;
              }))
        ];
      };
      grows = kept.grows;
    }

-- a change of a job that leaves its frames where they are
still_first : (graph : Graph) (state : State) (g j : ℕ) (job : Job) (below : List Frame)
    (top changed : Frame) (h : Job → Job) → slice_get state.jobs j ≡ Some job
    → job.frames ≡ below ++ top ∷ [] → (h job).frames ≡ below ++ changed ∷ []
    → changed.function ≡ top.function → changed.point ≡ top.point
    → IsFirstOrSet graph state g → IsFirstOrSet graph (in_job h j state) g
unfolding in_job
still_first graph state g j job below top changed h at are frames same point (inl has) = inl has
still_first graph state g j job below top changed h at are frames same point (inr b) =
    let only = only_job job b.job j (ap (λ l. slice_get l j) (sym b.alone) ∙ at) in
    inr (begins_moves graph state (in_job h j state) g b below top changed (h job)
    (ap (λ (x : Job). x.frames) (sym only.1) ∙ are)
    (jobs_after h state j job (b.alone ∙ ap (λ x. x ∷ []) (sym only.1)) only.0) frames same
    b.closures
    (due_same graph g top changed same point))

-- the frames of a job that has not ended, whose result is known
going_job : (graph : Graph) (state : State) (k : Kinded graph state) (j : ℕ) (job : Job)
    → slice_get state.jobs j ≡ Some job → ((v : Value) → job.status ≡ Ended v → ⊥)
    → (result : Ty) × IsGoing graph k.world job result
going_job graph state k j job at unended =
    let job_count = k.fits.job_count in
    let inside = slice_get_within state.jobs j job at in
    let result = found_within k.world.results j (omega (arith, inside, job_count)) in
    (result.0, going graph k.world job result.0 (k.fits.jobs j job result.0 at result.1) unended)

dispatch_kinded : (graph : Graph) (state : State) (k : Kinded graph state) (j : ℕ) (job : Job)
    → slice_get state.jobs j ≡ Some job → job.status ≡ Ready
    → KindedLater graph k.world (in_job dispatch j state)
unfolding dispatch
dispatch_kinded graph state k j job at ready =
    let is = going_job graph state k j job at (λ v ended. let wrong = sym ready ∙ ended in cc) in
    record {
      kinded = record {
        world = k.world;
        fits = dispatch_kept graph k.world state j job k.fits at ready;
        firsts = λ g inside. still_first graph state g j job is.1.below is.1.top is.1.top dispatch
            at
            is.1.are is.1.are refl refl (k.firsts g inside);
      };
      grows = grows_itself k.world;
    }

wake_kinded : (graph : Graph) (state : State) (k : Kinded graph state) (j : ℕ) (job : Job)
    (other r : ℕ) (v : Value) → slice_get state.jobs j ≡ Some job → job.status ≡ Waiting other r
    → result_of state other ≡ Some v → KindedLater graph k.world (in_job (wake r v) j state)
unfolding wake set_register
wake_kinded graph state k j job other r v at waits found =
    let is = going_job graph state k j job at (λ w ended. let wrong = sym waits ∙ ended in cc) in
    record {
      kinded = record {
        world = k.world;
        fits = wake_kept graph k.world state j job other r v k.fits at waits found;
        firsts = λ g inside. still_first graph state g j job is.1.below is.1.top
            (set_register r v is.1.top) (wake r v) at is.1.are
            (ap (λ fs. changed_at (set_register r v) (length fs - 1) fs) is.1.are
            ∙ changed_end (set_register r v) is.1.below is.1.top) refl refl (k.firsts g inside);
      };
      grows = grows_itself k.world;
    }

-- nothing changes
still : (graph : Graph) (state : State) (k : Kinded graph state) → KindedLater graph k.world state
still graph state k = record { kinded = k; grows = grows_itself k.world }

-- what an item makes its job do
act_kinded : (graph : Graph) → IsSupplied graph → (state : State) (k : Kinded graph state) (j : ℕ)
    (job : Job) → slice_get state.jobs j ≡ Some job → (status : Status) → job.status ≡ status
    → KindedLater graph k.world (after_acts j (act_by graph state job status) state)
act_kinded graph supplied state k j job at Ready ready = by (top_frame job) where
  pick : (b : Bool) → KindedLater graph k.world (after_acts j (cond b (Some Dispatch) None) state)
  pick true = dispatch_kinded graph state k j job at ready
  pick false = still graph state k

  by : (o : Option Frame)
      → KindedLater graph k.world (after_acts j (option_and_then (dispatch_of state) o) state)
  by None = still graph state k
  by (Some frame) = pick (is_free frame.executor state.jobs)
act_kinded graph supplied state k j job at (Waiting other r) waits = by (result_of state other) refl
  where
    by : (o : Option Value) → result_of state other ≡ o
        → KindedLater graph k.world (after_acts j (option_map (Wake other r) o) state)
    by None found = still graph state k
    by (Some v) found = wake_kinded graph state k j job other r v at waits found
act_kinded graph supplied state k j job at Running running =
    let x = running_job graph supplied state k j job at running in
    subst (λ o. KindedLater graph k.world (after_acts j (option_and_then
    (λ frame. execution_of (effect_of graph state (length job.frames) frame)) o) state))
    (sym x.top_is)
    (subst (KindedLater graph k.world)
    (sym (executed j (effect_of graph state (length job.frames) x.top) state))
    (effect_kinded graph supplied state k j job at x (length job.frames)))
act_kinded graph supplied state k j job at (Ended v) ended = still graph state k

pub step_kinded : (graph : Graph) → IsSupplied graph → (state : State) (item : ℕ)
    → (k : Kinded graph state) → KindedLater graph k.world (step_of graph state item)
unfolding act_of
step_kinded graph supplied state j k =
    subst (KindedLater graph k.world) (sym (step_by_act graph state j)) (by (is_some state.halted))
  where
    jobs : (o : Option Job) → slice_get state.jobs j ≡ o
        → KindedLater graph k.world
        (after_acts j (option_and_then (λ job. act_by graph state job job.status) o) state)
    jobs None at = still graph state k
    jobs (Some job) at = act_kinded graph supplied state k j job at job.status refl

    by : (halted : Bool) → KindedLater graph k.world
        (after_acts j (cond halted None (option_and_then (λ job. act_by graph state job
        job.status)
        (slice_get state.jobs j))) state)
    by true = still graph state k
    by false = jobs (slice_get state.jobs j) refl

pub reached_kinded : (graph : Graph) → IsSupplied graph → (items : List ℕ)
    → Kinded graph (reach graph items)
reached_kinded graph supplied items =
    reach_keeps (Kinded graph) graph (start_kinded graph supplied)
    (λ state item k. (step_kinded graph supplied state item k).kinded) items
