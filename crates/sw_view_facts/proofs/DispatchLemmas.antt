-- A job that gets its executor, as a move of views.
use Rattle.std.specs.Prelude.{IsTrue}
use Rattle.std.specs.Option.{option_and_then, option_map_or, option_map}
use Rattle.std.specs.List.{slice_get, list_any}
use Rattle.std.proofs.Common.{◌≡◌, ◌≢◌, ◌<◌, ◌-◌, ℕ, zero, suc, Bool, true, false, not, Option}
use Rattle.std.proofs.Common.{Some, None, List, [], ◌∷◌, length, refl, sym, subst, ap, ◌∙◌, arith}
use Rattle.std.proofs.Common.{inl, inr, cond, is_some}
use Rattle.std.proofs.lemmas.Bool.{and_from, cases_eq, eq-eqb, or_left, or_right}
use Rattle.sw_list.proofs.ListLemmas.{some_injective}
use Rattle.sw_graph.specs.declared.function.Function.{Function}
use Rattle.sw_graph.specs.declared.graph.Graph.{Graph}
use Rattle.sw_value.specs.declared.executor.Executor.{Executor}
use Rattle.sw_value.specs.declared.executor.Executor.TheVariants as executor
use Rattle.sw_value.specs.declared.frame.Frame.{Frame}
use Rattle.sw_value.specs.declared.job.Job.{Job}
use Rattle.sw_value.specs.declared.state.State.{State}
use Rattle.sw_value.specs.Executor.{is_same}
use Rattle.sw_value.specs.Job.{dispatch, is_running, runs_on, top_frame}
use Rattle.sw_value.specs.State.{in_job, is_free, result_of}
use Rattle.sw_value.specs.declared.value.Value.{Value}
use Rattle.sw_value.specs.declared.job.Status.TheVariants.{Ready, Running, Waiting, Ended}
use Rattle.sw_value.specs.declared.job.Status.{Status}
use Rattle.sw_value.specs.declared.effect.Effect.TheVariants as effect
use Rattle.sw_value.specs.declared.effect.Effect.{Effect}
use Rattle.sw_value.specs.declared.effect.Act.TheVariants.{Wake, Dispatch}
use Rattle.sw_value.specs.Reach.{step_of}
use Rattle.sw_value.specs.Effect.{effect_of}
use Rattle.sw_value.specs.Act.{act_by, act_of, dispatch_of, execution_of}
use Rattle.sw_value.proofs.ListLemmas.{changed_at_found}
use Rattle.sw_value.proofs.ReachLemmas.{after_acts, step_by_act}
use Rattle.sw_partition.specs.Regions.{Regions}
use Rattle.sw_machine_kind_facts.proofs.ItemLemmas.{changed_other}
use Rattle.sw_owner_facts.specs.Colours.{Actor, Instance, GlobalActor, On}
use Rattle.sw_owner_facts.specs.View.{IsTop, RunsOn, View, Frame as Spot}
use Rattle.sw_owner_facts.specs.Within.{Dispatched}
use Rattle.sw_view_facts.specs.Dispatching.{Dispatches}
use Rattle.sw_view_facts.specs.Steps.{height_in}
use Rattle.sw_view_facts.specs.Views.{Colours, annotated, frame_at, frame_under, function_of}
use Rattle.sw_view_facts.specs.Views.{shape_by, shape_with, stands_on, state_with, view_of}
use Rattle.sw_view_facts.proofs.KeptLemmas.{kept_as_is}

-- one of a list passes a test
any_at : {A : Type 0} (p : A → Bool) (xs : List A) (i : ℕ) (x : A) → slice_get xs i ≡ Some x
    → p x ≡ true → list_any p xs ≡ true
any_at p [] i x at is = cc
any_at p (y ∷ ys) zero x at is =
    or_left (p y) (list_any p ys) (ap p (some_injective at) ∙ is)
any_at p (y ∷ ys) (suc i) x at is = or_right (p y) (list_any p ys) (any_at p ys i x at is)

-- executors that stand on one actor are one, and no generic one does
same_actor : (d e : Executor) (a : Actor) → stands_on d ≡ On a → stands_on e ≡ On a
    → is_same d e ≡ true
same_actor executor.Generic e a one other = cc
same_actor (executor.ActorOf c) executor.Generic a one other = cc
same_actor (executor.ActorOf c) (executor.ActorOf d) a one other =
    let both : On (Instance c) ≡ On (Instance d) = one ∙ sym other in
    eq-eqb c d (let e : c ≡ d = cc in e)
same_actor (executor.ActorOf c) (executor.Global h) a one other =
    let both : On (Instance c) ≡ On (GlobalActor h) = one ∙ sym other in cc
same_actor (executor.Global g) executor.Generic a one other = cc
same_actor (executor.Global g) (executor.ActorOf d) a one other =
    let both : On (GlobalActor g) ≡ On (Instance d) = one ∙ sym other in cc
same_actor (executor.Global g) (executor.Global h) a one other =
    let both : On (GlobalActor g) ≡ On (GlobalActor h) = one ∙ sym other in
    eq-eqb g h (let e : g ≡ h = cc in e)

-- an executor that is free and stands on an actor is no running job's
free_of : (e : Executor) (jobs : List Job) (a : Actor) → stands_on e ≡ On a
    → is_free e jobs ≡ true → list_any (runs_on e) jobs ≡ true → ⊥
free_of executor.Generic jobs a on free runs = cc
free_of (executor.ActorOf c) jobs a on free runs =
    let wrong : true ≡ false = sym free ∙ ap not runs in cc
free_of (executor.Global g) jobs a on free runs =
    let wrong : true ≡ false = sym free ∙ ap not runs in cc

module _ (graph : Graph) (regions : Spot → Option Regions) (state : State) (colours : Colours)
  where
    abbrev w : View
    w = view_of graph regions state colours

    -- the frame of a view's top spot is the top frame of its job
    top_of_job : (p : Spot) (job : Job) → slice_get state.jobs p.job ≡ Some job → IsTop w p
        → top_frame job ≡ frame_at state p
    unfolding top_frame
    top_of_job p job there top =
        let height : length job.frames ≡ suc p.depth =
        sym (ap (λ o. option_map_or (λ (j : Job). length j.frames) o 0) there) ∙ top in
        ap (slice_get job.frames)
        (let i : length job.frames - 1 ≡ p.depth = omega (arith, height) in i)
        ∙ sym (ap (option_and_then (λ (j : Job). slice_get j.frames p.depth)) there)

    -- what stands on an actor is a frame of a function
    pub executor_at : (p : Spot) (a : Actor) → (w.shape p).executor ≡ On a
        → (f : Frame) × (frame_at state p ≡ Some f) × (stands_on f.executor ≡ On a)
    executor_at p a on = by (frame_at state p) refl on where
      under : Option Function
      under = function_of graph (frame_under state p.job p.depth)

      inner : (f : Frame) (o : Option Function) → (shape_with graph under f o).executor ≡ On a
          → stands_on f.executor ≡ On a
      inner f None on = cc
      inner f (Some function) on = on

      by : (o : Option Frame) → frame_at state p ≡ o → (shape_by graph under o).executor ≡ On a
          → (f : Frame) × (frame_at state p ≡ Some f) × (stands_on f.executor ≡ On a)
      by None is on = cc
      by (Some f) is on = (f, is, inner f (slice_get graph.functions f.function) on)

    -- a running job's top frame that stands on an actor runs on its executor
    runs_there : (e : Executor) (q : Spot) (a : Actor) → stands_on e ≡ On a → RunsOn w q a
        → list_any (runs_on e) state.jobs ≡ true
    unfolding runs_on is_running
    runs_there e q a on runs = by (slice_get state.jobs q.job) refl runs.running where
      by : (o : Option Job) → slice_get state.jobs q.job ≡ o
          → IsTrue (option_map_or is_running o false) → list_any (runs_on e) state.jobs ≡ true
      by None is run = cc
      by (Some job) is run =
          let there = executor_at q a runs.executor in
          let top : top_frame job ≡ Some there.0 = top_of_job q job is runs.top ∙ there.1 in
          any_at (runs_on e) state.jobs q.job job is
          (and_from (is_running job)
          (option_map_or (λ (frame : Frame). is_same frame.executor e) (top_frame job) false) run
          (ap (λ o. option_map_or (λ (frame : Frame). is_same frame.executor e) o false) top
          ∙ same_actor there.0.executor e a there.2 on))

module _ (graph : Graph) (states : ℕ → List (Option Regions)) (state next : State) (j : ℕ)
    (colours : Colours) (d : Dispatches state next j) where
  abbrev later : State
  later = in_job dispatch j state

  abbrev old : View
  old = view_of graph (annotated states state) state colours

  job_now : slice_get later.jobs j ≡ Some (dispatch d.job)
  unfolding in_job
  job_now = changed_at_found dispatch j state.jobs d.job d.there

  job_other : (i : ℕ) → i ≢ j → slice_get later.jobs i ≡ slice_get state.jobs i
  unfolding in_job
  job_other i differ = changed_other dispatch j i state.jobs differ

  frames_same : (i k : ℕ) → frame_at later (record { job = i; depth = k })
      ≡ frame_at state (record { job = i; depth = k })
  unfolding dispatch
  frames_same i k = elim (cases_eq i j) [
    | inr differ ↦ ap (option_and_then (λ (j : Job). slice_get j.frames k)) (job_other i differ)
    | inl same ↦
        ap (option_and_then (λ (j : Job). slice_get j.frames k))
        (ap (slice_get later.jobs) same ∙ job_now)
        ∙ sym (ap (option_and_then (λ (j : Job). slice_get j.frames k))
        (ap (slice_get state.jobs) same ∙ d.there))
  ]

  height_same : (i : ℕ) → height_in later i ≡ height_in state i
  unfolding dispatch
  height_same i = elim (cases_eq i j) [
    | inr differ ↦ ap (λ o. option_map_or (λ (j : Job). length j.frames) o 0) (job_other i differ)
    | inl same ↦
        ap (λ o. option_map_or (λ (j : Job). length j.frames) o 0)
        (ap (slice_get later.jobs) same ∙ job_now)
        ∙ sym (ap (λ o. option_map_or (λ (j : Job). length j.frames) o 0)
        (ap (slice_get state.jobs) same ∙ d.there))
  ]

  pub job_is_dispatched : Dispatched old (view_of graph (annotated states next) next colours) j
  unfolding in_job
  job_is_dispatched =
      subst (λ s. Dispatched old (view_of graph (annotated states s) s colours) j) (sym d.steps)
      (record {
        height = height_same;
        running = λ i differ run. sym (ap (λ o. option_map_or is_running o false)
            (job_other i differ)) ∙ run;
        frames = λ p is. kept_as_is graph (annotated states state) (annotated states later) state
            later colours colours p (frames_same p.job)
            (λ inside. subst (λ n. p.depth < n) (height_same p.job) inside) refl
            (ap (state_with states) (frames_same p.job p.depth)) (λ s h r v there has. refl);
        exclusive = λ {q} {a} p same top on runs.
            let there = executor_at graph (annotated states state) state colours p a on in
            let frame : Some d.frame ≡ Some there.0 = sym d.top
            ∙ top_of_job graph (annotated states state) state colours p d.job
            (ap (slice_get state.jobs) same ∙ d.there) top ∙ there.1 in
            let stands : stands_on d.frame.executor ≡ On a =
            ap (λ (f : Frame). stands_on f.executor) (some_injective frame) ∙ there.2 in
            free_of d.frame.executor state.jobs a stands d.free
            (runs_there graph (annotated states state) state colours d.frame.executor q a stands
            runs);
      })

-- what a dispatch asks
pub dispatch_is : (graph : Graph) (state : State) (j : ℕ) → act_of graph state j ≡ Some Dispatch
    → Dispatches state (step_of graph state j) j
unfolding act_of
dispatch_is graph state j acts = halted (is_some state.halted) refl acts where
  stepped : step_of graph state j ≡ in_job dispatch j state
  stepped = step_by_act graph state j ∙ ap (λ o. after_acts j o state) acts

  framed : (job : Job) → slice_get state.jobs j ≡ Some job → (o : Option Frame)
      → top_frame job ≡ o → option_and_then (dispatch_of state) o ≡ Some Dispatch
      → Dispatches state (step_of graph state j) j
  framed job there None top is = cc
  framed job there (Some frame) top is = free (is_free frame.executor state.jobs) refl is where
    free : (b : Bool) → is_free frame.executor state.jobs ≡ b
        → cond b (Some Dispatch) None ≡ Some Dispatch
        → Dispatches state (step_of graph state j) j
    free false e is = cc
    free true e is = record {
      job = job;
      there = there;
      frame = frame;
      top = top;
      free = e;
      steps = stepped;
    }

  acted : (job : Job) → slice_get state.jobs j ≡ Some job → (status : Status)
      → act_by graph state job status ≡ Some Dispatch → Dispatches state (step_of graph state j) j
  acted job there Ready is = framed job there (top_frame job) refl is
  acted job there (Waiting on r) is = waiting (result_of state on) is where
    waiting : (o : Option Value) → option_map (Wake on r) o ≡ Some Dispatch
        → Dispatches state (step_of graph state j) j
    waiting None is = cc
    waiting (Some v) is = cc
  acted job there Running is = runs (top_frame job) is where
    executed : (e : Effect) → execution_of e ≡ Some Dispatch
        → Dispatches state (step_of graph state j) j
    executed (effect.Set r v next) is = cc
    executed (effect.SetField r i v next) is = cc
    executed (effect.Print r line next) is = cc
    executed (effect.New r cell number next) is = cc
    executed (effect.Write c slot v next) is = cc
    executed (effect.WriteGlobal g v next) is = cc
    executed (effect.Goto next) is = cc
    executed (effect.Wait on r next) is = cc
    executed (effect.Rest r next) is = cc
    executed (effect.Enter frame next) is = cc
    executed (effect.Leave v) is = cc
    executed (effect.Spawn r frame job cell next) is = cc
    executed (effect.Halt kind at) is = cc
    executed effect.Stuck is = cc

    runs : (o : Option Frame)
        → option_and_then (λ frame. execution_of
        (effect_of graph state (length job.frames) frame)) o ≡ Some Dispatch
        → Dispatches state (step_of graph state j) j
    runs None is = cc
    runs (Some frame) is = executed (effect_of graph state (length job.frames) frame) is
  acted job there (Ended v) is = cc

  found : (o : Option Job) → slice_get state.jobs j ≡ o
      → option_and_then (λ job. act_by graph state job job.status) o ≡ Some Dispatch
      → Dispatches state (step_of graph state j) j
  found None there is = cc
  found (Some job) there is = acted job there job.status is

  halted : (b : Bool) → is_some state.halted ≡ b
      → cond b None (option_and_then (λ job. act_by graph state job job.status)
      (slice_get state.jobs j)) ≡ Some Dispatch
      → Dispatches state (step_of graph state j) j
  halted true e is = cc
  halted false e is = found (slice_get state.jobs j) refl is
