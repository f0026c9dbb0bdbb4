-- Which jobs run on an executor after a step: those that did and haven't left it, and the job that is
-- dispatched onto it.
use Rattle.std.proofs.Common.{◌≡◌, ◌≢◌, ◌⊎◌, ◌<◌, inl, inr, ◌≤◌, ℕ, suc, ◌-◌, Bool, true, false, cond, Option, Some}
use Rattle.std.proofs.Common.{None, List, [], ◌∷◌, ◌++◌, length, refl, sym, subst, ap, ◌∙◌}
use Rattle.std.proofs.Common.{arith, length-append}
use Rattle.std.specs.Prelude.{option_and_then, ◌==◌}
use Rattle.std.specs.Option.{option_map}
use Rattle.std.specs.List.{slice_get}
use Rattle.std.proofs.lemmas.Bool.{eq-eqb}
use Rattle.std.proofs.lemmas.Option.{slice_get_within}
use Rattle.sw_list.proofs.ListLemmas.{slice_get_before, some_injective}
use Rattle.sw_graph.specs.declared.function.Function.{Function}
use Rattle.sw_graph.specs.declared.graph.Graph.{Graph}
use Rattle.sw_graph.specs.Points.{Point}
use Rattle.sw_value.specs.declared.effect.Act.{Act}
use Rattle.sw_value.specs.declared.effect.Act.TheVariants.{Dispatch, Wake, Execute}
use Rattle.sw_value.specs.declared.effect.Effect.{Effect}
use Rattle.sw_value.specs.declared.effect.Effect.TheVariants as effect
use Rattle.sw_value.specs.declared.executor.Executor.{Executor}
use Rattle.sw_value.specs.declared.frame.Frame.{Frame}
use Rattle.sw_value.specs.declared.job.Job.{Job}
use Rattle.sw_value.specs.declared.state.State.{State}
use Rattle.sw_value.specs.declared.value.Value.TheVariants as value
use Rattle.sw_value.specs.Act.{act_of}
use Rattle.sw_value.specs.Effect.{point_effect}
use Rattle.sw_value.specs.Frame.{finish_instr}
use Rattle.sw_value.specs.Job.{is_running}
use Rattle.sw_value.specs.Job.{top_frame}
use Rattle.sw_value.specs.Reach.{after_act, step_of}
use Rattle.sw_value.specs.Transition.{Describes, Transition, executor_of_top, gained, made_by}
use Rattle.sw_value.specs.Transition.{runs_at, transition_by, transition_of}
use Rattle.sw_value.proofs.JobLemmas.{leave_some}
use Rattle.sw_value.proofs.ListLemmas.{length-changed_at}
use Rattle.sw_value.proofs.ReachLemmas.{after_acts, step_by_act}
use Rattle.sw_value.proofs.TransitionLemmas.{transition_describes}
use Rattle.sw_late_facts.proofs.Waiting.{others_stay}
use Rattle.sw_machine_name_facts.proofs.Jobs.{JobAfter, begins, changed, changes, job_after, jobs_of}
use Rattle.sw_machine_name_facts.proofs.Jobs.{made_jobs, stays}
use Rattle.sw_partition.specs.Regions.{Regions}
use Rattle.sw_owner_facts.specs.View.{FrameShape, above, Frame as Spot}
use Rattle.sw_view_facts.specs.Effects.{turn_of}
use Rattle.sw_view_facts.specs.Standing.{StandsAt}
use Rattle.sw_view_facts.specs.Views.{Colours, frame_at, frame_under, function_of, shape_by, shape_with}
use Rattle.sw_view_facts.specs.Views.{view_at}
use Rattle.sw_view_facts.proofs.TopLemmas.{ends_with, frame_was, height_is}
use Rattle.sw_secure_facts.specs.Secure.{IsSecure}
use Rattle.sw_secure_job_facts.proofs.Frames.{function_at}
use Rattle.sw_sound_facts.proofs.Acting.{ExecutesAt, executes_at}
use Rattle.sw_order_facts.proofs.Entering.{entered_stays}
use Rattle.sw_order_facts.proofs.Holding.{RunsAt, executing_runs, runs_so, runs_there}
use Rattle.sw_order_facts.proofs.Turning.{dispatched_top, entered_runs, entered_top}
use Rattle.sw_order_facts.proofs.Turning.{in_top_stays, not_new, not_resting, not_waiting, not_woken}
use Rattle.sw_order_facts.proofs.Turning.{returned, same_stand, turns_stay}

pub stepped : (graph : Graph) (state : State) (j : ℕ) (act : Act) → act_of graph state j ≡ Some act
    → step_of graph state j ≡ after_act j act state
stepped graph state j act acts =
    step_by_act graph state j ∙ ap (λ o. after_acts j o state) acts

-- ---- other jobs
pub other_ran : (graph : Graph) (state : State) (j i : ℕ) (act : Act)
    → act_of graph state j ≡ Some act → i ≢ j → (x : Executor)
    → runs_at (step_of graph state j) i ≡ Some x → runs_at state i ≡ Some x
other_ran graph state j i act acts apart x runs =
    by r.job (job_after graph state j act acts i r.job r.there) r.running r.top
  where
    r : RunsAt (step_of graph state j) i x
    r = runs_there (step_of graph state j) i x runs

    by : (job : Job) → JobAfter state act j i job → is_running job ≡ true
        → top_frame job ≡ Some r.frame → runs_at state i ≡ Some x
    by job (stays old) running top = runs_so state i x (record {
      job = job;
      there = old;
      running = running;
      frame = r.frame;
      top = top;
      on = r.on;
    })
    by job (changes here old there is) running top = absurd (apart here)
    by job (begins made frame begun is) running top =
        absurd (not_new (frame ∷ []) (ap is_running is ∙ running))

pub other_runs : (graph : Graph) (state : State) (j i : ℕ) (act : Act)
    → act_of graph state j ≡ Some act → i ≢ j → (x : Executor) → runs_at state i ≡ Some x
    → runs_at (step_of graph state j) i ≡ Some x
other_runs graph state j i act acts apart x runs =
    let r = runs_there state i x runs in
    runs_so (step_of graph state j) i x (record {
      job = r.job;
      there = ap (λ (s : State). slice_get s.jobs i) (stepped graph state j act acts)
          ∙ others_stay j i act state r.job apart r.there;
      running = r.running;
      frame = r.frame;
      top = r.top;
      on = r.on;
    })

-- ---- the job that executes
module _ (graph : Graph) (states : ℕ → List (Option Regions)) (state : State) (colours : Colours)
    (s : IsSecure graph states state colours) where
  module _ (q : Spot) (job : Job) (f : Frame) (function : Function) (point : Point)
      (x : StandsAt graph state q job f function point) where
    top : top_frame job ≡ Some f
    unfolding top_frame
    top = ap (slice_get job.frames) (let high = x.top.height in
        let last : length job.frames - 1 ≡ q.depth = omega (arith, high) in last) ∙ x.top.top

    -- the frame below one that doesn't cross is to run where it runs
    lower_stays : (below : List Frame) → job.frames ≡ below ++ f ∷ [] → f.crossing ≡ false
        → (lower : Frame) → slice_get below (length below - 1) ≡ Some lower
        → lower.executor ≡ f.executor
    lower_stays below are within lower at =
        let inside = slice_get_within below (length below - 1) lower at in
        let size = ap (λ (l : List Frame). length l) are in
        let count = length-append below (f ∷ []) in
        let high = x.top.height in
        let p : Spot = record { job = q.job; depth = length below - 1 } in
        let up : above p ≡ q = (let d : suc (length below - 1) ≡ q.depth =
        omega (arith, inside, size, count, high) in
        ap (λ n. record { job = q.job; depth = n }) d) in
        let there : frame_at state p ≡ Some lower =
        ap (option_and_then (λ (j : Job). slice_get j.frames (length below - 1))) x.top.there
        ∙ ap (λ (l : List Frame). slice_get l (length below - 1)) are
        ∙ slice_get_before below (f ∷ []) (length below - 1) lower at in
        let body = function_at graph states state colours s.coloured p lower there in
        let w = view_at graph states state colours in
        let low : w.shape p ≡ shape_with graph (function_of graph (frame_under state p.job p.depth))
        lower (Some body.0) =
        ap (shape_by graph (function_of graph (frame_under state p.job p.depth))) there
        ∙ ap (shape_with graph (function_of graph (frame_under state p.job p.depth)) lower) body.1 in
        let own : w.shape q ≡ shape_with graph (function_of graph (frame_under state q.job q.depth)) f
        (Some function) =
        ap (shape_by graph (function_of graph (frame_under state q.job q.depth)))
        (frame_was state q job f x.top)
        ∙ ap (shape_with graph (function_of graph (frame_under state q.job q.depth)) f) x.is in
        let height = height_is state q job f x.top in
        let frames = subst (λ (u : Spot). u.depth < w.height u.job) (sym up)
        (let i : q.depth < w.height q.job = omega (arith, height) in i) in
        let same = s.coloured.sound.stacked.inherited p frames
        (ap (λ (u : Spot). (w.shape u).crossing) up ∙ ap (λ (h : FrameShape). h.crossing) own ∙ within)
        in
        same_stand lower.executor f.executor (sym (ap (λ (h : FrameShape). h.executor) low)
        ∙ sym same ∙ ap (λ (u : Spot). (w.shape u).executor) up
        ∙ ap (λ (h : FrameShape). h.executor) own)

    -- where the job goes on to run, it runs where it ran
    keeps_executor : (e : Effect) → point_effect graph state (length job.frames) f point ≡ e
        → (g : Frame) → is_running (changed (Execute e) job) ≡ true → top_frame (changed (Execute e) job) ≡ Some g
        → g.executor ≡ f.executor
    keeps_executor (effect.Enter frame next) gives g runs now =
        ap (λ (k : Frame). k.executor) (entered_top frame g next job now)
        ∙ entered_stays graph state (length job.frames) f point frame next gives
        (entered_runs frame next job runs)
    keeps_executor (effect.Leave v) gives g runs now =
        let split = ends_with job.frames q.depth f x.top.top x.top.height in
        let is = leave_some v job split.0 f split.1 in
        let r = returned split.0 f g v job.status (ap is_running (sym is) ∙ runs)
        (ap top_frame (sym is) ∙ now) in
        r.is ∙ lower_stays split.0 split.1 r.stays r.lower r.at
    keeps_executor (effect.Wait on r next) gives g runs now = absurd (not_waiting on r next job runs)
    keeps_executor (effect.Rest r next) gives g runs now = absurd (not_resting r next job runs)
    keeps_executor (effect.Spawn r frame task cell next) gives g runs now =
        in_top_stays (finish_instr r (value.Cell cell) next) job f g
        (turns_stay (effect.Set r (value.Cell cell) next)) top now
    keeps_executor (effect.Halt kind at) gives g runs now =
        ap (λ (k : Frame). k.executor) (some_injective (sym now ∙ top))
    keeps_executor effect.Stuck gives g runs now =
        ap (λ (k : Frame). k.executor) (some_injective (sym now ∙ top))
    keeps_executor (effect.Set r v next) gives g runs now =
        in_top_stays (turn_of (effect.Set r v next)) job f g (turns_stay (effect.Set r v next)) top now
    keeps_executor (effect.SetField r i v next) gives g runs now =
        in_top_stays (turn_of (effect.SetField r i v next)) job f g
        (turns_stay (effect.SetField r i v next)) top now
    keeps_executor (effect.Print r line next) gives g runs now =
        in_top_stays (turn_of (effect.Print r line next)) job f g
        (turns_stay (effect.Print r line next)) top now
    keeps_executor (effect.New r cell c next) gives g runs now =
        in_top_stays (turn_of (effect.New r cell c next)) job f g
        (turns_stay (effect.New r cell c next)) top now
    keeps_executor (effect.Write c slot v next) gives g runs now =
        in_top_stays (turn_of (effect.Write c slot v next)) job f g
        (turns_stay (effect.Write c slot v next)) top now
    keeps_executor (effect.WriteGlobal n v next) gives g runs now =
        in_top_stays (turn_of (effect.WriteGlobal n v next)) job f g
        (turns_stay (effect.WriteGlobal n v next)) top now
    keeps_executor (effect.Goto next) gives g runs now =
        in_top_stays (turn_of (effect.Goto next)) job f g (turns_stay (effect.Goto next)) top now

  -- ---- the job that steps
  abbrev RanOrEnters : ℕ → Act → Executor → Type 0
  RanOrEnters j act x = (runs_at state j ≡ Some x)
      ⊎ ((transition_by graph state j act).enters ≡ Some x)

  executed : (j : ℕ) (e : Effect) → act_of graph state j ≡ Some (Execute e) → (x : Executor)
      → runs_at (step_of graph state j) j ≡ Some x → runs_at state j ≡ Some x
  executed j e acts x runs =
      ap (runs_at state) (sym at.is_job)
      ∙ executing_runs graph states state colours s at.q at.job at.frame at.function at.point
      at.stands
      ∙ ap Some (sym (by r.job (job_after graph state j (Execute e) acts j r.job r.there) r.running
      r.top) ∙ r.on)
    where
      at : ExecutesAt graph state j e
      at = executes_at graph state j e acts

      r : RunsAt (step_of graph state j) j x
      r = runs_there (step_of graph state j) j x runs

      there : slice_get state.jobs j ≡ Some at.job
      there = ap (slice_get state.jobs) (sym at.is_job) ∙ at.stands.top.there

      by : (job : Job) → JobAfter state (Execute e) j j job → is_running job ≡ true
          → top_frame job ≡ Some r.frame → r.frame.executor ≡ at.frame.executor
      by job (stays old) running now =
          ap (λ (k : Frame). k.executor) (some_injective (sym now
          ∙ ap top_frame (some_injective (sym old ∙ there))
          ∙ top at.q at.job at.frame at.function at.point at.stands))
      by job (changes here old was is) running now =
          let same : changed (Execute e) at.job ≡ job =
          ap (changed (Execute e)) (some_injective (sym there ∙ was)) ∙ is in
          keeps_executor at.q at.job at.frame at.function at.point at.stands e at.gives r.frame
          (ap is_running same ∙ running) (ap top_frame same ∙ now)
      by job (begins made frame begun is) running now =
          absurd (not_new (frame ∷ []) (ap is_running is ∙ running))

  pub own_ran : (j : ℕ) (act : Act) → act_of graph state j ≡ Some act → (x : Executor)
      → runs_at (step_of graph state j) j ≡ Some x
      → (runs_at state j ≡ Some x) ⊎ ((transition_by graph state j act).enters ≡ Some x)
  own_ran j act acts x runs = by act acts r.job (job_after graph state j act acts j r.job r.there)
      r.running r.top
    where
      r : RunsAt (step_of graph state j) j x
      r = runs_there (step_of graph state j) j x runs

      by : (act : Act) → act_of graph state j ≡ Some act → (job : Job) → JobAfter state act j j job
          → is_running job ≡ true → top_frame job ≡ Some r.frame
          → (runs_at state j ≡ Some x) ⊎ ((transition_by graph state j act).enters ≡ Some x)
      by act acts job (stays old) running now = inl (runs_so state j x (record {
        job = job;
        there = old;
        running = running;
        frame = r.frame;
        top = now;
        on = r.on;
      }))
      by act acts job (begins made frame begun is) running now =
          absurd (not_new (frame ∷ []) (ap is_running is ∙ running))
      by (Execute e) acts job (changes here old was is) running now = inl (executed j e acts x runs)
      by (Wake ended r v) acts job (changes here old was is) running now =
          absurd (not_woken r v old (ap is_running is ∙ running))
      by Dispatch acts job (changes here old was is) running now =
          inr (ap (option_and_then executor_of_top) was
          ∙ ap (option_map (λ (k : Frame). k.executor)) (dispatched_top old ∙ ap top_frame is ∙ now)
          ∙ ap Some r.on)

  -- a job that ran on an executor runs there still, or leaves it
  pub own_leaves : (j : ℕ) (act : Act) → act_of graph state j ≡ Some act → (x : Executor)
      → runs_at state j ≡ Some x → (runs_at (step_of graph state j) j ≡ Some x)
      ⊎ ((transition_by graph state j act).leaves ≡ Some x)
  unfolding transition_of
  own_leaves j act acts x runs = by (runs_at (step_of graph state j) j) refl where
    t : Transition
    t = transition_by graph state j act

    describes : Describes graph state (step_of graph state j) j t
    describes = transition_describes graph state j t
        (ap (option_map (transition_by graph state j)) acts)

    by : (o : Option Executor) → runs_at (step_of graph state j) j ≡ o
        → (runs_at (step_of graph state j) j ≡ Some x) ⊎ (t.leaves ≡ Some x)
    by None now = inr (describes.leaves ∙ ap (λ o. gained o (runs_at state j)) now ∙ runs)
    by (Some y) now = elim (own_ran j act acts y now) [
      | inl same ↦ inl (now ∙ sym same ∙ runs)
      | inr enters ↦
          let none : None ≡ Some y = ap (λ o. gained o (runs_at (step_of graph state j) j)) (sym runs)
          ∙ sym describes.enters ∙ enters in
          absurd (let wrong : ⊥ = cc in wrong)
    ]

  -- and who leaves an executor ran there
  pub left_ran : (j : ℕ) (act : Act) → act_of graph state j ≡ Some act → (x : Executor)
      → (transition_by graph state j act).leaves ≡ Some x → runs_at state j ≡ Some x
  unfolding transition_of
  left_ran j act acts x leaves = by (runs_at (step_of graph state j) j) refl where
    t : Transition
    t = transition_by graph state j act

    describes : Describes graph state (step_of graph state j) j t
    describes = transition_describes graph state j t
        (ap (option_map (transition_by graph state j)) acts)

    by : (o : Option Executor) → runs_at (step_of graph state j) j ≡ o → runs_at state j ≡ Some x
    by None now = sym (ap (λ o. gained o (runs_at state j)) now) ∙ sym describes.leaves ∙ leaves
    by (Some y) now =
        let none : None ≡ Some x = sym (ap (λ o. gained o (runs_at state j)) now)
        ∙ sym describes.leaves ∙ leaves in
        absurd (let wrong : ⊥ = cc in wrong)

-- ---- how many jobs there are
pub jobs_stay : (graph : Graph) (state : State) (j : ℕ) (act : Act)
    → act_of graph state j ≡ Some act → length state.jobs ≤ length (step_of graph state j).jobs
jobs_stay graph state j act acts =
    let count = ap (λ (s : State). length s.jobs) (stepped graph state j act acts)
    ∙ ap (λ (l : List Job). length l) (jobs_of j act state)
    ∙ length-changed_at (changed act) j (state.jobs ++ made_jobs act) in
    let sum = length-append state.jobs (made_jobs act) in
    omega (arith, count, sum)

-- a job that is made is there
pub made_there : (graph : Graph) (state : State) (j : ℕ) (act : Act) → act_of graph state j ≡ Some act
    → (i : ℕ) → made_by act ≡ Some i
    → (i ≡ length state.jobs) × (i < length (step_of graph state j).jobs)
unfolding transition_of
made_there graph state j act acts i made =
    by (length (step_of graph state j).jobs == length state.jobs) refl
    (sym (transition_describes graph state j (transition_by graph state j act)
    (ap (option_map (transition_by graph state j)) acts)).makes ∙ made)
  where
    more : length state.jobs ≤ length (step_of graph state j).jobs
    more = jobs_stay graph state j act acts

    by : (b : Bool) → (length (step_of graph state j).jobs == length state.jobs) ≡ b
        → cond b None (Some (length state.jobs)) ≡ Some i
        → (i ≡ length state.jobs) × (i < length (step_of graph state j).jobs)
    by true same is = absurd (let no : ⊥ = cc in no)
    by false differ is =
        let next : length state.jobs ≡ i = some_injective is in
        let other : length (step_of graph state j).jobs ≢ length state.jobs =
        (λ e. let no : false ≡ true = sym differ
        ∙ eq-eqb (length (step_of graph state j).jobs) (length state.jobs) e in
        let wrong : ⊥ = cc in wrong) in
        (sym next, omega (arith, more, next, other))
