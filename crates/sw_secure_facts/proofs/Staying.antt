-- What stays where a step changes one frame and makes or takes off none.
use Rattle.std.proofs.Common.{◌≡◌, ◌+◌, ℕ, true, false, Bool, Option, Some}
use Rattle.std.proofs.Common.{None, List, length, Contains, refl, sym, subst, ap, ◌∙◌, arith, inl, inr, ◌⊎◌}
use Rattle.std.specs.Option.{option_and_then, option_map_or}
use Rattle.std.specs.List.{slice_get}
use Rattle.std.proofs.lemmas.Option.{slice_get_within}
use Rattle.std.proofs.lemmas.Bool.{cases_eq}
use Rattle.sw_list.proofs.ListLemmas.{some_injective}
use Rattle.sw_types.specs.declared.ty.Ty.{Ty}
use Rattle.sw_graph.specs.declared.graph.Graph.{Graph}
use Rattle.sw_value.specs.declared.cell.HeapCell.{HeapCell}
use Rattle.sw_value.specs.declared.effect.Effect.{Effect}
use Rattle.sw_value.specs.declared.effect.Effect.TheVariants as effect
use Rattle.sw_value.specs.declared.frame.Frame.{Frame}
use Rattle.sw_value.specs.declared.job.Job.{Job}
use Rattle.sw_value.specs.declared.job.Status.{Status}
use Rattle.sw_value.specs.declared.job.Status.TheVariants.{Waiting}
use Rattle.sw_value.specs.declared.state.State.{State}
use Rattle.sw_value.specs.declared.value.Value.{Value}
use Rattle.sw_value.specs.Job.{in_top, rest}
use Rattle.sw_value.specs.Lists.{changed_at}
use Rattle.sw_value.specs.Reach.{after_effect}
use Rattle.sw_value.specs.State.{add_cell, in_cell, in_job, set_global}
use Rattle.sw_value.proofs.ListLemmas.{changed_at_found, length-changed_at}
use Rattle.sw_machine_kind_facts.specs.Standing.{awaited_at, awaited_in, or_above}
use Rattle.sw_machine_kind_facts.proofs.ItemLemmas.{changed_other, found_within}
use Rattle.sw_owner_facts.specs.Colours.{Colour}
use Rattle.sw_owner_facts.specs.View.{Frame as Spot}
use Rattle.sw_owner_facts.proofs.FrameLemmas.{cases_frame}
use Rattle.sw_reach_facts.specs.Reached.{colours_of}
use Rattle.sw_view_facts.specs.Effects.{is_inside, job_of, turn_of}
use Rattle.sw_view_facts.specs.Steps.{ChangesFrame, TopAt}
use Rattle.sw_view_facts.specs.Views.{Colours, frame_at}
use Rattle.sw_view_facts.proofs.EffectLemmas.{inside_changes}
use Rattle.sw_secure_facts.specs.Memory.{OwnsMemory}
use Rattle.sw_secure_facts.specs.Secure.{HeresFit, WaitsFit}

-- ---- memory
module _ (graph : Graph) (colours : Colours) where
  -- what the cells and globals hold, whatever the jobs do
  pub memory_stays : (state next : State) → next.cells ≡ state.cells
      → next.globals ≡ state.globals → OwnsMemory graph state colours
      → OwnsMemory graph next colours
  memory_stays state next cells globals memory = record {
    count = memory.count ∙ sym (ap (λ (l : List HeapCell). length l) cells);
    marked = λ c cell at. memory.marked c cell (was c cell at);
    inside = λ c cell own v at is has other reached.
        memory.inside c cell own v (was c cell at) is has other (reached_was v other reached);
    kept = λ c cell owner v at is has other reached.
        memory.kept c cell owner v (was c cell at) is has other (reached_was v other reached);
    globals = λ g kind v other at is reached.
        memory.globals g kind v other at
        (ap (λ (l : List (Option Value)). option_and_then (λ (o : Option Value). o) (slice_get l g))
        (sym globals) ∙ is) (reached_was v other reached);
    global_closures = λ c f actor captures colour at.
        memory.global_closures c f actor captures colour (was c _ at);
    own_closures = λ c f self captures colour at.
        memory.own_closures c f self captures colour (was c _ at);
    earlier = λ c f captures v d at. memory.earlier c f captures v d (was c _ at);
  }
    where
      was : (c : ℕ) (cell : HeapCell) → slice_get next.cells c ≡ Some cell
          → slice_get state.cells c ≡ Some cell
      was c cell at = ap (λ (l : List HeapCell). slice_get l c) (sym cells) ∙ at

      reached_was : (v : Value) (other : Colour)
          → Contains (colours_of next.cells colours.cells v) other
          → Contains (colours_of state.cells colours.cells v) other
      reached_was v other has =
          subst (λ (l : List HeapCell). Contains (colours_of l colours.cells v) other) cells has

-- ---- jobs
-- the job changes, and no other
jobs_after : (e : Effect) → is_inside e ≡ true → (j : ℕ) (state : State)
    → (after_effect j e state).jobs ≡ changed_at (job_of e) j state.jobs
unfolding in_job add_cell in_cell set_global
jobs_after (effect.Set r v next) is j state = refl
jobs_after (effect.SetField r i v next) is j state = refl
jobs_after (effect.Print r line next) is j state = refl
jobs_after (effect.New r cell number next) is j state = refl
jobs_after (effect.Write c slot v next) is j state = refl
jobs_after (effect.WriteGlobal g v next) is j state = refl
jobs_after (effect.Goto next) is j state = refl
jobs_after (effect.Wait on r next) is j state = refl
jobs_after (effect.Rest r next) is j state = refl
jobs_after (effect.Enter frame next) is j state = cc
jobs_after (effect.Leave v) is j state = cc
jobs_after (effect.Spawn r frame job cell next) is j state = cc
jobs_after (effect.Halt kind at) is j state = cc
jobs_after effect.Stuck is j state = cc

-- it waits for another job
abbrev pub waits_on_job : Effect → Bool
waits_on_job (effect.Wait on r next) = true
waits_on_job _ = false

-- a running job goes on to run, or gives its executor up
status_after : (e : Effect) → is_inside e ≡ true → waits_on_job e ≡ false → (job : Job)
    → awaited_in job.status ≡ None → awaited_in (job_of e job).status ≡ None
unfolding in_top rest
status_after (effect.Set r v next) is ends job none = none
status_after (effect.SetField r i v next) is ends job none = none
status_after (effect.Print r line next) is ends job none = none
status_after (effect.New r cell number next) is ends job none = none
status_after (effect.Write c slot v next) is ends job none = none
status_after (effect.WriteGlobal g v next) is ends job none = none
status_after (effect.Goto next) is ends job none = none
status_after (effect.Wait on r next) is ends job none = cc
status_after (effect.Rest r next) is ends job none = refl
status_after (effect.Enter frame next) is ends job none = cc
status_after (effect.Leave v) is ends job none = cc
status_after (effect.Spawn r frame made cell next) is ends job none = cc
status_after (effect.Halt kind at) is ends job none = cc
status_after effect.Stuck is ends job none = cc

waits_for_none : (status : Status) (on r : ℕ) → status ≡ Waiting on r → awaited_in status ≡ Some r
waits_for_none status on r is = ap awaited_in is

module _ (graph : Graph) (state : State) (q : Spot) (job : Job) (f : Frame)
    (top : TopAt state q job f) (e : Effect) (inside : is_inside e ≡ true) where
  abbrev next : State
  next = after_effect q.job e state

  changes : ChangesFrame state next q f (turn_of e f)
  changes = inside_changes state q job f top e inside

  count : length next.jobs ≡ length state.jobs
  count = ap (λ (l : List Job). length l) (jobs_after e inside q.job state)
      ∙ length-changed_at (job_of e) q.job state.jobs

  -- a job after the step, and what it was
  pub record WasJob (j : ℕ) (now : Job) : Type 0 where
    pub old : Job
    pub there : slice_get state.jobs j ≡ Some old
    pub is : (now ≡ old) ⊎ ((j ≡ q.job) × (old ≡ job) × (now ≡ job_of e old))

  pub was_job : (j : ℕ) (now : Job) → slice_get next.jobs j ≡ Some now → WasJob j now
  was_job j now at = elim (cases_eq j q.job) [
    | inr differ ↦ record {
      old = now;
      there = sym (changed_other (job_of e) q.job j state.jobs differ)
          ∙ ap (λ (l : List Job). slice_get l j) (sym (jobs_after e inside q.job state)) ∙ at;
      is = inl refl;
    }
    | inl same ↦ record {
      old = job;
      there = ap (slice_get state.jobs) same ∙ top.there;
      is = inr (
        same,
        refl,
        some_injective (sym at
            ∙ ap (λ (l : List Job). slice_get l j) (jobs_after e inside q.job state)
            ∙ ap (slice_get (changed_at (job_of e) q.job state.jobs)) same
            ∙ changed_at_found (job_of e) q.job state.jobs job top.there),
      );
    }
  ]

  pub same_height : (j : ℕ) (now : Job) → slice_get next.jobs j ≡ Some now
      → (w : WasJob j now) → length now.frames ≡ length w.old.frames
  same_height j now at w =
      sym (ap (λ o. option_map_or (λ (j : Job). length j.frames) o 0) at)
      ∙ changes.heights j
      ∙ ap (λ o. option_map_or (λ (j : Job). length j.frames) o 0) w.there

  -- each frame has a colour for its `Here` as before
  pub heres_inside : (colours after : Colours) → after.heres ≡ colours.heres
      → HeresFit state colours → HeresFit next after
  heres_inside colours after same fit = record {
    jobs = ap (λ (l : List (List Colour)). length l) same ∙ fit.jobs ∙ sym count;
    frames = λ j now row at has.
        let w = was_job j now at in
        fit.frames j w.old row w.there
        (ap (λ (l : List (List Colour)). slice_get l j) (sym same) ∙ has)
        ∙ sym (same_height j now at w);
  }

  -- a frame after the step, and what it was
  pub record WasFrame (p : Spot) (now : Frame) : Type 0 where
    pub old : Frame
    pub there : frame_at state p ≡ Some old
    pub function : now.function ≡ old.function
    pub result : now.result ≡ old.result

  pub was_frame : (p : Spot) (now : Frame) → frame_at next p ≡ Some now → WasFrame p now
  was_frame p now at = elim (cases_frame p q) [
    | inr differ ↦ record {
      old = now;
      there = sym (changes.others p differ) ∙ at;
      function = refl;
      result = refl;
    }
    | inl same ↦
        let is : turn_of e f ≡ now =
        some_injective (sym changes.now ∙ ap (frame_at next) (sym same) ∙ at) in
        record {
          old = f;
          there = ap (frame_at state) same ∙ changes.was;
          function = ap (λ (g : Frame). g.function) (sym is) ∙ changes.call.function;
          result = ap (λ (g : Frame). g.result) (sym is) ∙ changes.call.result;
        }
  ]

  frame_in : (s : State) (j i : ℕ) (o : Job) → slice_get s.jobs j ≡ Some o
      → frame_at s (record { job = j; depth = i }) ≡ slice_get o.frames i
  frame_in s j i o there = ap (option_and_then (λ (k : Job). slice_get k.frames i)) there

  -- what waits waited before, if the job doesn't begin to wait
  pub waits_inside : (gives more : List Ty) → awaited_in job.status ≡ None
      → waits_on_job e ≡ false
      → ((on : ℕ) (result : Ty) (j r : ℕ) (o : Job) → slice_get state.jobs j ≡ Some o
      → o.status ≡ Waiting on r → slice_get more on ≡ Some result
      → slice_get gives on ≡ Some result)
      → WaitsFit graph gives state → WaitsFit graph more next
  waits_inside gives more idle no_wait back fit = record {
    selves = λ j i r now frame function at here is self awaits.
        let w = was_job j now at in
        let p : Spot = record { job = j; depth = i } in
        let old = was_frame p frame (frame_in next j i now at ∙ here) in
        fit.selves j i r w.old old.old function w.there
        (sym (frame_in state j i w.old w.there) ∙ old.there)
        (ap (slice_get graph.functions) (sym old.function) ∙ is) self
        (awaited j i r now at w (slice_get now.frames (i + 1)) refl awaits);
    results = λ j on r now result at waits is.
        let w = was_job j now at in
        let status = still j now w on r waits in
        fit.results j on r w.old result w.there status
        (back on result j r w.old w.there status is);
  }
    where
      -- the executing job waits for none
      still : (j : ℕ) (now : Job) (w : WasJob j now) (on r : ℕ) → now.status ≡ Waiting on r
          → w.old.status ≡ Waiting on r
      still j now w on r waits = elim w.is [
        | inl same ↦ ap (λ (o : Job). o.status) (sym same) ∙ waits
        | inr (here, is_job, is) ↦
            let none = status_after e inside no_wait w.old
            (ap (λ (o : Job). awaited_in o.status) is_job ∙ idle) in
            let clash : None ≡ Some r =
            sym none ∙ ap (λ (o : Job). awaited_in o.status) (sym is)
            ∙ ap awaited_in waits in
            absurd (let z : ⊥ = cc in z)
      ]

      status_was : (j r : ℕ) (now : Job) (w : WasJob j now) → awaited_in now.status ≡ Some r
          → awaited_in w.old.status ≡ Some r
      status_was j r now w awaits = elim w.is [
        | inl same ↦ ap (λ (o : Job). awaited_in o.status) (sym same) ∙ awaits
        | inr (here, is_job, is) ↦
            let none = status_after e inside no_wait w.old
            (ap (λ (o : Job). awaited_in o.status) is_job ∙ idle) in
            let clash : None ≡ Some r =
            sym none ∙ ap (λ (o : Job). awaited_in o.status) (sym is) ∙ awaits in
            absurd (let z : ⊥ = cc in z)
      ]

      awaited : (j i r : ℕ) (now : Job) → slice_get next.jobs j ≡ Some now
          → (w : WasJob j now) → (o : Option Frame) → slice_get now.frames (i + 1) ≡ o
          → or_above o (awaited_in now.status) ≡ Some r → awaited_at w.old i ≡ Some r
      awaited j i r now at w (Some t) is awaits =
          let p : Spot = record { job = j; depth = i + 1 } in
          let old = was_frame p t (frame_in next j (i + 1) now at ∙ is) in
          ap (λ o. or_above o (awaited_in w.old.status))
          (sym (frame_in state j (i + 1) w.old w.there) ∙ old.there)
          ∙ ap Some (sym old.result) ∙ awaits
      awaited j i r now at w None is awaits =
          by (slice_get w.old.frames (i + 1)) refl
        where
          by : (o : Option Frame) → slice_get w.old.frames (i + 1) ≡ o
              → or_above o (awaited_in w.old.status) ≡ Some r
          by None none = status_was j r now w awaits
          by (Some t) there =
              let low = slice_get_within w.old.frames (i + 1) t there in
              let same = same_height j now at w in
              let found = found_within now.frames (i + 1) (omega (arith, low, same)) in
              let clash : None ≡ Some found.0 = sym is ∙ found.1 in
              absurd (let z : ⊥ = cc in z)
