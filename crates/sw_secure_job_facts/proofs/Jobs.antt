-- A job gets its executor, or goes on with the result of another.
use Rattle.std.proofs.Common.{◌≡◌, ◌≢◌, ◌+◌, ◌-◌, ℕ, suc, IsTrue, Option, Some, None, List, []}
use Rattle.std.proofs.Common.{◌∷◌, ◌++◌, length, Contains, arith}
use Rattle.std.proofs.Common.{refl, sym, ap, ◌∙◌}
use Rattle.std.specs.List.{slice_get}
use Rattle.std.proofs.lemmas.List.{length-append}
use Rattle.std.proofs.lemmas.Option.{slice_get_past, slice_get_within}
use Rattle.sw_types.specs.declared.ty.Ty.{Ty}
use Rattle.sw_graph.specs.declared.function.Function.{Function}
use Rattle.sw_graph.specs.declared.function.RegKind.TheVariants.{Plain}
use Rattle.sw_graph.specs.declared.graph.Graph.{Graph}
use Rattle.sw_graph.specs.Bodies.{has_self}
use Rattle.sw_value.specs.declared.effect.Act.TheVariants.{Dispatch, Wake}
use Rattle.sw_value.specs.declared.frame.Frame.{Frame}
use Rattle.sw_value.specs.declared.job.Job.{Job}
use Rattle.sw_value.specs.declared.job.Status.TheVariants.{Waiting, Ended}
use Rattle.sw_value.specs.declared.state.State.{State}
use Rattle.sw_value.specs.declared.value.Value.{Value}
use Rattle.sw_value.specs.Act.{act_of}
use Rattle.sw_value.specs.Frame.{set_register}
use Rattle.sw_value.specs.Job.{dispatch, ended_with, wake}
use Rattle.sw_value.specs.Reach.{step_of}
use Rattle.sw_value.proofs.ListLemmas.{length-changed_at}
use Rattle.sw_value.proofs.ListLemmas.{slice_get_end}
use Rattle.sw_partition.specs.Regions.{Regions}
use Rattle.sw_machine_kind_facts.specs.Standing.{awaited_at, awaited_in, or_above}
use Rattle.sw_machine_kind_facts.proofs.EffectLemmas.{IsGoing, ended_has, going}
use Rattle.sw_machine_kind_facts.proofs.ItemLemmas.{found_within}
use Rattle.sw_owner_facts.specs.Colours.{Colour}
use Rattle.sw_owner_facts.specs.View.{Frame as Spot}
use Rattle.sw_owner_facts.proofs.WithinLemmas.{dispatched}
use Rattle.sw_reach_facts.specs.Reached.{colours_of}
use Rattle.sw_reach_facts.proofs.FitLemmas.{colours_fit, conformances_hold}
use Rattle.sw_reach_facts.proofs.SendableLemmas.{crosses_nothing}
use Rattle.sw_view_facts.specs.Steps.{TopAt}
use Rattle.sw_view_facts.specs.Views.{Colours, view_at}
use Rattle.sw_view_facts.proofs.DispatchLemmas.{dispatch_is, job_is_dispatched}
use Rattle.sw_view_facts.proofs.TopLemmas.{frame_was}
use Rattle.sw_view_facts.proofs.WakeLemmas.{wake_is, wake_keeps}
use Rattle.sw_secure_facts.specs.Secure.{IsSecure}
use Rattle.sw_secure_job_facts.proofs.Acts.{Wakes, wakes_from}
use Rattle.sw_secure_job_facts.proofs.Changed.{WasFrame, awaited_above, have_changed}
use Rattle.sw_secure_job_facts.proofs.Changed.{heres_changed, memory_changed, turned_frames}
use Rattle.sw_secure_job_facts.proofs.Changed.{waits_changed}
use Rattle.sw_secure_job_facts.proofs.Frames.{function_at, state_at}
use Rattle.sw_secure_job_facts.proofs.Next.{WaitsAs, secure_after}

waits_dispatched : (job : Job) → WaitsAs job (dispatch job)
unfolding dispatch
waits_dispatched job = record {
  frames = λ i r frame at waits. (
    frame,
    at,
    refl,
    awaited_above job.frames (i + 1) r (awaited_in job.status) waits,
  );
  status = λ on r is. cc;
}

-- a job gets its executor
pub dispatches_stay : (graph : Graph) (states : ℕ → List (Option Regions)) (state : State)
    (colours : Colours) (j : ℕ) → IsSecure graph states state colours
    → act_of graph state j ≡ Some Dispatch
    → IsSecure graph states (step_of graph state j) colours
unfolding dispatch
dispatches_stay graph states state colours j s acts =
    let next = step_of graph state j in
    let d = dispatch_is graph state j acts in
    secure_after graph states state colours s j colours
    (have_changed dispatch j state next d.steps d.job d.there graph colours s.coloured.have)
    (dispatched (view_at graph states state colours) (view_at graph states next colours) j
    s.coloured.sound (job_is_dispatched graph states state next j colours d))
    (memory_changed dispatch j state next d.steps d.job d.there graph colours s.memory)
    (heres_changed dispatch j state next d.steps d.job d.there colours refl s.heres)
    (waits_changed dispatch j state next d.steps d.job d.there (waits_dispatched d.job))

-- ---- a job that goes on with the result of another
wake_frames : (r : ℕ) (v : Value) (job : Job) (i : ℕ) (now : Frame)
    → slice_get (wake r v job).frames i ≡ Some now → WasFrame job i now
unfolding wake set_register
wake_frames r v job i now at =
    turned_frames (set_register r v) (λ h. refl) (λ h. refl) job i now at

-- what a frame awaits of the one above, it awaited
waits_woken : (r : ℕ) (v : Value) (job : Job) → WaitsAs job (wake r v job)
unfolding wake
waits_woken r v job = record {
  frames = λ i s frame at waits.
      let old = wake_frames r v job i frame at in (
        old.frame,
        old.there,
        old.function,
        by i s (slice_get (wake r v job).frames (i + 1)) refl
            waits,
      );
  status = λ on s is. cc;
}
  where
    by : (i s : ℕ) (o : Option Frame) → slice_get (wake r v job).frames (i + 1) ≡ o
        → or_above o None ≡ Some s → awaited_at job i ≡ Some s
    by i s None is waits = cc
    by i s (Some t) is waits =
        let old = wake_frames r v job (i + 1) t is in
        ap (λ o. or_above o (awaited_in job.status)) old.there ∙ ap Some old.result ∙ waits

-- the frames of a job that waits
waiting_job : (graph : Graph) (states : ℕ → List (Option Regions)) (state : State)
    (colours : Colours) (s : IsSecure graph states state colours) (j : ℕ) (job : Job)
    → slice_get state.jobs j ≡ Some job → (on r : ℕ) → job.status ≡ Waiting on r
    → (result : Ty) × IsGoing graph s.coloured.kinded.world job result
waiting_job graph states state colours s j job there on r waits =
    let kinded = s.coloured.kinded in
    let count = kinded.fits.job_count in
    let inside = slice_get_within state.jobs j job there in
    let own = found_within kinded.world.results j (omega (arith, inside, count)) in (
      own.0,
      going graph kinded.world job own.0 (kinded.fits.jobs j job own.0 there own.1)
          (λ v ended. let clash : Waiting on r ≡ Ended v = sym waits ∙ ended in
          let w : ⊥ = cc in w),
    )

module _ (graph : Graph) (states : ℕ → List (Option Regions)) (state : State) (colours : Colours)
    (s : IsSecure graph states state colours) (j ended r : ℕ) (v : Value)
    (w : Wakes state j ended r v) where
  top : (result : Ty) × IsGoing graph s.coloured.kinded.world w.job result
  top = waiting_job graph states state colours s j w.job w.there ended r w.waited

  abbrev f : Frame
  f = top.1.top

  abbrev q : Spot
  q = record { job = j; depth = length top.1.below }

  top_at : TopAt state q w.job f
  top_at = record {
    there = w.there;
    top = ap (λ l. slice_get l (length top.1.below)) top.1.are ∙ slice_get_end top.1.below f;
    height = ap length top.1.are
        ∙ (let e = length-append top.1.below (f ∷ []) in
        let h : length (top.1.below ++ f ∷ []) ≡ suc (length top.1.below) = omega (arith, e) in h);
  }

  -- it waits in no register of its own `self`
  not_self : (function : Function) → slice_get graph.functions f.function ≡ Some function
      → IsTrue (has_self function) → r ≢ 0
  not_self function is self =
      s.waits.selves j (length top.1.below) r w.job f function w.there top_at.top is self
      (ap (λ o. or_above o (awaited_in w.job.status)) above ∙ ap awaited_in w.waited)
    where
      above : slice_get w.job.frames (length top.1.below + 1) ≡ None
      above = slice_get_past w.job.frames (length top.1.below + 1)
          (let h = top_at.height in omega (arith, h))

  -- and the result reaches no colour
  bare : (c : Colour) → Contains (colours_of state.cells colours.cells v) c → ⊥
  bare c =
      let kinded = s.coloured.kinded in
      let count = kinded.fits.job_count in
      let inside = slice_get_within state.jobs ended w.other w.other_there in
      let own = found_within kinded.world.results ended (omega (arith, inside, count)) in
      crosses_nothing graph (conformances_hold graph s.coloured.clean) kinded.world state.cells
      colours.cells
      (colours_fit graph s.coloured.clean state kinded colours.cells s.coloured.have) v (Plain
      own.0)
      (ended_has graph kinded.world w.other own.0 v
      (kinded.fits.jobs ended w.other own.0 w.other_there own.1) (ap ended_with w.over))
      (s.waits.results j ended r w.job own.0 w.there w.waited own.1) c

-- a job goes on with the result of another
pub wakes_stay : (graph : Graph) (states : ℕ → List (Option Regions)) (state : State)
    (colours : Colours) (j ended r : ℕ) (v : Value) → IsSecure graph states state colours
    → act_of graph state j ≡ Some (Wake ended r v)
    → IsSecure graph states (step_of graph state j) colours
unfolding wake
wakes_stay graph states state colours j ended r v s acts =
    let next = step_of graph state j in
    let w = wakes_from graph state j ended r v acts in
    let steps = wake_is graph state j ended r v acts in
    let spot = q graph states state colours s j ended r v w in
    let frame = f graph states state colours s j ended r v w in
    let at = top_at graph states state colours s j ended r v w in
    let there = frame_was state spot w.job frame at in
    let body = function_at graph states state colours s.coloured spot frame there in
    let here = state_at graph states state colours s.coloured spot frame there in
    secure_after graph states state colours s j colours
    (have_changed (wake r v) j state next steps w.job w.there graph colours s.coloured.have)
    (wake_keeps graph states state next spot w.job frame body.0 r v colours here.0 at body.1 steps
    (not_self graph states state colours s j ended r v w body.0 body.1) here.2
    (bare graph states state colours s j ended r v w) s.coloured.sound)
    (memory_changed (wake r v) j state next steps w.job w.there graph colours s.memory)
    (heres_changed (wake r v) j state next steps w.job w.there colours
    (length-changed_at (set_register r v) (length w.job.frames - 1) w.job.frames) s.heres)
    (waits_changed (wake r v) j state next steps w.job w.there (waits_woken r v w.job))
