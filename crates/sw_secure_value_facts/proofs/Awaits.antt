-- A job that waits for the result of another, which may cross, and not in the register of its own
-- `self`.
use Rattle.std.proofs.Common.{◌≡◌, ◌≢◌, ◌+◌, ◌<◌, ◌≤◌, ℕ, true, IsTrue, Option, Some, None}
use Rattle.std.proofs.Common.{List, length, refl, sym, subst, ap, ◌∙◌, arith, inl, inr}
use Rattle.std.specs.Option.{option_and_then}
use Rattle.std.specs.List.{slice_get}
use Rattle.std.proofs.lemmas.Bool.{cases_lt}
use Rattle.std.proofs.lemmas.Option.{slice_get_within}
use Rattle.sw_list.proofs.ListLemmas.{some_injective}
use Rattle.sw_types.specs.declared.ty.Ty.{Ty}
use Rattle.sw_graph.specs.declared.function.Function.{Function}
use Rattle.sw_graph.specs.declared.graph.Graph.{Graph}
use Rattle.sw_graph.specs.Bodies.{has_self}
use Rattle.sw_graph.specs.Clean.{may_cross}
use Rattle.sw_value.specs.declared.effect.Effect.TheVariants.{Wait}
use Rattle.sw_value.specs.declared.frame.Frame.{Frame}
use Rattle.sw_value.specs.declared.job.Job.{Job}
use Rattle.sw_value.specs.declared.job.Status.TheVariants.{Waiting}
use Rattle.sw_value.specs.declared.state.State.{State}
use Rattle.sw_value.specs.Job.{wait}
use Rattle.sw_value.specs.Reach.{after_effect}
use Rattle.sw_machine_kind_facts.specs.Standing.{awaited_at, awaited_in, or_above}
use Rattle.sw_machine_kind_facts.proofs.ItemLemmas.{found_within}
use Rattle.sw_owner_facts.specs.View.{Frame as Spot}
use Rattle.sw_owner_facts.proofs.FrameLemmas.{same_frame}
use Rattle.sw_view_facts.specs.Effects.{job_of}
use Rattle.sw_view_facts.specs.Steps.{TopAt}
use Rattle.sw_view_facts.specs.Views.{frame_at}
use Rattle.sw_view_facts.proofs.TopLemmas.{frame_was}
use Rattle.sw_secure_facts.specs.Secure.{WaitsFit}
use Rattle.sw_secure_facts.proofs.Staying.{WasJob, same_height, was_frame, was_job}

same_wait : (on r at s : ℕ) → Waiting on r ≡ Waiting at s → (on ≡ at) × (r ≡ s)
same_wait on r at s is = (cc, cc)

module _ (graph : Graph) (state : State) (q : Spot) (job : Job) (f : Frame)
    (top : TopAt state q job f) (function : Function)
    (function_is : slice_get graph.functions f.function ≡ Some function) (on r next : ℕ)
    (gives more : List Ty)
    (back : (on : ℕ) (result : Ty) (j r : ℕ) (o : Job) → slice_get state.jobs j ≡ Some o
    → o.status ≡ Waiting on r → slice_get more on ≡ Some result → slice_get gives on ≡ Some result)
    (not_self : IsTrue (has_self function) → r ≢ 0)
    (crosses : (result : Ty) → slice_get more on ≡ Some result → may_cross graph result ≡ true)
    (fit : WaitsFit graph gives state) where
  abbrev later : State
  later = after_effect q.job (Wait on r next) state

  abbrev Was : ℕ → Job → Type 0
  Was j now = WasJob graph state q job f top (Wait on r next) refl j now

  frame_in : (t : State) (j i : ℕ) (o : Job) → slice_get t.jobs j ≡ Some o
      → frame_at t (record { job = j; depth = i }) ≡ slice_get o.frames i
  frame_in t j i o there = ap (option_and_then (λ (k : Job). slice_get k.frames i)) there

  waits_now : (o : Job) → (job_of (Wait on r next) o).status ≡ Waiting on r
  unfolding wait
  waits_now o = refl

  results : (j at s : ℕ) (now : Job) (result : Ty) → slice_get later.jobs j ≡ Some now
      → now.status ≡ Waiting at s → slice_get more at ≡ Some result
      → may_cross graph result ≡ true
  results j at s now result there waits is =
      let w = was_job graph state q job f top (Wait on r next) refl j now there in
      elim w.is [
        | inl same ↦
            let status = ap (λ (o : Job). o.status) (sym same) ∙ waits in
            fit.results j at s w.old result w.there status
            (back at result j s w.old w.there status is)
        | inr (here, is_job, changed) ↦
            let same = same_wait on r at s (sym (waits_now w.old)
            ∙ ap (λ (o : Job). o.status) (sym changed) ∙ waits) in
            crosses result (ap (slice_get more) same.0 ∙ is)
      ]

  -- the frame that waits is the top one, and no other waits anew
  selves : (j i s : ℕ) (now : Job) (frame : Frame) (own : Function)
      → slice_get later.jobs j ≡ Some now → slice_get now.frames i ≡ Some frame
      → slice_get graph.functions frame.function ≡ Some own → IsTrue (has_self own)
      → awaited_at now i ≡ Some s → s ≢ 0
  selves j i s now frame own at here is self awaits =
      by (slice_get now.frames (i + 1)) refl awaits
    where
      p : Spot
      p = record { job = j; depth = i }

      w : Was j now
      w = was_job graph state q job f top (Wait on r next) refl j now at

      old_frame : (t : Frame) × (frame_at state p ≡ Some t) × (frame.function ≡ t.function)
      old_frame =
          let was = was_frame graph state q job f top (Wait on r next) refl p frame
          (frame_in later j i now at ∙ here) in
          (was.old, was.there, was.function)

      before : awaited_at w.old i ≡ Some s → s ≢ 0
      before awaited = fit.selves j i s w.old old_frame.0 own w.there
          (sym (frame_in state j i w.old w.there) ∙ old_frame.1)
          (ap (slice_get graph.functions) (sym old_frame.2) ∙ is) self awaited

      -- a frame above another in the next state is one now
      none_above : slice_get now.frames (i + 1) ≡ None → slice_get w.old.frames (i + 1) ≡ None
      none_above none = look (slice_get w.old.frames (i + 1)) refl where
        look : (o : Option Frame) → slice_get w.old.frames (i + 1) ≡ o
            → slice_get w.old.frames (i + 1) ≡ None
        look None there = there
        look (Some t) there =
            let low = slice_get_within w.old.frames (i + 1) t there in
            let same = same_height graph state q job f top (Wait on r next) refl j now at w in
            let found = found_within now.frames (i + 1) (omega (arith, low, same)) in
            let clash : None ≡ Some found.0 = sym none ∙ found.1 in
            absurd (let z : ⊥ = cc in z)

      top_waits : slice_get now.frames (i + 1) ≡ None → j ≡ q.job → w.old ≡ job → s ≡ r → s ≢ 0
      top_waits none at_job is_job same = subst (λ k. k ≢ 0) (sym same)
          (not_self (subst (λ (b : Function). IsTrue (has_self b)) function_same self))
        where
          last : length now.frames ≤ i + 1
          last = elim (cases_lt (i + 1) (length now.frames)) [
            | inr past ↦ past
            | inl inside ↦
                let found = found_within now.frames (i + 1) inside in
                let clash : None ≡ Some found.0 = sym none ∙ found.1 in
                absurd (let z : ⊥ = cc in z)
          ]

          depth : i ≡ q.depth
          depth =
              let within : i < length now.frames = slice_get_within now.frames i frame here in
              let height = same_height graph state q job f top (Wait on r next) refl j now at w in
              let size = ap (λ (o : Job). length o.frames) is_job in
              let ends = top.height in
              omega (arith, within, height, size, ends, last)

          frame_same : old_frame.0 ≡ f
          frame_same = some_injective (sym old_frame.1
              ∙ ap (frame_at state) (same_frame {p = p} {q = q} at_job depth)
              ∙ frame_was state q job f top)

          function_same : own ≡ function
          function_same = some_injective (sym is
              ∙ ap (slice_get graph.functions)
              (old_frame.2 ∙ ap (λ (t : Frame). t.function) frame_same)
              ∙ function_is)

      by : (o : Option Frame) → slice_get now.frames (i + 1) ≡ o
          → or_above o (awaited_in now.status) ≡ Some s → s ≢ 0
      by (Some t) above awaits =
          let was = was_frame graph state q job f top (Wait on r next) refl
          (record { job = j; depth = i + 1 }) t (frame_in later j (i + 1) now at ∙ above) in
          before (ap (λ o. or_above o (awaited_in w.old.status))
          (sym (frame_in state j (i + 1) w.old w.there) ∙ was.there)
          ∙ ap Some (sym was.result) ∙ awaits)
      by None none awaits = elim w.is [
        | inl same ↦ before (ap (λ o. or_above o (awaited_in w.old.status)) (none_above none)
            ∙ ap (λ (o : Job). awaited_in o.status) (sym same) ∙ awaits)
        | inr (here, is_job, changed) ↦ top_waits none here is_job
            (some_injective (sym awaits ∙ ap (λ (o : Job). awaited_in o.status) changed
            ∙ ap awaited_in (waits_now w.old)))
      ]

  pub waits_anew : WaitsFit graph more later
  waits_anew = record { selves = selves; results = results }
