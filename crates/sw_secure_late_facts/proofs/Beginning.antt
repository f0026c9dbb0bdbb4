-- Frames that begin, in the state after the step by which they do.
use Rattle.std.proofs.Common.{◌≡◌, ◌-◌, ℕ, zero, suc, Some, List, [], ◌∷◌, ◌++◌, length, refl, sym}
use Rattle.std.proofs.Common.{subst, ap}
use Rattle.std.proofs.Common.{◌∙◌, arith, inl, inr}
use Rattle.std.specs.Option.{option_and_then}
use Rattle.std.specs.List.{slice_get}
use Rattle.std.proofs.lemmas.Option.{slice_get_within}
use Rattle.sw_graph.specs.declared.function.Function.{Function}
use Rattle.sw_graph.specs.declared.graph.Graph.{Graph}
use Rattle.sw_graph.specs.Points.{Point}
use Rattle.sw_value.specs.declared.cell.HeapCell.TheVariants.{Actor, TaskOf}
use Rattle.sw_value.specs.declared.effect.Effect.TheVariants.{Enter, Spawn}
use Rattle.sw_value.specs.declared.frame.Frame.{Frame}
use Rattle.sw_value.specs.declared.job.Job.{Job}
use Rattle.sw_value.specs.declared.state.State.{State}
use Rattle.sw_value.specs.Effect.{point_effect}
use Rattle.sw_value.specs.Frame.{go_on}
use Rattle.sw_value.specs.Job.{enter, new_job}
use Rattle.sw_value.specs.Lists.{changed_at}
use Rattle.sw_value.specs.Reach.{after_effect, step_of}
use Rattle.sw_value.specs.State.{add_cell, add_job, in_job}
use Rattle.sw_value.proofs.ListLemmas.{changed_at_found, length-changed_at, slice_get_end}
use Rattle.sw_machine_access_facts.proofs.CellLemmas.{changed_other}
use Rattle.sw_machine_kind_facts.proofs.ItemLemmas.{at_end}
use Rattle.sw_owner_facts.specs.Colours.{Actor as Owner, GlobalActor, Instance}
use Rattle.sw_owner_facts.specs.View.{Frame as Spot, above, bottom}
use Rattle.sw_view_facts.specs.Standing.{StandsAt}
use Rattle.sw_view_facts.specs.Views.{frame_at}
use Rattle.sw_view_facts.proofs.EffectLemmas.{step_is}
use Rattle.sw_secure_late_facts.proofs.Anchors.{IsActorCell, IsKnown}

module _ (graph : Graph) (state : State) (q : Spot) (job : Job) (f : Frame) (function : Function)
    (point : Point) (stands : StandsAt graph state q job f function point) where
  module _ (frame : Frame) (next : ℕ)
      (gives : point_effect graph state (length job.frames) f point ≡ Enter frame next) where
    entered : step_of graph state q.job ≡ after_effect q.job (Enter frame next) state
    entered = step_is graph state q job f function point (Enter frame next) stands gives refl

    pub entered_there : frame_at (step_of graph state q.job) (above q) ≡ Some frame
    unfolding in_job enter
    entered_there =
        ap (λ s. frame_at s (above q)) entered
        ∙ ap (option_and_then (λ (j : Job). slice_get j.frames (suc q.depth)))
        (changed_at_found (enter frame next) q.job state.jobs job stands.top.there)
        ∙ ap (slice_get (lower ++ frame ∷ []))
        (let last : suc q.depth ≡ length lower = sym (count ∙ stands.top.height) in last)
        ∙ slice_get_end lower frame
      where
        lower : List Frame
        lower = changed_at (go_on next) (length job.frames - 1) job.frames

        count : length lower ≡ length job.frames
        count = length-changed_at (go_on next) (length job.frames - 1) job.frames

    pub known_before : (a : Owner) → IsKnown graph (step_of graph state q.job) a → IsKnown graph
        state a
    unfolding in_job
    known_before (Instance c) known = subst (λ (s : State). IsActorCell s.cells c) entered known
    known_before (GlobalActor g) known = known

  module _ (r : ℕ) (frame : Frame) (cell next : ℕ)
      (gives : point_effect graph state (length job.frames) f point
      ≡ Spawn r frame (length state.jobs) cell next) where
    abbrev made : ℕ
    made = length state.jobs

    spawned : step_of graph state q.job ≡ after_effect q.job (Spawn r frame made cell next) state
    spawned = step_is graph state q job f function point (Spawn r frame made cell next) stands gives
        refl

    pub spawned_there : frame_at (step_of graph state q.job) (bottom made) ≡ Some frame
    unfolding in_job add_job add_cell new_job
    spawned_there =
        ap (λ s. frame_at s (bottom made)) spawned
        ∙ ap (option_and_then (λ (j : Job). slice_get j.frames zero))
        (changed_other _ q.job made (state.jobs ++ new_job (frame ∷ []) ∷ [])
        (λ e. absurd (let inside = slice_get_within state.jobs q.job job stands.top.there in
        omega (arith, e, inside)))
        ∙ slice_get_end state.jobs (new_job (frame ∷ [])))

    old_cell : (c : ℕ) → IsActorCell (state.cells ++ TaskOf made ∷ []) c → IsActorCell state.cells c
    old_cell c (k, parts, at) = elim (at_end state.cells (TaskOf made) (Actor k parts) c at) [
      | inl old ↦ (k, parts, old)
      | inr new ↦ absurd (let wrong = new.1 in let clash : ⊥ = cc in clash)
    ]

    pub spawned_before : (a : Owner) → IsKnown graph (step_of graph state q.job) a
        → IsKnown graph state a
    unfolding in_job add_job add_cell
    spawned_before (Instance c) known =
        old_cell c (subst (λ (s : State). IsActorCell s.cells c) spawned known)
    spawned_before (GlobalActor g) known = known
