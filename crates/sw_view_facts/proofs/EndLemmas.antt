-- The return of a job's last frame, as a move of views.
use Rattle.std.specs.Option.{option_and_then, option_map_or}
use Rattle.std.specs.List.{slice_get}
use Rattle.std.proofs.Common.{◌≡◌, ◌≢◌, ◌<◌, ℕ, zero, false, Option, Some, List, [], ◌∷◌, ◌++◌}
use Rattle.std.proofs.Common.{length, refl, sym, subst, ap, ◌∙◌, arith}
use Rattle.sw_graph.specs.declared.graph.Graph.{Graph}
use Rattle.sw_value.specs.declared.frame.Frame.{Frame}
use Rattle.sw_value.specs.declared.job.Job.{Job}
use Rattle.sw_value.specs.declared.state.State.{State}
use Rattle.sw_value.specs.declared.value.Value.{Value}
use Rattle.sw_value.specs.Job.{is_running, leave}
use Rattle.sw_value.specs.State.{in_job}
use Rattle.sw_value.proofs.JobLemmas.{leave_some, return_to_none}
use Rattle.sw_value.proofs.ListLemmas.{changed_at_found}
use Rattle.sw_partition.specs.Regions.{Regions}
use Rattle.sw_machine_kind_facts.proofs.ItemLemmas.{changed_other}
use Rattle.sw_owner_facts.specs.Calls.{JobEnded}
use Rattle.sw_owner_facts.specs.View.{IsFrame, bottom, Frame as Spot}
use Rattle.sw_owner_facts.specs.Within.{Kept}
use Rattle.sw_reach_facts.specs.Reached.{colours_of}
use Rattle.sw_view_facts.specs.Steps.{TopAt, height_in}
use Rattle.sw_view_facts.specs.Views.{Colours, annotated, here_at, state_with, view_of, frame_at}
use Rattle.sw_view_facts.proofs.KeptLemmas.{kept_as_is}
use Rattle.sw_view_facts.proofs.TopLemmas.{ends_with}

module _ (graph : Graph) (states : ℕ → List (Option Regions)) (state next : State) (j : ℕ)
    (job : Job) (t : Frame) (v : Value) (colours after : Colours)
    (top : TopAt state (bottom j) job t) (steps : next ≡ in_job (leave v) j state)
    (cells : after.cells ≡ colours.cells)
    (heres : (p : Spot) → p.job ≢ j → here_at after p ≡ here_at colours p) where
  abbrev later : State
  later = in_job (leave v) j state

  job_now : slice_get later.jobs j ≡ Some (leave v job)
  unfolding in_job
  job_now = changed_at_found (leave v) j state.jobs job top.there

  job_other : (i : ℕ) → (i ≡ j → ⊥) → slice_get later.jobs i ≡ slice_get state.jobs i
  unfolding in_job
  job_other i differ = changed_other (leave v) j i state.jobs differ

  alone : (rest : List Frame) → length rest ≡ zero → rest ≡ []
  alone [] is = refl
  alone (f ∷ fs) is = absurd (omega (arith, is))

  no_frames : (leave v job).frames ≡ []
  no_frames =
      let split = ends_with job.frames zero t top.top top.height in
      let left = split.1 ∙ ap (λ l. l ++ t ∷ []) (alone split.0 split.2) in
      ap (λ (j : Job). j.frames)
      (leave_some v job [] t left ∙ return_to_none [] t v job.status refl)

  height_now : height_in later j ≡ 0
  height_now = ap (λ o. option_map_or (λ (j : Job). length j.frames) o 0) job_now
      ∙ ap length no_frames

  kept : (p : Spot) → IsFrame (view_of graph (annotated states later) later after) p
      → Kept (view_of graph (annotated states state) state colours)
      (view_of graph (annotated states later) later after) p
  unfolding in_job
  kept p is =
      kept_as_is graph (annotated states state) (annotated states later) state later colours after p
      (λ d. same d)
      (λ inside. subst (λ n. p.depth < n) (ap (λ o. option_map_or
      (λ (j : Job). length j.frames) o 0) (job_other p.job apart)) inside)
      (heres p apart) (ap (state_with states) (same p.depth))
      (λ s h r w there has. ap (λ cs. colours_of state.cells cs w) cells)
    where
      apart : p.job ≡ j → ⊥
      apart e =
          let none = ap (height_in later) e ∙ height_now in omega (arith, is, none)

      same : (d : ℕ) → frame_at later (record { job = p.job; depth = d })
          ≡ frame_at state (record { job = p.job; depth = d })
      same d = ap (option_and_then (λ (j : Job). slice_get j.frames d)) (job_other p.job apart)

  pub job_ends : JobEnded (view_of graph (annotated states state) state colours)
      (view_of graph (annotated states next) next after) j
  job_ends =
      subst (λ s. JobEnded (view_of graph (annotated states state) state colours)
      (view_of graph (annotated states s) s after) j) (sym steps) (record {
        height = height_now;
        heights = λ i differ. ap (λ o. option_map_or (λ (j : Job). length j.frames) o 0)
            (job_other i differ);
        running = λ i differ run. sym (ap (λ o. option_map_or is_running o false)
            (job_other i differ)) ∙ run;
        others = kept;
      })
