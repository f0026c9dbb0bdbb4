-- Where memory is owned, two running jobs have no colour in common in their top frames.
use Rattle.std.proofs.Common.{◌≡◌, ◌-◌, ℕ, true, false, ◌&&◌, Option, Some, List, length}
use Rattle.std.proofs.Common.{refl, sym, subst, ap, ◌∙◌, inl, inr, arith}
use Rattle.std.specs.Prelude.{option_and_then}
use Rattle.std.specs.Option.{option_map_or}
use Rattle.std.specs.List.{slice_get}
use Rattle.std.proofs.lemmas.Bool.{eq-eqb}
use Rattle.sw_graph.specs.declared.graph.Graph.{Graph}
use Rattle.sw_value.specs.declared.executor.Executor.{Executor}
use Rattle.sw_value.specs.declared.executor.Executor.TheVariants as executor
use Rattle.sw_value.specs.declared.frame.Frame.{Frame}
use Rattle.sw_value.specs.declared.job.Job.{Job}
use Rattle.sw_value.specs.declared.state.State.{State}
use Rattle.sw_value.specs.Busy.{is_exclusive}
use Rattle.sw_value.specs.Executor.{is_same}
use Rattle.sw_value.specs.Job.{runs_on, top_frame}
use Rattle.sw_color_rules.specs.declared.colored.Colored.{Colored}
use Rattle.sw_color_rules.specs.declared.colors.Owner.{Owner}
use Rattle.sw_color_rules.specs.declared.colors.Owner.TheVariants as owner
use Rattle.sw_partition.specs.Regions.{Regions}
use Rattle.sw_owner_facts.specs.View.{Element, Frame as Spot}
use Rattle.sw_view_facts.specs.Views.{frame_at}
use Rattle.sw_owned_facts.specs.Holding.{HasLive, IsRunning}
use Rattle.sw_owned_facts.specs.Owned.{IsOwnColour, Owned, owner_on}

same_itself : (e : Executor) → is_same e e ≡ true
same_itself executor.Generic = refl
same_itself (executor.ActorOf c) = eq-eqb c c refl
same_itself (executor.Global g) = eq-eqb g g refl

-- an executor that is an actor
actor_exclusive : (e : Executor) (a : Owner) → owner_on e ≡ Some a → is_exclusive e ≡ true
actor_exclusive executor.Generic a is = cc
actor_exclusive (executor.ActorOf c) a is = refl
actor_exclusive (executor.Global g) a is = refl

no_job : (e : Executor) (j : ℕ) → owner_on e ≡ Some (owner.Job j) → ⊥
no_job executor.Generic j is = cc
no_job (executor.ActorOf c) j is = cc
no_job (executor.Global g) j is = cc

one_executor : (e o : Executor) (a : Owner) → owner_on e ≡ Some a → owner_on o ≡ Some a → e ≡ o
one_executor executor.Generic o a is also = cc
one_executor e executor.Generic a is also = cc
one_executor (executor.ActorOf c) (executor.ActorOf d) a is also = cc
one_executor (executor.Global g) (executor.Global h) a is also = cc
one_executor (executor.ActorOf c) (executor.Global h) a is also = cc
one_executor (executor.Global g) (executor.ActorOf d) a is also = cc

-- a job runs on the executor of its top frame
runs_top : (state : State) (p : Spot) (frame : Frame) (top : IsRunning state p)
    → frame_at state p ≡ Some frame → runs_on frame.executor top.job ≡ true
unfolding runs_on top_frame
runs_top state p frame top there =
    ap (λ b. b && option_map_or (λ (f : Frame). is_same f.executor frame.executor)
    (slice_get top.job.frames (length top.job.frames - 1)) false) top.running
    ∙ ap (λ o. option_map_or (λ (f : Frame). is_same f.executor frame.executor) o false)
    (ap (slice_get top.job.frames) (let high = top.top in
    let last : length top.job.frames - 1 ≡ p.depth = omega (arith, high) in last)
    ∙ sym (ap (option_and_then (λ (job : Job). slice_get job.frames p.depth)) top.there) ∙ there)
    ∙ same_itself frame.executor

pub one_job : (graph : Graph) (states : ℕ → List (Option Regions)) (colored : Colored)
    → Owned graph states colored → (p q : Spot) (x y : Element) (colour : ℕ)
    → IsRunning colored.state p → IsRunning colored.state q
    → HasLive graph states colored p x colour → HasLive graph states colored q y colour
    → p.job ≡ q.job
one_job graph states colored owned p q x y colour p_runs q_runs one other =
    by (owned.owned p x colour one) (owned.owned q y colour other) where
      by : IsOwnColour colored p one.frame.executor colour
          → IsOwnColour colored q other.frame.executor colour → p.job ≡ q.job
      by (inl is) (inl also) =
          let both : Some (owner.Job p.job) ≡ Some (owner.Job q.job) = sym is ∙ also in cc
      by (inl is) (inr (a, also, on, here)) =
          absurd (no_job other.frame.executor p.job (on ∙ sym also ∙ is))
      by (inr (a, is, on, here)) (inl also) =
          absurd (no_job one.frame.executor q.job (on ∙ sym is ∙ also))
      by (inr (a, is, on, here)) (inr (b, also, stands, too)) =
          owned.exclusive p.job q.job p_runs.job q_runs.job one.frame.executor
          (actor_exclusive one.frame.executor a on) p_runs.there q_runs.there
          (runs_top colored.state p one.frame p_runs one.there)
          (subst (λ e. runs_on e q_runs.job ≡ true)
          (one_executor other.frame.executor one.frame.executor a
          (stands ∙ sym also ∙ is) on)
          (runs_top colored.state q other.frame q_runs other.there))
