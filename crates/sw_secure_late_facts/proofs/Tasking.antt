-- What the plan of a task comes to by hue, in a late state that is secure.
use Rattle.std.proofs.Common.{ℕ, Option, List, length, sym, subst, ap, ◌∙◌}
use Rattle.sw_graph.specs.declared.function.Function.{Function}
use Rattle.sw_graph.specs.declared.graph.Graph.{Graph}
use Rattle.sw_graph.specs.Points.{Point}
use Rattle.sw_value.specs.declared.effect.Effect.TheVariants.{Spawn}
use Rattle.sw_value.specs.declared.frame.Frame.{Frame}
use Rattle.sw_value.specs.declared.job.Job.{Job}
use Rattle.sw_value.specs.Effect.{point_effect}
use Rattle.sw_value.specs.Reach.{step_of}
use Rattle.sw_color_rules.specs.Plans.{next_color}
use Rattle.sw_partition.specs.Regions.{Regions}
use Rattle.sw_owner_facts.specs.View.{Frame as Spot, bottom}
use Rattle.sw_view_facts.specs.Standing.{StandsAt}
use Rattle.sw_view_facts.specs.Views.{Colours}
use Rattle.sw_late_facts.specs.Late.{Late}
use Rattle.sw_secure_facts.specs.Executing.{Executing}
use Rattle.sw_secure_facts.specs.Painting.{PaintsTask, made_by}
use Rattle.sw_secure_facts.specs.Secure.{IsSecure}
use Rattle.sw_secure_job_facts.proofs.Begun.{begun_from}
use Rattle.sw_secure_job_facts.proofs.Effects.{SpawnsBy, spawns_from}
use Rattle.sw_secure_job_facts.proofs.Making.{MakesTask}
use Rattle.sw_secure_job_facts.proofs.Tasks.{tasks_paint, tasks_stay}
use Rattle.sw_hue_facts.specs.Hued.{hued}
use Rattle.sw_secure_late_facts.specs.LateSecure.{IsLateSecure}
use Rattle.sw_secure_late_facts.proofs.Anchors.{actor_known}
use Rattle.sw_secure_late_facts.proofs.Beginning.{spawned_before, spawned_there}
use Rattle.sw_secure_late_facts.proofs.Begun.{HasNumber}
use Rattle.sw_secure_late_facts.proofs.Knowing.{executing, shows}
use Rattle.sw_secure_late_facts.proofs.Owning.{has_number}
use Rattle.sw_secure_late_facts.proofs.Plans.{Gives, HasPaint}
use Rattle.sw_secure_late_facts.proofs.Tasks.{task_paints}

module _ (graph : Graph) (states : ℕ → List (Option Regions)) (late : Late)
    (s : IsLateSecure graph states late) (q : Spot) (job : Job) (f : Frame) (function : Function)
    (point : Point) (stands : StandsAt graph late.state q job f function point) (r : ℕ)
    (frame : Frame) (cell next : ℕ) where
  abbrev colours : Colours
  colours = hued late.colors

  abbrev number : ℕ
  number = next_color late.colors

  -- where the task has the next job's number
  module _ (gives : Gives graph states late s q job f function point stands
      (Spawn r frame (length late.state.jobs) cell next)) where
    abbrev made : ℕ
    made = length late.state.jobs

    known : Executing graph states late.state colours q number job f function point
        (Spawn r frame made cell next)
    known = executing graph states late s q job f function point stands
        (Spawn r frame made cell next)
        gives

    from : SpawnsBy graph late.state (length job.frames) f point r frame made cell next
    from = spawns_from graph late.state (length job.frames) f point r frame made cell next gives

    makes : MakesTask graph states late.state colours q job f function r frame
    makes = record {
      secure = s.secure;
      at = from.at;
      number = from.number;
      captures = from.captures;
      stands = subst (StandsAt graph late.state q job f function) from.is stands;
      values = from.values;
      have = from.have;
      begun = begun_from graph from.number from.values frame from.first;
      gives = ap (point_effect graph late.state (length job.frames) f) (sym from.is) ∙ gives
          ∙ (λ i. Spawn r frame (from.made_is i) (from.cell_is i) (from.next_is i));
    }

    -- some colours that the step may lead to
    some : (after : Colours) × PaintsTask late.state colours q.job made number f frame
        (made_by graph colours q.job number point (Spawn r frame made cell next)) after
    some = tasks_paint graph states late.state colours q number job f function point r frame made
        cell
        next known

    after_secure : IsSecure graph states (step_of graph late.state q.job) some.0
    after_secure = tasks_stay graph states late.state colours q number job f function point r frame
        made
        cell next known some.0 some.1

    has : HasNumber late.colors frame.executor
    has = has_number graph states late s frame.executor (λ a on.
        spawned_before graph late.state q job f function point stands r frame cell next gives a
        (actor_known graph states (step_of graph late.state q.job) some.0 after_secure (bottom made)
        frame (spawned_there graph late.state q job f function point stands r frame cell next gives)
        a
        on))

    paints_here : HasPaint graph states late s q job f function point stands
        (Spawn r frame made cell next)
    paints_here = task_paints graph states late.state late.colors q job f function r frame makes
        (shows graph states late s q job f function point stands) s.tints s.secure.memory.earlier
        has

  pub tasks_paint_late : (made : ℕ) → Gives graph states late s q job f function point stands
      (Spawn r frame made cell next)
      → HasPaint graph states late s q job f function point stands (Spawn r frame made cell next)
  tasks_paint_late made gives =
      subst (λ k. HasPaint graph states late s q job f function point stands
      (Spawn r frame k cell next))
      (sym from.made_is)
      (paints_here (gives ∙ ap (λ k. Spawn r frame k cell next) from.made_is))
    where
      from : SpawnsBy graph late.state (length job.frames) f point r frame made cell next
      from = spawns_from graph late.state (length job.frames) f point r frame made cell next gives
