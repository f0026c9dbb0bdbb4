-- A step that makes a task: it keeps the state secure, and there are colours that it leads to.
use Rattle.std.proofs.Common.{ℕ, Option, None, List, length, sym, subst}
use Rattle.std.proofs.Common.{ap, ◌∙◌}
use Rattle.sw_graph.specs.declared.function.Function.{Function}
use Rattle.sw_graph.specs.declared.graph.Graph.{Graph}
use Rattle.sw_graph.specs.Points.{Point}
use Rattle.sw_value.specs.declared.effect.Effect.TheVariants.{Spawn}
use Rattle.sw_value.specs.declared.frame.Frame.{Frame}
use Rattle.sw_value.specs.declared.job.Job.{Job}
use Rattle.sw_value.specs.declared.state.State.{State}
use Rattle.sw_value.specs.Effect.{point_effect}
use Rattle.sw_partition.specs.Regions.{Regions}
use Rattle.sw_owner_facts.specs.View.{Frame as Spot}
use Rattle.sw_view_facts.specs.Memory.{coloured_more}
use Rattle.sw_view_facts.specs.Standing.{StandsAt}
use Rattle.sw_view_facts.specs.Views.{Colours}
use Rattle.sw_secure_facts.specs.Executing.{Executing, StaysSecure}
use Rattle.sw_secure_facts.specs.Painting.{PaintsTask, actor_on, begun_here, made_by, with_job}
use Rattle.sw_secure_job_facts.proofs.Begun.{begun_from}
use Rattle.sw_secure_job_facts.proofs.Effects.{SpawnsBy, spawns_from}
use Rattle.sw_secure_job_facts.proofs.Making.{MakesTask}
use Rattle.sw_secure_job_facts.proofs.TaskPaints.{task_paints}
use Rattle.sw_secure_job_facts.proofs.TaskStays.{task_stays}

module _ (graph : Graph) (states : ℕ → List (Option Regions)) (state : State) (colours : Colours)
    (q : Spot) (number : ℕ) (job : Job) (f : Frame) (function : Function) (point : Point) (r : ℕ)
    (frame : Frame) (made cell next : ℕ)
    (x : Executing graph states state colours q number job f function point
    (Spawn r frame made cell next)) where
  pub from : SpawnsBy graph state (length job.frames) f point r frame made cell next
  from = spawns_from graph state (length job.frames) f point r frame made cell next x.gives

  pub makes : MakesTask graph states state colours q job f function r frame
  makes = record {
    secure = x.secure;
    at = from.at;
    number = from.number;
    captures = from.captures;
    stands = subst (StandsAt graph state q job f function) from.is x.stands;
    values = from.values;
    have = from.have;
    begun = begun_from graph from.number from.values frame from.first;
    gives = ap (point_effect graph state (length job.frames) f) (sym from.is) ∙ x.gives
        ∙ (λ i. Spawn r frame (from.made_is i) (from.cell_is i) (from.next_is i));
  }

  pub tasks_stay : StaysSecure graph states state colours q number f point
      (Spawn r frame made cell next)
  tasks_stay after paints = task_stays graph states state colours q job f function r frame makes
      number after
      (subst (λ k. PaintsTask state colours q.job k number f frame
      (with_job (begun_here (actor_on frame.executor) k number) (coloured_more None colours)) after)
      from.made_is paints)

  pub tasks_paint : (after : Colours) × PaintsTask state colours q.job made number f frame
      (made_by graph colours q.job number point (Spawn r frame made cell next)) after
  tasks_paint = subst (λ k. (after : Colours) × PaintsTask state colours q.job k number f frame
      (with_job (begun_here (actor_on frame.executor) k number) (coloured_more None colours)) after)
      (sym from.made_is)
      (task_paints graph states state colours q job f function r frame makes number
      (with_job (begun_here (actor_on frame.executor) (length state.jobs) number)
      (coloured_more None colours)))
