-- What the plan of a task joins, in a late state that is secure.
use Rattle.std.proofs.Common.{◌≡◌, ◌<◌, ℕ, Option, Some, List, [], ◌∷◌, length}
use Rattle.std.proofs.Common.{Contains, sym, subst, ap, ◌∙◌, inl, inr}
use Rattle.std.proofs.lemmas.List.Elements.{All-cons}
use Rattle.sw_graph.specs.declared.function.Function.{Function}
use Rattle.sw_graph.specs.declared.graph.Graph.{Graph}
use Rattle.sw_graph.specs.Points.{Point}
use Rattle.sw_value.specs.declared.effect.Effect.TheVariants.{Spawn}
use Rattle.sw_value.specs.declared.frame.Frame.{Frame}
use Rattle.sw_value.specs.declared.job.Job.{Job}
use Rattle.sw_value.specs.Effect.{point_effect}
use Rattle.sw_value.specs.Reach.{step_of}
use Rattle.sw_color_rules.specs.declared.colors.Colors.{Colors}
use Rattle.sw_color_rules.specs.declared.colors.Palette.{Palette}
use Rattle.sw_color_rules.specs.Changes.{after_changes}
use Rattle.sw_color_rules.specs.Plans.{next_color, number_on, passed}
use Rattle.sw_color_rules.specs.Ranges.{AreBelow}
use Rattle.sw_partition.specs.Regions.{Regions}
use Rattle.sw_owner_facts.specs.View.{Frame as Spot, bottom}
use Rattle.sw_view_facts.specs.Standing.{StandsAt}
use Rattle.sw_view_facts.specs.Views.{Colours}
use Rattle.sw_late_facts.specs.Hues.{hue}
use Rattle.sw_late_facts.specs.Late.{Late, givings, later_of}
use Rattle.sw_secure_facts.specs.Executing.{Executing}
use Rattle.sw_secure_facts.specs.Painting.{MayUnite, PaintsTask, actor_on, made_by}
use Rattle.sw_secure_facts.specs.Secure.{IsSecure}
use Rattle.sw_secure_job_facts.proofs.Begun.{begun_from}
use Rattle.sw_secure_job_facts.proofs.Effects.{SpawnsBy, spawns_from}
use Rattle.sw_secure_job_facts.proofs.Making.{MakesTask}
use Rattle.sw_secure_job_facts.proofs.Tasks.{tasks_paint, tasks_stay}
use Rattle.sw_hue_facts.specs.Hued.{hued, hues_of}
use Rattle.sw_hue_facts.proofs.Handing.{givings_are, hand_all}
use Rattle.sw_secure_late_facts.specs.LateSecure.{IsLateSecure}
use Rattle.sw_secure_late_facts.proofs.Anchors.{actor_known}
use Rattle.sw_secure_late_facts.proofs.Beginning.{spawned_before, spawned_there}
use Rattle.sw_secure_late_facts.proofs.Begun.{HasNumber}
use Rattle.sw_secure_late_facts.proofs.Joining.{base_of}
use Rattle.sw_secure_late_facts.proofs.Knowing.{executing, shows}
use Rattle.sw_secure_late_facts.proofs.Owning.{has_number}
use Rattle.sw_secure_late_facts.proofs.Plans.{Gives}
use Rattle.sw_secure_late_facts.proofs.TaskBase.{TaskBase, task_plan}
use Rattle.sw_secure_late_facts.proofs.Tasks as task
use Rattle.sw_secure_late_facts.proofs.Turning.{MayHand, PlanJoins}

module _ (graph : Graph) (states : ℕ → List (Option Regions)) (late : Late)
    (s : IsLateSecure graph states late) (q : Spot) (job : Job) (f : Frame) (function : Function)
    (point : Point) (stands : StandsAt graph late.state q job f function point) (r : ℕ)
    (frame : Frame) (cell next : ℕ) (gives : Gives graph states late s q job f function point stands
    (Spawn r frame (length late.state.jobs) cell next)) where
  abbrev colors : Colors
  colors = late.colors

  abbrev made : ℕ
  made = length late.state.jobs

  known : Executing graph states late.state (hued colors) q (next_color colors) job f function point
      (Spawn r frame made cell next)
  known = executing graph states late s q job f function point stands (Spawn r frame made cell next)
      gives

  from : SpawnsBy graph late.state (length job.frames) f point r frame made cell next
  from = spawns_from graph late.state (length job.frames) f point r frame made cell next gives

  pub makes : MakesTask graph states late.state (hued colors) q job f function r frame
  makes = record {
    secure = s.secure;
    at = from.at;
    number = from.number;
    captures = from.captures;
    stands = subst (StandsAt graph late.state q job f function) from.is stands;
    values = from.values;
    have = from.have;
    begun = begun_from graph from.number from.values frame from.first;
    gives = ap (point_effect graph late.state (length job.frames) f) (sym from.is) ∙ gives
        ∙ (λ i. Spawn r frame (from.made_is i) (from.cell_is i) (from.next_is i));
  }

  -- some colours that the step may lead to
  some : (after : Colours) × PaintsTask late.state (hued colors) q.job made (next_color colors) f
      frame
      (made_by graph (hued colors) q.job (next_color colors) point (Spawn r frame made cell next))
      after
  some = tasks_paint graph states late.state (hued colors) q (next_color colors) job f function
      point r
      frame made cell next known

  some_secure : IsSecure graph states (step_of graph late.state q.job) some.0
  some_secure = tasks_stay graph states late.state (hued colors) q (next_color colors) job f
      function
      point r frame made cell next known some.0 some.1

  pub has : HasNumber colors frame.executor
  has = has_number graph states late s frame.executor (λ a on.
      spawned_before graph late.state q job f function point stands r frame cell next gives a
      (actor_known graph states (step_of graph late.state q.job) some.0 some_secure (bottom made)
      frame (spawned_there graph late.state q job f function point stands r frame cell next gives) a
      on))

  abbrev ns : List ℕ
  ns = passed colors.cells [] frame.regs

  abbrev number : Option ℕ
  number = number_on colors frame.executor

  abbrev t : TaskBase graph late.state.cells colors q.job made (actor_on frame.executor) number ns
  t = task.t graph states late.state colors q job f function r frame makes
      (shows graph states late s q job f function point stands) s.tints s.secure.memory.earlier has

  abbrev first : ℕ
  first = t.first

  may : MayUnite (bottom made) (hues_of (hand_all made ns t.palette) (first ∷ ns))
  may = task.joined_may graph states late.state colors q job f function r frame makes
      (shows graph states late s q job f function point stands) s.tints s.secure.memory.earlier has

  own : (n : ℕ) → Contains ns n → (heir : ℕ) → MayHand q.job heir (hue t.palette n)
  own n has_n heir = elim (task.own graph states late.state colors q job f function r frame makes
      (shows graph states late s q job f function point stands) s.tints s.secure.memory.earlier has
      n
      has_n) [
        | inl actor ↦ inl actor
        | inr owned ↦ inr (inl owned)
      ]

  joined_with : (joined : List ℕ) (base : Colors) → joined ≡ first ∷ ns → base.palette ≡ t.palette
      → MayUnite (bottom made)
      (hues_of (after_changes (givings (Some made) (later_of joined)) base).palette joined)
  joined_with joined base is same =
      subst (λ (l : List ℕ). MayUnite (bottom made)
      (hues_of (after_changes (givings (Some made) (later_of l)) base).palette l)) (sym is)
      (subst (λ (p : Palette). MayUnite (bottom made) (hues_of p (first ∷ ns)))
      (sym (ap (λ (c : Colors). c.palette) (givings_are made ns base) ∙ ap (hand_all made ns) same))
      may)

  pub task_joins : (to : Option ℕ) → PlanJoins q.job colors (task_plan colors made number ns) to
  task_joins to = record {
    below = subst (λ (c : Colors). AreBelow (next_color c) (task_plan colors made number ns).joined)
        (sym t.made)
        (subst (AreBelow (length t.palette.names)) (sym t.joined)
        (All-cons (λ n. n < length t.palette.names) first ns t.first_in t.below));
    gives = λ heir is n among.
        subst (λ (c : Colors). MayHand q.job heir (hue c.palette n)) (sym t.made)
        (own n (subst (λ l. Contains (later_of l) n) t.joined among) heir);
    may = λ here. joined_with (task_plan colors made number ns).joined
        (base_of q.job (task_plan colors made number ns) colors) t.joined
        (ap (λ (c : Colors). c.palette) t.made);
  }
