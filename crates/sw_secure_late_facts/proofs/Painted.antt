-- Whatever a job executes, the late colours after it are by hue what its effect may make of
-- colours;
-- and so the state after it is secure.
use Rattle.std.proofs.Common.{◌≡◌, ℕ, true, false, Option, List, refl}
use Rattle.sw_graph.specs.declared.function.Function.{Function}
use Rattle.sw_graph.specs.declared.graph.Graph.{Graph}
use Rattle.sw_graph.specs.Points.{Point}
use Rattle.sw_value.specs.declared.effect.Effect.{Effect}
use Rattle.sw_value.specs.declared.effect.Effect.TheVariants as effect
use Rattle.sw_value.specs.declared.frame.Frame.{Frame}
use Rattle.sw_value.specs.declared.job.Job.{Job}
use Rattle.sw_value.specs.Effect.{is_stuck}
use Rattle.sw_value.specs.Reach.{step_of}
use Rattle.sw_color_rules.specs.Plans.{next_color}
use Rattle.sw_partition.specs.Regions.{Regions}
use Rattle.sw_owner_facts.specs.View.{Frame as Spot}
use Rattle.sw_view_facts.specs.Standing.{StandsAt}
use Rattle.sw_late_facts.specs.Late.{Late}
use Rattle.sw_secure_facts.specs.Executing.{Executing, is_of_values}
use Rattle.sw_secure_facts.specs.Secure.{IsSecure}
use Rattle.sw_secure_value_facts.proofs.Whole as values
use Rattle.sw_secure_cell_facts.proofs.Stays as makers
use Rattle.sw_secure_call_facts.proofs.Whole as calls
use Rattle.sw_secure_job_facts.proofs.Tasks as tasks
use Rattle.sw_secure_job_facts.proofs.Endings.{returns_stay}
use Rattle.sw_secure_job_facts.proofs.Traps.{traps_stay}
use Rattle.sw_hue_facts.specs.Hued.{hued}
use Rattle.sw_secure_late_facts.specs.LateSecure.{IsLateSecure}
use Rattle.sw_secure_late_facts.proofs.Calling.{calls_paint}
use Rattle.sw_secure_late_facts.proofs.Knowing.{executing}
use Rattle.sw_secure_late_facts.proofs.Plans.{Gives, HasPaint, after, makers_paint, returns_paint}
use Rattle.sw_secure_late_facts.proofs.Plans.{stuck_paints, traps_paint, values_paint}
use Rattle.sw_secure_late_facts.proofs.Tasking.{tasks_paint_late}

module _ (graph : Graph) (states : ℕ → List (Option Regions)) (late : Late)
    (s : IsLateSecure graph states late) (q : Spot) (job : Job) (f : Frame) (function : Function)
    (point : Point) (stands : StandsAt graph late.state q job f function point) where
  abbrev Given : Effect → Type 0
  Given = Gives graph states late s q job f function point stands

  abbrev Painted : Effect → Type 0
  Painted = HasPaint graph states late s q job f function point stands

  values_by : (e : Effect) → Given e → is_of_values e ≡ true → Painted e
  values_by = values_paint graph states late s q job f function point stands

  pub plans_paint : (e : Effect) → Given e → Painted e
  plans_paint (effect.Set r v next) gives = values_by (effect.Set r v next) gives refl
  plans_paint (effect.SetField r i v next) gives = values_by (effect.SetField r i v next) gives refl
  plans_paint (effect.Print r line next) gives = values_by (effect.Print r line next) gives refl
  plans_paint (effect.Write c slot v next) gives = values_by (effect.Write c slot v next) gives refl
  plans_paint (effect.WriteGlobal g v next) gives = values_by (effect.WriteGlobal g v next) gives
      refl
  plans_paint (effect.Goto next) gives = values_by (effect.Goto next) gives refl
  plans_paint (effect.Wait on r next) gives = values_by (effect.Wait on r next) gives refl
  plans_paint (effect.Rest r next) gives = values_by (effect.Rest r next) gives refl
  plans_paint (effect.New r cell c next) gives =
      makers_paint graph states late s q job f function point stands r cell c next gives
  plans_paint (effect.Enter frame next) gives =
      calls_paint graph states late s q job f function point stands frame next gives
  plans_paint (effect.Spawn r frame made cell next) gives =
      tasks_paint_late graph states late s q job f function point stands r frame cell next made
      gives
  plans_paint (effect.Leave v) gives =
      returns_paint graph states late s q job f function point stands v
  plans_paint (effect.Halt kind at) gives =
      traps_paint graph states late s q job f function point stands kind at
  plans_paint effect.Stuck gives = stuck_paints graph states late s q job f function point stands

  -- ---- the state after it
  abbrev IsSecureAfter : Effect → Type 0
  IsSecureAfter e = IsSecure graph states (step_of graph late.state q.job)
      (hued (after graph states late s q job f function point stands e))

  known : (e : Effect) → Given e → Executing graph states late.state (hued late.colors) q
      (next_color late.colors) job f function point e
  known = executing graph states late s q job f function point stands

  by_values : (e : Effect) → Given e → is_of_values e ≡ true → IsSecureAfter e
  by_values e gives is = values.stays graph states late.state (hued late.colors) q
      (next_color late.colors) job f function point e (known e gives) is
      (hued (after graph states late s q job f function point stands e)) (plans_paint e gives)

  pub effects_stay : (e : Effect) → Given e → is_stuck e ≡ false → IsSecureAfter e
  effects_stay (effect.Set r v next) gives is = by_values (effect.Set r v next) gives refl
  effects_stay (effect.SetField r i v next) gives is = by_values (effect.SetField r i v next) gives
      refl
  effects_stay (effect.Print r line next) gives is = by_values (effect.Print r line next) gives refl
  effects_stay (effect.Write c slot v next) gives is = by_values (effect.Write c slot v next) gives
      refl
  effects_stay (effect.WriteGlobal g v next) gives is =
      by_values (effect.WriteGlobal g v next) gives refl
  effects_stay (effect.Goto next) gives is = by_values (effect.Goto next) gives refl
  effects_stay (effect.Wait on r next) gives is = by_values (effect.Wait on r next) gives refl
  effects_stay (effect.Rest r next) gives is = by_values (effect.Rest r next) gives refl
  effects_stay (effect.New r cell c next) gives is =
      makers.stays graph states late.state (hued late.colors) q (next_color late.colors) job f
      function
      point (effect.New r cell c next) (known (effect.New r cell c next) gives) refl
      (hued (after graph states late s q job f function point stands (effect.New r cell c next)))
      (plans_paint (effect.New r cell c next) gives)
  effects_stay (effect.Enter frame next) gives is =
      calls.calls_stay graph states late.state (hued late.colors) q (next_color late.colors) job f
      function point (effect.Enter frame next) (known (effect.Enter frame next) gives) refl
      (hued (after graph states late s q job f function point stands (effect.Enter frame next)))
      (plans_paint (effect.Enter frame next) gives)
  effects_stay (effect.Spawn r frame made cell next) gives is =
      tasks.tasks_stay graph states late.state (hued late.colors) q (next_color late.colors) job f
      function point r frame made cell next (known (effect.Spawn r frame made cell next) gives)
      (hued (after graph states late s q job f function point stands
      (effect.Spawn r frame made cell next))) (plans_paint (effect.Spawn r frame made cell next)
      gives)
  effects_stay (effect.Leave v) gives is =
      returns_stay graph states late.state (hued late.colors) q (next_color late.colors) job f
      function point v (known (effect.Leave v) gives)
      (hued (after graph states late s q job f function point stands (effect.Leave v)))
      (plans_paint (effect.Leave v) gives)
  effects_stay (effect.Halt kind at) gives is =
      traps_stay graph states late.state (hued late.colors) q (next_color late.colors) job f
      function point kind at (known (effect.Halt kind at) gives)
      (hued (after graph states late s q job f function point stands (effect.Halt kind at)))
      (plans_paint (effect.Halt kind at) gives)
  effects_stay effect.Stuck gives is = absurd (let clash : ⊥ = cc in clash)
