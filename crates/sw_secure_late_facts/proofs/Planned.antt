-- What the plan of each effect joins, in a late state that is secure.
use Rattle.std.proofs.Common.{◌≡◌, ◌<◌, ◌&&◌, is_some, ℕ, Bool, true, false, cond, Option, Some}
use Rattle.std.proofs.Common.{None, List, [], ◌∷◌, ◌++◌, length}
use Rattle.std.proofs.Common.{refl, sym, subst, ap, ◌∙◌, inl}
use Rattle.std.proofs.lemmas.List.Elements.{All-nil}
use Rattle.sw_graph.specs.declared.function.Function.{Function}
use Rattle.sw_graph.specs.declared.graph.Graph.{Graph}
use Rattle.sw_graph.specs.Points.{Point}
use Rattle.sw_value.specs.declared.cell.HeapCell.{HeapCell}
use Rattle.sw_value.specs.declared.effect.Effect.{Effect}
use Rattle.sw_value.specs.declared.effect.Effect.TheVariants as effect
use Rattle.sw_value.specs.declared.frame.Frame.{Frame}
use Rattle.sw_value.specs.declared.job.Job.{Job}
use Rattle.sw_color_rules.specs.declared.colors.Colors.{Colors}
use Rattle.sw_color_rules.specs.declared.colors.Owner.TheVariants as owner
use Rattle.sw_color_rules.specs.declared.plan.FrameChange.TheVariants.{Popped, Pushed}
use Rattle.sw_color_rules.specs.declared.plan.Plan.{Plan}
use Rattle.sw_color_rules.specs.Changes.{after_changes, pop_here}
use Rattle.sw_color_rules.specs.Plans as plans
use Rattle.sw_color_rules.specs.Plans.{begun_with, called_number, effect_plan, new_cell, next_color}
use Rattle.sw_color_rules.specs.Plans.{no_plan}
use Rattle.sw_color_rules.specs.Plans.{sending_of}
use Rattle.sw_partition.specs.Regions.{Regions}
use Rattle.sw_owner_facts.specs.Colours.{Actor as Owner, Colour}
use Rattle.sw_owner_facts.specs.View.{Frame as Spot}
use Rattle.sw_view_facts.specs.Memory.{coloured_more}
use Rattle.sw_view_facts.specs.Standing.{StandsAt}
use Rattle.sw_view_facts.specs.Views.{Colours}
use Rattle.sw_late_facts.specs.Late.{Late, carrier, destination_by, givings, later_of}
use Rattle.sw_secure_facts.specs.Executing.{Executing, is_of_values}
use Rattle.sw_secure_facts.specs.Painting.{MayUnite, begun_here, called_closure, called_on}
use Rattle.sw_secure_facts.specs.Painting.{cell_colour}
use Rattle.sw_secure_facts.specs.Painting.{joined_by, joined_in_cell, made_by, passed, with_here}
use Rattle.sw_secure_facts.specs.Painting.{without_here}
use Rattle.sw_secure_call_facts.proofs.Whole.{calls_join}
use Rattle.sw_secure_cell_facts.proofs.Stays as makers
use Rattle.sw_secure_job_facts.proofs.Effects.{SpawnsBy, spawns_from}
use Rattle.sw_secure_value_facts.proofs.Whole as values
use Rattle.sw_hue_facts.specs.Hued.{hued, hues_of}
use Rattle.sw_hue_facts.proofs.Made.{frame_gone}
use Rattle.sw_secure_late_facts.specs.LateSecure.{IsLateSecure}
use Rattle.sw_secure_late_facts.proofs.Begun.{BeginsOn, Nowhere, On, called_begins, pushed_fits}
use Rattle.sw_secure_late_facts.proofs.Calling as calling
use Rattle.sw_secure_late_facts.proofs.Calls as calls
use Rattle.sw_secure_late_facts.proofs.Cells.{cell_fits}
use Rattle.sw_secure_late_facts.proofs.Joining.{PlanFits, base_of}
use Rattle.sw_secure_late_facts.proofs.Knowing.{executing, shows}
use Rattle.sw_secure_late_facts.proofs.Plans.{Gives}
use Rattle.sw_secure_late_facts.proofs.Same.{may_unite_same, same_refl}
use Rattle.sw_secure_late_facts.proofs.Tasked.{task_joins}
use Rattle.sw_secure_late_facts.proofs.Turning.{PlanJoins}
use Rattle.sw_secure_late_facts.proofs.Values.{nothing_fits, value_fits}

-- a plan without heir that fits
fits_join : (q : Spot) (colors : Colors) (plan : Plan) (joined : List Colour) (made : Colours)
    (to : Option ℕ) → PlanFits q colors plan joined made → (to ≡ None → MayUnite q joined)
    → PlanJoins q.job colors plan to
fits_join q colors plan joined made to fits may = record {
  below = fits.below;
  gives = λ heir is n has. absurd (let clash : None ≡ Some heir = sym fits.heir ∙ is in
      let wrong : ⊥ = cc in wrong);
  may = λ here.
      subst (λ h. MayUnite (record { job = carrier q.job h; depth = 0 })
      (hues_of (after_changes (givings h (later_of plan.joined))
      (base_of q.job plan colors)).palette
      plan.joined)) (sym fits.heir)
      (may_unite_same q joined (hues_of (base_of q.job plan colors).palette plan.joined)
      (record { to = fits.same.from; from = fits.same.to }) (may here));
}

module _ (graph : Graph) (states : ℕ → List (Option Regions)) (late : Late)
    (s : IsLateSecure graph states late) (q : Spot) (job : Job) (f : Frame) (function : Function)
    (point : Point) (stands : StandsAt graph late.state q job f function point) where
  abbrev colors : Colors
  colors = late.colors

  abbrev number : ℕ
  number = next_color late.colors

  abbrev GivesIt : Effect → Type 0
  GivesIt = Gives graph states late s q job f function point stands

  known : (e : Effect) → GivesIt e
      → Executing graph states late.state (hued colors) q number job f function point e
  known = executing graph states late s q job f function point stands

  abbrev Joins : Effect → Type 0
  Joins e = PlanJoins q.job colors (effect_plan graph colors q.job f point e)
      (destination_by colors f point e)

  value_joins : (e : Effect) → GivesIt e → is_of_values e ≡ true
      → PlanJoins q.job colors (effect_plan graph colors q.job f point e) None
  value_joins e gives is =
      fits_join q colors (effect_plan graph colors q.job f point e)
      (joined_by graph late.state (hued colors) q number f point e)
      (made_by graph (hued colors) q.job number point e) None
      (value_fits graph late.state colors q
      (shows graph states late s q job f function point stands) number f point e is)
      (λ here. values.joins graph states late.state (hued colors) q number job f function point e
      (known e gives) is)

  maker_joins : (r : ℕ) (cell : HeapCell) (c next : ℕ) → GivesIt (effect.New r cell c next)
      → Joins (effect.New r cell c next)
  maker_joins r cell c next gives =
      fits_join q colors (new_cell graph colors q.job c cell)
      (joined_in_cell graph late.state (hued colors) q number c cell)
      (coloured_more (cell_colour graph q.job number cell) (hued colors)) None
      (cell_fits graph late.state colors q
      (shows graph states late s q job f function point stands) c cell)
      (λ here. makers.joins graph states late.state (hued colors) q number job f function point
      (effect.New r cell c next) (known (effect.New r cell c next) gives) refl)

  abbrev ns_of : Frame → List ℕ
  ns_of frame = plans.called_closure colors point f
      ++ plans.passed colors.cells (sending_of graph frame.function) frame.regs

  abbrev cs_of : Frame → List Colour
  cs_of frame = called_closure late.state (hued colors) f point
      ++ passed late.state (hued colors) (sending_of graph frame.function) frame.regs

  call_joins : (frame : Frame) (next : ℕ) → GivesIt (effect.Enter frame next)
      → Joins (effect.Enter frame next)
  call_joins frame next gives =
      by frame.crossing (called_on point frame) (called_number colors point frame)
      (called_begins colors point frame
      (calling.has graph states late s q job f function point stands frame next gives))
      (calls_join graph states late.state (hued colors) q number job f function point
      (effect.Enter frame next) (known (effect.Enter frame next) gives) refl)
    where
      fits : (on : Option Owner) (o : Option ℕ) → BeginsOn colors on o
          → PlanFits q colors (begun_with o (owner.Job q.job) Pushed number (ns_of frame))
          (begun_here on q.job number ∷ cs_of frame)
          (with_here q.job (begun_here on q.job number) (hued colors))
      fits on o begins = pushed_fits colors q s.whole s.made on o begins (ns_of frame) (cs_of frame)
          (calls.below graph late.state colors q
          (shows graph states late s q job f function point stands) f frame next (length job.frames)
          point
          gives (calling.has graph states late s q job f function point stands frame next gives))
          (calls.same graph late.state colors q
          (shows graph states late s q job f function point stands) f frame next (length job.frames)
          point
          gives (calling.has graph states late s q job f function point stands frame next gives))

      by : (crossing : Bool) (on : Option Owner) (o : Option ℕ) → BeginsOn colors on o
          → MayUnite q (cond (crossing && is_some on) [] (begun_here on q.job number ∷ cs_of frame))
          → PlanJoins q.job colors (begun_with o (owner.Job q.job) Pushed number (ns_of frame))
          (cond crossing o None)
      by false on o begins may =
          fits_join q colors (begun_with o (owner.Job q.job) Pushed number (ns_of frame))
          (begun_here on q.job number ∷ cs_of frame)
          (with_here q.job (begun_here on q.job number) (hued colors))
          None (fits on o begins) (λ here. may)
      by true _ _ Nowhere may =
          fits_join q colors (begun_with None (owner.Job q.job) Pushed number (ns_of frame))
          (begun_here None q.job number ∷ cs_of frame)
          (with_here q.job (begun_here None q.job number) (hued colors))
          None (fits None None Nowhere) (λ here. may)
      by true _ _ (On a n inside is) may =
          fits_join q colors (begun_with (Some n) (owner.Job q.job) Pushed number (ns_of frame))
          (begun_here (Some a) q.job number ∷ cs_of frame)
          (with_here q.job (begun_here (Some a) q.job number) (hued colors)) (Some n)
          (fits (Some a) (Some n) (On a n inside is))
          (λ here. absurd (let clash : ⊥ = cc in clash))

  spawn_joins : (r : ℕ) (frame : Frame) (made cell next : ℕ)
      → GivesIt (effect.Spawn r frame made cell next) → Joins (effect.Spawn r frame made cell next)
  spawn_joins r frame made cell next gives =
      subst (λ k. Joins (effect.Spawn r frame k cell next)) (sym from.made_is)
      (task_joins graph states late s q job f function point stands r frame cell next
      (gives ∙ ap (λ k. effect.Spawn r frame k cell next) from.made_is)
      (destination_by colors f point (effect.Spawn r frame (length late.state.jobs) cell next)))
    where
      from : SpawnsBy graph late.state (length job.frames) f point r frame made cell next
      from = spawns_from graph late.state (length job.frames) f point r frame made cell next gives

  nothing_joins : PlanJoins q.job colors no_plan None
  nothing_joins = fits_join q colors no_plan [] (hued colors) None
      (nothing_fits graph late.state colors q
      (shows graph states late s q job f function point stands) number f point) (λ here. inl refl)

  leave_joins : PlanJoins q.job colors (record no_plan { frame = Popped }) None
  unfolding pop_here
  leave_joins =
      fits_join q colors (record no_plan { frame = Popped }) [] (without_here q.job (hued colors))
      None
      (record {
        heir = refl;
        below = All-nil (λ n. n < next_color colors);
        is = frame_gone colors q.job;
        same = same_refl [];
      }) (λ here. inl refl)

  pub plan_joins : (e : Effect) → GivesIt e → Joins e
  plan_joins (effect.Set r v next) gives = value_joins (effect.Set r v next) gives refl
  plan_joins (effect.SetField r i v next) gives = value_joins (effect.SetField r i v next) gives
      refl
  plan_joins (effect.Print r line next) gives = value_joins (effect.Print r line next) gives refl
  plan_joins (effect.New r cell c next) gives = maker_joins r cell c next gives
  plan_joins (effect.Write c slot v next) gives = value_joins (effect.Write c slot v next) gives
      refl
  plan_joins (effect.WriteGlobal g v next) gives = value_joins (effect.WriteGlobal g v next) gives
      refl
  plan_joins (effect.Goto next) gives = value_joins (effect.Goto next) gives refl
  plan_joins (effect.Enter frame next) gives = call_joins frame next gives
  plan_joins (effect.Spawn r frame made cell next) gives = spawn_joins r frame made cell next gives
  plan_joins (effect.Wait on r next) gives = value_joins (effect.Wait on r next) gives refl
  plan_joins (effect.Rest r next) gives = value_joins (effect.Rest r next) gives refl
  plan_joins (effect.Leave v) gives = leave_joins
  plan_joins (effect.Halt kind at) gives = nothing_joins
  plan_joins effect.Stuck gives = nothing_joins
