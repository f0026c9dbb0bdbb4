-- What plans come to by hue is what their effects may make of colours.
use Rattle.std.proofs.Common.{◌≡◌, ℕ, true, Option, None, List, [], ◌<◌, inl, length, refl}
use Rattle.std.proofs.lemmas.List.Elements.{All-nil}
use Rattle.sw_secure_late_facts.proofs.Same.{same_refl}
use Rattle.sw_graph.specs.declared.function.Function.{Function}
use Rattle.sw_graph.specs.declared.graph.Graph.{Graph}
use Rattle.sw_graph.specs.Points.{Point}
use Rattle.sw_value.specs.declared.cell.HeapCell.{HeapCell}
use Rattle.sw_value.specs.declared.state.TrapKind.{TrapKind}
use Rattle.sw_value.specs.declared.value.Value.{Value}
use Rattle.sw_value.specs.declared.effect.Effect.{Effect}
use Rattle.sw_value.specs.declared.effect.Effect.TheVariants as effect
use Rattle.sw_value.specs.declared.frame.Frame.{Frame}
use Rattle.sw_value.specs.declared.job.Job.{Job}
use Rattle.sw_value.specs.Effect.{point_effect}
use Rattle.sw_color_rules.specs.declared.colors.Colors.{Colors}
use Rattle.sw_color_rules.specs.declared.plan.FrameChange.TheVariants.{Popped}
use Rattle.sw_color_rules.specs.Changes.{after_changes, pop_here}
use Rattle.sw_color_rules.specs.Plans.{effect_plan, new_cell, next_color, no_plan}
use Rattle.sw_partition.specs.Regions.{Regions}
use Rattle.sw_owner_facts.specs.View.{Frame as Spot}
use Rattle.sw_view_facts.specs.Memory.{coloured_more}
use Rattle.sw_view_facts.specs.Standing.{StandsAt}
use Rattle.sw_late_facts.specs.Late.{Late, destination_by, late_by}
use Rattle.sw_secure_facts.specs.Executing.{Executing, is_of_values}
use Rattle.sw_secure_facts.specs.Painting.{Paints, Unites, cell_colour, joined_by, joined_in_cell}
use Rattle.sw_secure_facts.specs.Painting.{made_by, without_here}
use Rattle.sw_secure_value_facts.proofs.Whole as values
use Rattle.sw_secure_cell_facts.proofs.Stays as makers
use Rattle.sw_hue_facts.specs.Hued.{hued}
use Rattle.sw_hue_facts.proofs.Made.{frame_gone}
use Rattle.sw_secure_late_facts.specs.LateSecure.{IsLateSecure}
use Rattle.sw_secure_late_facts.proofs.Cells.{cell_fits}
use Rattle.sw_secure_late_facts.proofs.Joining.{plan_unites}
use Rattle.sw_secure_late_facts.proofs.Knowing.{executing, shows}
use Rattle.sw_secure_late_facts.proofs.Values.{nothing_fits, value_fits}

module _ (graph : Graph) (states : ℕ → List (Option Regions)) (late : Late)
    (s : IsLateSecure graph states late) (q : Spot) (job : Job) (f : Frame) (function : Function)
    (point : Point) (stands : StandsAt graph late.state q job f function point) where
  abbrev colors : Colors
  colors = late.colors

  abbrev number : ℕ
  number = next_color late.colors

  -- the colours after an effect
  abbrev pub after : Effect → Colors
  after e = after_changes
      (late_by q.job (effect_plan graph colors q.job f point e) (destination_by colors f point e))
      colors

  abbrev pub HasPaint : Effect → Type 0
  HasPaint e = Paints graph late.state (hued colors) q number f point e (hued (after e))

  abbrev pub Gives : Effect → Type 0
  Gives e = point_effect graph late.state (length job.frames) f point ≡ e

  known : (e : Effect) → Gives e
      → Executing graph states late.state (hued colors) q number job f function point e
  known = executing graph states late s q job f function point stands

  value_unites : (e : Effect) → Gives e → is_of_values e ≡ true
      → Unites q.job (joined_by graph late.state (hued colors) q number f point e)
      (made_by graph (hued colors) q.job number point e)
      (hued (after_changes (late_by q.job (effect_plan graph colors q.job f point e) None) colors))
  value_unites e gives is =
      plan_unites q colors (effect_plan graph colors q.job f point e)
      (joined_by graph late.state (hued colors) q number f point e)
      (made_by graph (hued colors) q.job number point e) s.whole
      (value_fits graph late.state colors q
      (shows graph states late s q job f function point stands) number f point e is)
      (values.joins graph states late.state (hued colors) q number job f function point e
      (known e gives) is)

  pub values_paint : (e : Effect) → Gives e → is_of_values e ≡ true → HasPaint e
  values_paint (effect.Set r v next) gives is = value_unites (effect.Set r v next) gives is
  values_paint (effect.SetField r i v next) gives is = value_unites (effect.SetField r i v next)
      gives is
  values_paint (effect.Print r line next) gives is = value_unites (effect.Print r line next) gives
      is
  values_paint (effect.Write c slot v next) gives is = value_unites (effect.Write c slot v next)
      gives is
  values_paint (effect.WriteGlobal g v next) gives is =
      value_unites (effect.WriteGlobal g v next) gives is
  values_paint (effect.Goto next) gives is = value_unites (effect.Goto next) gives is
  values_paint (effect.Wait on r next) gives is = value_unites (effect.Wait on r next) gives is
  values_paint (effect.Rest r next) gives is = value_unites (effect.Rest r next) gives is
  values_paint (effect.New r cell c next) gives is = absurd (let clash : ⊥ = cc in clash)
  values_paint (effect.Enter frame next) gives is = absurd (let clash : ⊥ = cc in clash)
  values_paint (effect.Spawn r frame made cell next) gives is = absurd (let clash : ⊥ = cc in clash)
  values_paint (effect.Leave v) gives is = absurd (let clash : ⊥ = cc in clash)
  values_paint (effect.Halt kind at) gives is = absurd (let clash : ⊥ = cc in clash)
  values_paint effect.Stuck gives is = absurd (let clash : ⊥ = cc in clash)

  pub makers_paint : (r : ℕ) (cell : HeapCell) (c next : ℕ) → Gives (effect.New r cell c next)
      → HasPaint (effect.New r cell c next)
  makers_paint r cell c next gives =
      plan_unites q colors (new_cell graph colors q.job c cell)
      (joined_in_cell graph late.state (hued colors) q number c cell)
      (coloured_more (cell_colour graph q.job number cell) (hued colors)) s.whole
      (cell_fits graph late.state colors q
      (shows graph states late s q job f function point stands) c cell)
      (makers.joins graph states late.state (hued colors) q number job f function point
      (effect.New r cell c next) (known (effect.New r cell c next) gives) refl)

  pub returns_paint : (v : Value) → HasPaint (effect.Leave v)
  unfolding pop_here
  returns_paint v =
      plan_unites q colors (record no_plan { frame = Popped }) [] (without_here q.job (hued colors))
      s.whole (record {
        heir = refl;
        below = All-nil (λ n. n < next_color colors);
        is = frame_gone colors q.job;
        same = same_refl [];
      }) (inl refl)

  pub traps_paint : (kind : TrapKind) (at : ℕ) → HasPaint (effect.Halt kind at)
  traps_paint kind at = plan_unites q colors no_plan [] (hued colors) s.whole
      (nothing_fits graph late.state colors q
      (shows graph states late s q job f function point stands) number f point) (inl refl)

  pub stuck_paints : HasPaint effect.Stuck
  stuck_paints = plan_unites q colors no_plan [] (hued colors) s.whole
      (nothing_fits graph late.state colors q
      (shows graph states late s q job f function point stands) number f point) (inl refl)
