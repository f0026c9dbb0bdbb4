-- The changes of a late state where a job executes an effect: those of the effect's plan.
use Rattle.std.proofs.Common.{◌≡◌, ◌≢◌, ◌⊎◌, ◌<◌, ◌-◌, ℕ, true, Option, Some, None, List, [], ◌∷◌}
use Rattle.std.proofs.Common.{◌++◌}
use Rattle.std.proofs.Common.{length, refl, sym, ap, ◌∙◌, arith, inl, inr}
use Rattle.std.specs.List.{slice_get}
use Rattle.std.specs.Option.{option_and_then, option_map, option_map_or, option_to_list}
use Rattle.sw_list.proofs.ListLemmas.{slice_get_first}
use Rattle.sw_graph.specs.declared.function.Function.{Function}
use Rattle.sw_graph.specs.declared.graph.Graph.{Graph}
use Rattle.sw_graph.specs.Points.{Point, point_in}
use Rattle.sw_value.specs.declared.effect.Act.TheVariants.{Execute}
use Rattle.sw_value.specs.declared.effect.Effect.{Effect}
use Rattle.sw_value.specs.declared.effect.Effect.TheVariants as effect
use Rattle.sw_value.specs.declared.frame.Frame.{Frame}
use Rattle.sw_value.specs.declared.job.Job.{Job}
use Rattle.sw_value.specs.Frame.{point_at}
use Rattle.sw_value.specs.Job.{top_frame}
use Rattle.sw_machine_kind_facts.proofs.ItemLemmas.{changed_other}
use Rattle.sw_color_rules.specs.declared.colors.Colors.{Colors}
use Rattle.sw_color_rules.specs.declared.colors.Owner.{Owner}
use Rattle.sw_color_rules.specs.declared.colors.Owner.TheVariants as owner
use Rattle.sw_color_rules.specs.declared.colors.Tint.{Tint}
use Rattle.sw_color_rules.specs.declared.plan.FrameChange.{FrameChange}
use Rattle.sw_color_rules.specs.declared.plan.FrameChange.TheVariants.{Stays, Pushed, Begun, Popped}
use Rattle.sw_color_rules.specs.declared.plan.Plan.{Plan}
use Rattle.sw_color_rules.specs.Changes.{Fresh, Mark, after_changes, with_last, without_last}
use Rattle.sw_color_rules.specs.Palette.{IsWhole}
use Rattle.sw_color_rules.specs.Plans.{begun_with, called_closure, called_number, passed}
use Rattle.sw_color_rules.specs.Plans.{sending_of, effect_plan, frame_changes, makings}
use Rattle.sw_color_rules.specs.Plans.{next_color, no_plan, plan_at, plan_of}
use Rattle.sw_partition.specs.Regions.{Regions}
use Rattle.sw_owner_facts.specs.View.{Frame as Spot}
use Rattle.sw_view_facts.specs.Standing.{StandsAt}
use Rattle.sw_late_facts.specs.Late.{Late, carrier, destination, destination_at, destination_by}
use Rattle.sw_late_facts.specs.Late.{givings}
use Rattle.sw_late_facts.specs.Late.{late_by, later_of, merges_here}
use Rattle.sw_late_facts.proofs.Cells.{IsQuiet, cells_after, cells_both, changes_cells}
use Rattle.sw_late_facts.proofs.Cells.{changes_heres, givings_quiet}
use Rattle.sw_late_facts.proofs.Cells.{heres_after, heres_both, merges_here_quiet, quiet_both}
use Rattle.sw_late_facts.proofs.Follows.{cells_made}
use Rattle.sw_secure_facts.specs.Executing.{is_of_values}
use Rattle.sw_secure_job_facts.proofs.Effects.{spawns_from}
use Rattle.sw_secure_late_facts.specs.LateSecure.{IsLateSecure}
use Rattle.sw_secure_late_facts.proofs.Cells.{cell_fits}
use Rattle.sw_secure_late_facts.proofs.Joining.{base_of}
use Rattle.sw_secure_late_facts.proofs.Knowing.{shows}
use Rattle.sw_secure_late_facts.proofs.Lasting.{Lasts}
use Rattle.sw_secure_late_facts.proofs.Plans.{Gives}
use Rattle.sw_secure_late_facts.proofs.Turning.{PlanJoins, Renamed, hues_made, plan_renamed}
use Rattle.sw_secure_late_facts.proofs.Values.{value_fits}

-- ---- frames
framed_after : (job : ℕ) (change : FrameChange) → List (List ℕ) → List (List ℕ)
framed_after job change heres = heres_after (frame_changes job change) heres

made_heres : (job : ℕ) (plan : Plan) (heres : List (List ℕ))
    → heres_after (makings job plan) heres ≡ framed_after job plan.frame heres
unfolding framed_after
made_heres job plan heres = by plan.fresh plan.tint where
  rest : (t : Option Tint)
      → heres_after (option_to_list (option_map Mark t) ++ frame_changes job plan.frame) heres
      ≡ heres_after (frame_changes job plan.frame) heres
  rest None = refl
  rest (Some u) = refl

  by : (o : Option Owner) (t : Option Tint) → heres_after (option_to_list (option_map Fresh o)
      ++ (option_to_list (option_map Mark t) ++ frame_changes job plan.frame)) heres
      ≡ heres_after (frame_changes job plan.frame) heres
  by None t = rest t
  by (Some o) t = rest t

-- another job's frames keep their colours
other_row : (job k : ℕ) (change : FrameChange) (heres : List (List ℕ)) → k ≢ job → k < length heres
    → slice_get (framed_after job change heres) k ≡ slice_get heres k
unfolding framed_after
other_row job k Stays heres apart inside = refl
other_row job k (Pushed n) heres apart inside = changed_other (with_last n) job k heres apart
other_row job k (Begun n) heres apart inside = slice_get_first heres ((n ∷ []) ∷ []) k inside
other_row job k Popped heres apart inside = changed_other without_last job k heres apart

module _ (job k : ℕ) (colors : Colors) (plan : Plan) (to : Option ℕ)
    (joins : PlanJoins job colors plan to) (whole : IsWhole colors.palette) (apart : k ≢ job)
    (no_heir : k ≢ carrier job plan.heir) (inside : k < length colors.heres) where
  abbrev after : Colors
  after = after_changes (late_by job plan to) colors

  -- what another job has to do with it stays
  pub plan_lasts : Lasts k colors after
  plan_lasts = record {
    actors = λ n a low is. renamed.actors n a (hues_made job plan colors whole n low ∙ is);
    fixed = λ n m low is. renamed.fixed n k m apart no_heir
        (hues_made job plan colors whole n low ∙ is);
    back = λ n m low is. sym (hues_made job plan colors whole n low) ∙ renamed.back n k m apart
        no_heir is;
    more = option_to_list plan.tint;
    cells = changes_cells (late_by job plan to) colors
        ∙ cells_both (makings job plan) (givings plan.heir (later_of plan.joined) ++ merges_here to
        plan.joined)
        colors.cells
        ∙ quiet.cells (cells_after (makings job plan) colors.cells) ∙ cells_made job plan
        colors.cells;
    heres = ap (λ (l : List (List ℕ)). slice_get l k) (changes_heres (late_by job plan to) colors
        ∙ heres_both (makings job plan) (givings plan.heir (later_of plan.joined) ++ merges_here to
        plan.joined)
        colors.heres
        ∙ quiet.heres (heres_after (makings job plan) colors.heres) ∙ made_heres job plan
        colors.heres)
        ∙ other_row job k plan.frame colors.heres apart inside;
  }
    where
      renamed : Renamed job (carrier job plan.heir) (base_of job plan colors).palette after.palette
      renamed = plan_renamed job colors plan to joins whole

      quiet : IsQuiet (givings plan.heir (later_of plan.joined) ++ merges_here to plan.joined)
      quiet = quiet_both (givings plan.heir (later_of plan.joined)) (merges_here to plan.joined)
          (givings_quiet plan.heir (later_of plan.joined)) (merges_here_quiet to plan.joined)

module _ (graph : Graph) (states : ℕ → List (Option Regions)) (late : Late)
    (s : IsLateSecure graph states late) (q : Spot) (job : Job) (f : Frame) (function : Function)
    (point : Point) (stands : StandsAt graph late.state q job f function point) where
  abbrev colors : Colors
  colors = late.colors

  -- ---- the act is the effect at the point
  top_is : option_and_then top_frame (slice_get late.state.jobs q.job) ≡ Some f
  unfolding top_frame
  top_is = ap (option_and_then (λ (j : Job). slice_get j.frames (length j.frames - 1)))
      stands.top.there
      ∙ ap (slice_get job.frames)
      (let high = stands.top.height in let last : length job.frames - 1 ≡ q.depth = omega
      (arith, high) in last)
      ∙ stands.top.top

  point_is : point_at graph f ≡ Some point
  unfolding point_at
  point_is = ap (option_and_then (λ (g : Function). point_in g f.point)) stands.is ∙ stands.here

  pub plan_is : (e : Effect)
      → plan_of graph late.state colors q.job (Execute e) ≡ effect_plan graph colors q.job f point e
  plan_is e = ap (λ o. option_map_or (plan_at graph colors q.job e) o no_plan) top_is
      ∙ ap (λ o. option_map_or (λ p. effect_plan graph colors q.job f p e) o no_plan) point_is

  pub goes_to : (e : Effect)
      → destination graph late.state colors q.job (Execute e) ≡ destination_by colors f point e
  goes_to e = ap (option_and_then (destination_at graph colors e)) top_is
      ∙ ap (option_and_then (λ p. destination_by colors f p e)) point_is

  -- ---- an heir is a new job
  abbrev IsHeir : Effect → Type 0
  IsHeir e = (carrier q.job (effect_plan graph colors q.job f point e).heir ≡ q.job)
      ⊎ (carrier q.job (effect_plan graph colors q.job f point e).heir ≡ length late.state.jobs)

  value_heir : (e : Effect) → is_of_values e ≡ true → IsHeir e
  value_heir e is = inl (ap (carrier q.job) (value_fits graph late.state colors q
      (shows graph states late s q job f function point stands) (next_color colors) f point e
      is).heir)

  pub heir_is : (e : Effect) → Gives graph states late s q job f function point stands e → IsHeir e
  heir_is (effect.Set r v next) gives = value_heir (effect.Set r v next) refl
  heir_is (effect.SetField r i v next) gives = value_heir (effect.SetField r i v next) refl
  heir_is (effect.Print r line next) gives = value_heir (effect.Print r line next) refl
  heir_is (effect.New r cell c next) gives =
      inl (ap (carrier q.job) (cell_fits graph late.state colors q
      (shows graph states late s q job f function point stands) c cell).heir)
  heir_is (effect.Write c slot v next) gives = value_heir (effect.Write c slot v next) refl
  heir_is (effect.WriteGlobal g v next) gives = value_heir (effect.WriteGlobal g v next) refl
  heir_is (effect.Goto next) gives = value_heir (effect.Goto next) refl
  heir_is (effect.Enter frame next) gives = by (called_number colors point frame) where
    by : (o : Option ℕ) → (carrier q.job (begun_with o (owner.Job q.job) Pushed (next_color colors)
        (called_closure colors point f ++ passed colors.cells (sending_of graph frame.function)
        frame.regs)).heir ≡ q.job)
        ⊎ (carrier q.job (begun_with o (owner.Job q.job) Pushed (next_color colors)
        (called_closure colors point f ++ passed colors.cells (sending_of graph frame.function)
        frame.regs)).heir
        ≡ length late.state.jobs)
    by None = inl refl
    by (Some a) = inl refl
  heir_is (effect.Spawn r frame made cell next) gives =
      let from = spawns_from graph late.state (length job.frames) f point r frame made cell next
      gives in
      inr from.made_is
  heir_is (effect.Wait on r next) gives = value_heir (effect.Wait on r next) refl
  heir_is (effect.Rest r next) gives = value_heir (effect.Rest r next) refl
  heir_is (effect.Leave v) gives = inl refl
  heir_is (effect.Halt kind at) gives = inl refl
  heir_is effect.Stuck gives = inl refl
