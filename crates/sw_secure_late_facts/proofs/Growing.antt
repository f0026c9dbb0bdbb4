-- The tints of a state fit its cells after an effect too, once what the effect makes is noted.
use Rattle.std.proofs.Common.{◌≡◌, ℕ, Bool, true, false, cond, Option, Some, None, List, [], ◌∷◌}
use Rattle.std.proofs.Common.{◌++◌}
use Rattle.std.proofs.Common.{length, Contains, refl, sym, subst, ap, ◌∙◌}
use Rattle.std.specs.Option.{option_map, option_to_list}
use Rattle.std.proofs.lemmas.List.Sums.{fold-append}
use Rattle.sw_list.proofs.Members.{none_in, one_in}
use Rattle.sw_types.specs.Sendable.{sends_at}
use Rattle.sw_graph.specs.declared.function.Function.{Function}
use Rattle.sw_graph.specs.declared.graph.Graph.{Graph}
use Rattle.sw_graph.specs.declared.instr.Operand.{Operand}
use Rattle.sw_graph.specs.Points.{Point}
use Rattle.sw_value.specs.declared.cell.HeapCell.{HeapCell}
use Rattle.sw_value.specs.declared.cell.HeapCell.TheVariants.{Object, Actor, BoxOf, Closure, TaskOf}
use Rattle.sw_value.specs.declared.effect.Effect.{Effect}
use Rattle.sw_value.specs.declared.effect.Effect.TheVariants as effect
use Rattle.sw_value.specs.declared.frame.Frame.{Frame}
use Rattle.sw_value.specs.declared.job.Job.{Job}
use Rattle.sw_value.specs.declared.state.State.{State}
use Rattle.sw_value.specs.declared.value.Value.{Value}
use Rattle.sw_value.specs.Effect.{point_effect}
use Rattle.sw_value.specs.Reach.{after_effect}
use Rattle.sw_value.specs.State.{add_cell, add_job, halt, in_cell, in_job, set_global}
use Rattle.sw_value.specs.Value.{values_at}
use Rattle.sw_color_rules.specs.declared.colors.Colors.{Colors}
use Rattle.sw_color_rules.specs.declared.colors.Owner.{Owner}
use Rattle.sw_color_rules.specs.declared.colors.Owner.TheVariants as owner
use Rattle.sw_color_rules.specs.declared.colors.Tint.{Tint}
use Rattle.sw_color_rules.specs.declared.colors.Tint.TheVariants.{Bare}
use Rattle.sw_color_rules.specs.declared.plan.FrameChange.TheVariants.{Stays, Pushed, Begun}
use Rattle.sw_color_rules.specs.declared.plan.Plan.{Plan}
use Rattle.sw_color_rules.specs.Changes.{Fresh, Mark, after_change, after_changes}
use Rattle.sw_color_rules.specs.Palette.{IsWhole}
use Rattle.sw_color_rules.specs.Plans.{bare_cell, begun_with, called_closure, called_number}
use Rattle.sw_color_rules.specs.Plans.{colored_cell}
use Rattle.sw_color_rules.specs.Plans.{effect_plan, frame_changes, is_isolated, is_make, joining}
use Rattle.sw_color_rules.specs.Plans.{new_cell}
use Rattle.sw_color_rules.specs.Plans.{new_closure, next_color, no_plan, number_on, passed}
use Rattle.sw_color_rules.specs.Plans.{sending_of}
use Rattle.sw_color_rules.specs.Plans.{top_here}
use Rattle.sw_color_rules.specs.Ranges.{AreMade}
use Rattle.sw_color_rules.specs.Tints.{colors_in, colors_of}
use Rattle.sw_owner_facts.specs.View.{Frame as Spot}
use Rattle.sw_reach_facts.specs.Coloured.{CaptureEarlier}
use Rattle.sw_reach_facts.specs.Named.{NamesCells, values_in}
use Rattle.sw_machine_kind_facts.specs.Kinded.{Kinded}
use Rattle.sw_view_facts.specs.Standing.{StandsAt}
use Rattle.sw_view_facts.specs.Views.{frame_at}
use Rattle.sw_view_facts.proofs.NewLemmas.{registers_name}
use Rattle.sw_view_facts.proofs.TopLemmas.{frame_was}
use Rattle.sw_secure_cell_facts.proofs.Makers.{MakesAt, actor, box, closure, made_at, object}
use Rattle.sw_store_facts.proofs.Operands.{of_operand}
use Rattle.sw_hue_facts.specs.Tinted.{TintFits, TintsFit}
use Rattle.sw_hue_facts.proofs.NewTints.{new_tints_fit, task_fits}
use Rattle.sw_hue_facts.proofs.Retinted.{tints_before, tints_begun, tints_popped, tints_pushed}
use Rattle.sw_hue_facts.proofs.TintedCells.{tints_added, tints_written}
use Rattle.sw_secure_late_facts.proofs.Joining.{base_of}

module _ (graph : Graph) (state : State) (kinded : Kinded graph state) (colors : Colors)
    (whole : IsWhole colors.palette) (made : AreMade colors)
    (fit : TintsFit graph state.cells colors)
    (earlier : CaptureEarlier state.cells) (q : Spot) (job : Job) (f : Frame) (function : Function)
    (point : Point) (stands : StandsAt graph state q job f function point) where
  there : frame_at state q ≡ Some f
  there = frame_was state q job f stands.top

  -- ---- a cell that is made
  named_operands : (args : List Operand) (values : List Value) → values_at f.regs args ≡ Some values
      → (v : Value) → Contains values v → NamesCells state.cells v
  named_operands args values are v has =
      let of = of_operand f.regs args values v are has in
      registers_name graph state kinded q f of.0.reg v there of.2

  -- its values refer to cells that were there
  record IsNew (cell : HeapCell) (c : ℕ) : Type 0 where
    number : c ≡ length state.cells
    named : (v : Value) → Contains (values_in cell) v → NamesCells state.cells v

  is_new : (r c next : ℕ) (cell : HeapCell) → MakesAt state f point (effect.New r cell c next)
      → IsNew cell c
  is_new r c next cell (box at dst src v here has is) =
      let number : c ≡ length state.cells = cc in
      let same : BoxOf v ≡ cell = cc in
      record {
        number = number;
        named = subst (λ k. (u : Value) → Contains (values_in k) u → NamesCells state.cells u) same
            (λ u among. subst (NamesCells state.cells) (one_in v u among)
            (registers_name graph state kinded q f src.reg v there has));
      }
  is_new r c next cell (object at dst k args parts here have is) =
      let number : c ≡ length state.cells = cc in
      let same : Object k parts ≡ cell = cc in
      record {
        number = number;
        named = subst (λ k. (u : Value) → Contains (values_in k) u → NamesCells state.cells u) same
            (named_operands args parts have);
      }
  is_new r c next cell (actor at dst k args parts here have is) =
      let number : c ≡ length state.cells = cc in
      let same : Actor k parts ≡ cell = cc in
      record {
        number = number;
        named = subst (λ k. (u : Value) → Contains (values_in k) u → NamesCells state.cells u) same
            (named_operands args parts have);
      }
  is_new r c next cell (closure at dst g captures values here have is) =
      let number : c ≡ length state.cells = cc in
      let same : Closure g values ≡ cell = cc in
      record {
        number = number;
        named = subst (λ k. (u : Value) → Contains (values_in k) u → NamesCells state.cells u) same
            (named_operands captures values have);
      }

  -- its plan changes no frame
  no_frame : (j c : ℕ) (cell : HeapCell) → (new_cell graph colors j c cell).frame ≡ Stays
  no_frame j c (Object k parts) = by (sends_at graph.shapes k) where
    by : (b : Bool) → (cond b (bare_cell (top_here colors j ++ colors_of colors.cells parts))
        (colored_cell j (next_color colors) (colors_of colors.cells parts))).frame ≡ Stays
    by true = refl
    by false = refl
  no_frame j c (Actor k parts) = refl
  no_frame j c (BoxOf v) = refl
  no_frame j c (Closure g captures) = by (is_isolated graph g) where
    by : (b : Bool) → (new_closure colors b j (colors_of colors.cells captures)).frame ≡ Stays
    by true = refl
    by false = refl
  no_frame j c (TaskOf k) = refl

  fresh_of : Option Owner → Colors
  fresh_of o = after_changes (option_to_list (option_map Fresh o)) colors

  fresh_fits : (o : Option Owner) → TintsFit graph state.cells (fresh_of o)
  unfolding fresh_of
  fresh_fits None = fit
  fresh_fits (Some o) = tints_before graph state.cells o colors whole made fit

  added : (j : ℕ) (plan : Plan) (tint : Tint) (cell : HeapCell) → plan.tint ≡ Some tint
      → plan.frame ≡ Stays → TintFits graph state.cells (fresh_of plan.fresh) (length state.cells)
      cell tint
      → ((v : Value) → Contains (values_in cell) v → NamesCells state.cells v)
      → TintsFit graph (state.cells ++ cell ∷ []) (base_of j plan colors)
  unfolding fresh_of
  added j plan tint cell is stays fits named =
      subst (TintsFit graph (state.cells ++ cell ∷ []))
      (sym (fold-append after_change colors (option_to_list (option_map Fresh plan.fresh))
      (option_to_list (option_map Mark plan.tint) ++ frame_changes j plan.frame)
      ∙ ap (λ t. after_changes (option_to_list (option_map Mark t) ++ frame_changes j plan.frame)
      (fresh_of plan.fresh)) is
      ∙ ap (λ c. after_changes (frame_changes j c) (after_change (fresh_of plan.fresh) (Mark tint)))
      stays))
      (tints_added graph state.cells (fresh_of plan.fresh) cell tint (fresh_fits plan.fresh) earlier
      named fits)

  new_fits : (r c next : ℕ) (cell : HeapCell) → MakesAt state f point (effect.New r cell c next)
      → TintsFit graph (state.cells ++ cell ∷ [])
      (base_of q.job (new_cell graph colors q.job c cell) colors)
  unfolding fresh_of
  new_fits r c next cell makes =
      let new = is_new r c next cell makes in
      let tint = new_tints_fit graph state.cells colors q.job c fit earlier whole made cell
      new.named in
      added q.job (new_cell graph colors q.job c cell) tint.0 cell tint.1 (no_frame q.job c cell)
      (subst (λ n. TintFits graph state.cells (fresh_of (new_cell graph colors q.job c cell).fresh)
      n cell
      tint.0) new.number tint.2) new.named

  -- ---- a frame that begins
  pushed_fits : (number : Option ℕ) (ns : List ℕ) → TintsFit graph state.cells
      (base_of q.job (begun_with number (owner.Job q.job) Pushed (next_color colors) ns) colors)
  pushed_fits None ns = tints_pushed graph state.cells q.job (next_color colors)
      (after_change colors (Fresh (owner.Job q.job)))
      (tints_before graph state.cells (owner.Job q.job) colors whole made fit)
  pushed_fits (Some a) ns = tints_pushed graph state.cells q.job a colors fit

  task_noted : (t : ℕ) (c : Colors) → TintsFit graph state.cells c
      → TintsFit graph (state.cells ++ TaskOf t ∷ []) (after_change c (Mark Bare))
  task_noted t c fits = tints_added graph state.cells c (TaskOf t) Bare fits earlier
      (λ v has. absurd (none_in v has)) (task_fits graph state.cells c (length state.cells) t)

  begun_fits : (number : Option ℕ) (t : ℕ) (ns : List ℕ) → TintsFit graph
      (state.cells ++ TaskOf t ∷ [])
      (base_of q.job (record (begun_with number (owner.Job t) Begun (next_color colors) ns) {
        tint = Some Bare;
        heir = Some t;
      }) colors)
  begun_fits None t ns = tints_begun graph (state.cells ++ TaskOf t ∷ []) (next_color colors)
      (after_change (after_change colors (Fresh (owner.Job t))) (Mark Bare))
      (task_noted t (after_change colors (Fresh (owner.Job t)))
      (tints_before graph state.cells (owner.Job t) colors whole made fit))
  begun_fits (Some a) t ns = tints_begun graph (state.cells ++ TaskOf t ∷ []) a
      (after_change colors (Mark Bare)) (task_noted t colors fit)

  -- ---- each effect
  set_fits : (b : Bool) (ns : List ℕ)
      → TintsFit graph state.cells (base_of q.job (cond b (joining ns) no_plan) colors)
  set_fits true ns = fit
  set_fits false ns = fit

  pub made_fits : (e : Effect) → point_effect graph state (length job.frames) f point ≡ e
      → TintsFit graph (after_effect q.job e state).cells
      (base_of q.job (effect_plan graph colors q.job f point e) colors)
  unfolding in_job add_job add_cell in_cell set_global halt
  made_fits (effect.Set r v next) gives = set_fits (is_make point) (colors_in colors.cells v)
  made_fits (effect.SetField r i v next) gives = fit
  made_fits (effect.Print r line next) gives = fit
  made_fits (effect.New r cell c next) gives = new_fits r c next cell
      (made_at graph state (length job.frames) f point (effect.New r cell c next) gives refl)
  made_fits (effect.Write c slot v next) gives = tints_written graph slot v state.cells c colors fit
  made_fits (effect.WriteGlobal g v next) gives = fit
  made_fits (effect.Goto next) gives = fit
  made_fits (effect.Enter frame next) gives = pushed_fits (called_number colors point frame)
      (called_closure colors point f ++ passed colors.cells (sending_of graph frame.function)
      frame.regs)
  made_fits (effect.Spawn r frame t cell next) gives = begun_fits (number_on colors frame.executor)
      t
      (passed colors.cells [] frame.regs)
  made_fits (effect.Wait on r next) gives = fit
  made_fits (effect.Rest r next) gives = fit
  made_fits (effect.Leave v) gives = tints_popped graph state.cells q.job colors fit
  made_fits (effect.Halt kind at) gives = fit
  made_fits effect.Stuck gives = fit
