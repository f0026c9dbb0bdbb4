-- A call: what it makes and joins by hue.
use Rattle.std.proofs.Common.{◌≡◌, ◌<◌, ℕ, Bool, true, false, cond, Option, Some, None, List, []}
use Rattle.std.proofs.Common.{◌∷◌, ◌++◌, refl}
use Rattle.std.proofs.Common.{flat_map, ◌+◌, sym, subst, ap, ◌∙◌}
use Rattle.std.specs.Prelude.{option_and_then, is_some, ◌&&◌}
use Rattle.std.specs.List.{slice_get}
use Rattle.std.specs.Option.{option_map_or}
use Rattle.std.proofs.lemmas.List.{append-nil}
use Rattle.std.proofs.lemmas.List.Elements.{All-append, All-nil}
use Rattle.sw_graph.specs.declared.graph.Graph.{Graph}
use Rattle.sw_graph.specs.declared.instr.Instr.TheVariants as instr
use Rattle.sw_graph.specs.Points.{Point, Middle}
use Rattle.sw_value.specs.declared.effect.Effect.{Effect}
use Rattle.sw_value.specs.declared.effect.Effect.TheVariants as effect
use Rattle.sw_value.specs.declared.frame.Frame.{Frame}
use Rattle.sw_value.specs.declared.state.State.{State}
use Rattle.sw_value.specs.declared.value.Value.{Value, out-Value, roll-Value, roll-out-Value}
use Rattle.sw_value.specs.declared.value.Value.{fold-roll-Value}
use Rattle.sw_value.specs.declared.value.Value.TheOpen as layer
use Rattle.sw_value.specs.Call.{closure_frame}
use Rattle.sw_value.specs.Effect.{enter_of, needs, point_effect}
use Rattle.sw_value.specs.Value.{layer_reference, reference_of, value_at, values_at}
use Rattle.sw_color_rules.specs.declared.colors.Colors.{Colors}
use Rattle.sw_color_rules.specs.declared.colors.Owner.TheVariants as owner
use Rattle.sw_color_rules.specs.declared.colors.Tint.{Tint}
use Rattle.sw_color_rules.specs.declared.plan.FrameChange.TheVariants.{Pushed}
use Rattle.sw_color_rules.specs.Changes.{after_changes}
use Rattle.sw_color_rules.specs.Plans as plans
use Rattle.sw_color_rules.specs.Plans.{begun_with, called_number, entered, next_color, sending_of}
use Rattle.sw_color_rules.specs.Ranges.{AreBelow}
use Rattle.sw_color_rules.specs.Tints.{colors_in, held, layer_references, references_in}
use Rattle.sw_color_rules.proofs.NumberLemmas.{held_option_below}
use Rattle.sw_late_facts.specs.Late.{destination_by, late_by}
use Rattle.sw_owner_facts.specs.Colours.{Actor, Colour}
use Rattle.sw_owner_facts.specs.View.{Frame as Spot}
use Rattle.sw_reach_facts.specs.Reached.{colours_of}
use Rattle.sw_secure_facts.specs.Painting.{MayUnite, Unites, begun_here, called_closure, called_on}
use Rattle.sw_secure_facts.specs.Painting.{joined_by_call, passed, with_here}
use Rattle.sw_hue_facts.specs.Hued.{SameColours, hued, hues_of}
use Rattle.sw_secure_late_facts.proofs.Begun.{BeginsOn, HasNumber, Nowhere, On, called_begins}
use Rattle.sw_secure_late_facts.proofs.Begun.{pushed_fits}
use Rattle.sw_secure_late_facts.proofs.Joining.{plan_unites, plan_waits}
use Rattle.sw_secure_late_facts.proofs.Same.{same_hues, same_refl}
use Rattle.sw_secure_late_facts.proofs.Showing.{Shows, passed_made, passed_shows}

-- ---- the closure that is called
cell_of : (l : layer.Value-F Value) (c : ℕ) → layer_reference l ≡ Some c → l ≡ layer.Cell c
cell_of (layer.Cell d) c e = ap layer.Cell (let same : d ≡ c = cc in same)
cell_of (layer.Int n) c e = cc
cell_of (layer.Bool b) c e = cc
cell_of layer.Unit c e = cc
cell_of (layer.Group vs) c e = cc
cell_of (layer.Case tag vs) c e = cc

referred : (v : Value) (c : ℕ) → reference_of v ≡ Some c → references_in v ≡ c ∷ []
referred v c e =
    ap references_in (sym (roll-out-Value v) ∙ ap roll-Value (cell_of (out-Value v) c e))
    ∙ fold-roll-Value (List ℕ) layer_references (layer.Cell c)

colors_held : (tints : List Tint) (v : Value) (c : ℕ) → reference_of v ≡ Some c
    → colors_in tints v ≡ held tints c
unfolding colors_in
colors_held tints v c e =
    ap (flat_map (held tints)) (referred v c e) ∙ append-nil (held tints c)

stuck : {A : Type 0} (o : Option A) (frame : Frame) (next : ℕ)
    → needs o (λ x. effect.Stuck) ≡ effect.Enter frame next → ⊥
stuck None frame next e = cc
stuck (Some x) frame next e = cc

module _ (graph : Graph) (state : State) (colors : Colors) (q : Spot) (shows : Shows state colors q)
    (f frame : Frame) (next depth : ℕ) where
  pub closure_shows : (point : Point) → point_effect graph state depth f point ≡ effect.Enter frame
      next
      → SameColours (hues_of colors.palette (plans.called_closure colors point f))
      (called_closure state (hued colors) f point)
  closure_shows (Middle (instr.CallClosure at dst closure args)) gives = by
      (value_at f.regs closure.reg) refl
    where
      effect_by : Option ℕ → Effect
      effect_by r = needs (values_at f.regs args) (λ values. needs
          (option_and_then (closure_frame graph f dst values)
          (option_and_then (λ c. slice_get state.cells c) r)) (enter_of depth (f.point + 1) at))

      cell : (v : Value) → value_at f.regs closure.reg ≡ Some v → (r : Option ℕ) → reference_of v
          ≡ r
          → SameColours (hues_of colors.palette (option_map_or (held colors.cells) r []))
          (colours_of state.cells (hued colors).cells v)
      cell v is (Some c) refers =
          subst (λ ns. SameColours (hues_of colors.palette ns)
          (colours_of state.cells (hued colors).cells v))
          (colors_held colors.cells v c refers) (shows.values v)
      cell v is None refers = absurd (stuck (values_at f.regs args) frame next
          (sym (ap effect_by (ap (option_and_then reference_of) is ∙ refers)) ∙ gives))

      by : (o : Option Value) → value_at f.regs closure.reg ≡ o
          → SameColours (hues_of colors.palette
          (option_map_or (held colors.cells) (option_and_then reference_of o) []))
          (option_map_or (colours_of state.cells (hued colors).cells) o [])
      by None is = same_refl []
      by (Some v) is = cell v is (reference_of v) refl
  closure_shows _ gives = same_refl []

  closure_made : (point : Point) → AreBelow (next_color colors)
      (plans.called_closure colors point f)
  closure_made (Middle (instr.CallClosure at dst closure args)) =
      held_option_below (next_color colors) colors.cells shows.made.cells
      (option_and_then reference_of (value_at f.regs closure.reg))
  closure_made _ = All-nil (λ n. n < next_color colors)

  module _ (point : Point) (gives : point_effect graph state depth f point ≡ effect.Enter frame
      next)
      (has : HasNumber colors frame.executor) where
    abbrev ns : List ℕ
    ns = plans.called_closure colors point f
        ++ plans.passed colors.cells (sending_of graph frame.function) frame.regs

    abbrev cs : List Colour
    cs = called_closure state (hued colors) f point
        ++ passed state (hued colors) (sending_of graph frame.function) frame.regs

    pub below : AreBelow (next_color colors) ns
    below = All-append (λ n. n < next_color colors) (plans.called_closure colors point f)
        (plans.passed colors.cells (sending_of graph frame.function) frame.regs)
        (closure_made point)
        (passed_made state colors q shows (sending_of graph frame.function) frame.regs)

    pub same : SameColours (hues_of colors.palette ns) cs
    same = same_hues colors.palette (plans.called_closure colors point f)
        (plans.passed colors.cells (sending_of graph frame.function) frame.regs)
        (called_closure state (hued colors) f point)
        (passed state (hued colors) (sending_of graph frame.function) frame.regs)
        (closure_shows point gives)
        (passed_shows state colors q shows (sending_of graph frame.function) frame.regs)

    abbrev joined : Bool → Option Actor → List Colour
    joined crossing on = cond (crossing && is_some on) []
        (begun_here on q.job (next_color colors) ∷ cs)

    abbrev Paints : Bool → Option Actor → Option ℕ → Type 0
    Paints crossing on number = Unites q.job (joined crossing on)
        (with_here q.job (begun_here on q.job (next_color colors)) (hued colors))
        (hued (after_changes (late_by q.job
        (begun_with number (owner.Job q.job) Pushed (next_color colors) ns)
        (cond crossing number None)) colors))

    by : (crossing : Bool) (on : Option Actor) (number : Option ℕ) → BeginsOn colors on number
        → MayUnite q (joined crossing on) → Paints crossing on number
    by false on number begins may =
        plan_unites q colors (begun_with number (owner.Job q.job) Pushed (next_color colors) ns)
        (begun_here on q.job (next_color colors) ∷ cs)
        (with_here q.job (begun_here on q.job (next_color colors)) (hued colors)) shows.whole
        (pushed_fits colors q shows.whole shows.made on number begins ns cs below same) may
    by true _ _ Nowhere may =
        plan_unites q colors (begun_with None (owner.Job q.job) Pushed (next_color colors) ns)
        (begun_here None q.job (next_color colors) ∷ cs)
        (with_here q.job (begun_here None q.job (next_color colors)) (hued colors)) shows.whole
        (pushed_fits colors q shows.whole shows.made None None Nowhere ns cs below same) may
    by true _ _ (On a n inside is) may =
        plan_waits q colors (begun_with (Some n) (owner.Job q.job) Pushed (next_color colors) ns)
        (begun_here (Some a) q.job (next_color colors) ∷ cs)
        (with_here q.job (begun_here (Some a) q.job (next_color colors)) (hued colors)) n
        (pushed_fits colors q shows.whole shows.made (Some a) (Some n) (On a n inside is) ns cs
        below same)

    -- a call paints the frame's `Here`, and joins what is passed with it
    pub call_paints : MayUnite q (joined_by_call graph state (hued colors) q (next_color colors) f
        point frame)
        → Unites q.job (joined_by_call graph state (hued colors) q (next_color colors) f point
        frame)
        (with_here q.job (begun_here (called_on point frame) q.job (next_color colors))
        (hued colors))
        (hued (after_changes (late_by q.job (entered graph colors q.job f point frame)
        (destination_by colors f point (effect.Enter frame next))) colors))
    call_paints may = by frame.crossing (called_on point frame) (called_number colors point frame)
        (called_begins colors point frame has) may
