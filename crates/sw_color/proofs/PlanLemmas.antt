-- Plans as the program makes them.
use Rattle.std.proofs.Common.{◌≡◌, ℕ, Bool, true, false, cond, not, List, [], ◌∷◌, ◌++◌, refl, ap, sym, ◌∙◌}
use Rattle.std.proofs.Common.{Option, Some, None, slice_get, option_to_list}
use Rattle.std.proofs.lemmas.List.{append-nil}
use Rattle.std.specs.Prelude.{option_and_then, flat_map}
use Rattle.std.specs.Option.{option_map_or}
use Rattle.sw_graph.specs.declared.graph.Graph.{Graph}
use Rattle.sw_graph.specs.declared.point.Point.{Point}
use Rattle.sw_graph.specs.declared.point.Point.TheVariants as lent_as
use Rattle.sw_graph.specs.Points as points
use Rattle.sw_graph.specs.Lent.{lent_point}
use Rattle.sw_value.specs.declared.value.Value.{Value, out-Value, roll-Value, roll-out-Value}
use Rattle.sw_value.specs.declared.value.Value.TheOpen as layer
use Rattle.sw_value.specs.declared.value.Value as folds
use Rattle.sw_value.specs.declared.frame.Frame.{Frame}
use Rattle.sw_value.specs.declared.state.State.{State}
use Rattle.sw_value.specs.declared.effect.Effect.{Effect}
use Rattle.sw_value.specs.declared.effect.Effect.TheVariants as effect
use Rattle.sw_value.specs.declared.effect.Act.{Act}
use Rattle.sw_value.specs.declared.effect.Act.TheVariants.{Dispatch, Wake, Execute}
use Rattle.sw_value.specs.Frame.{point_at}
use Rattle.sw_value.specs.Job.{top_frame}
use Rattle.sw_color_rules.specs.declared.colors.Owner.{Owner}
use Rattle.sw_color_rules.specs.declared.colors.Tint.{Tint}
use Rattle.sw_color_rules.specs.declared.colors.Colors.{Colors}
use Rattle.sw_color_rules.specs.declared.plan.FrameChange.{FrameChange}
use Rattle.sw_color_rules.specs.Tints.{colors_of}
use Rattle.sw_color_rules.specs.Tints.{held, references_in, layer_references, colors_in, color_number}
use Rattle.sw_color_rules.specs.Plans.{begun_with, joining, no_plan, changes_by}
use Rattle.sw_color_rules.specs.Plans.{store_color, is_make, effect_plan, plan_at, plan_of, top_here, last_of}
use Rattle.sw_color.specs.Reading.{read_point, here_number, here_owner, is_plain, layer_plain, effect_colors}

pub begun_is : (actor : Option ℕ) (owner : Owner) (begins : ℕ → FrameChange) (next : ℕ) (ns : List ℕ)
    → begun_with actor owner begins next ns
    ≡ record (joining (here_number actor next ∷ ns)) {
      fresh = here_owner actor owner;
      frame = begins (here_number actor next);
    }
begun_is None owner begins next ns = refl
begun_is (Some a) owner begins next ns = refl

pub ruleset begun_here = (begun_is)

pub lent_is : (point : Point) → lent_point (Some point) ≡ Some (read_point point)
lent_is (lent_as.Middle instr) = refl
lent_is (lent_as.End last) = refl

pub ruleset lent = (lent_is)

pub boxed_alone : (tints : List Tint) (v : Value) → colors_of tints (v ∷ []) ≡ colors_in tints v
boxed_alone tints v = append-nil (colors_in tints v)

pub ruleset boxes = (boxed_alone)

-- ---- values without colours
plain_refers : (v : Value) → is_plain v ≡ true → references_in v ≡ []
plain_refers v plain = ap references_in (sym (roll-out-Value v)) ∙ by (out-Value v) plain where
  by : (l : layer.Value-F Value) → layer_plain l ≡ true → references_in (roll-Value l) ≡ []
  by (layer.Int n) e = folds.fold-roll-Value (List ℕ) layer_references (layer.Int n)
  by (layer.Bool b) e = folds.fold-roll-Value (List ℕ) layer_references (layer.Bool b)
  by layer.Unit e = folds.fold-roll-Value (List ℕ) layer_references layer.Unit
  by (layer.Cell c) e = cc
  by (layer.Group parts) e = cc
  by (layer.Case tag payload) e = cc

plain_colors : (tints : List Tint) (v : Value) → not (is_plain v) ≡ false → colors_in tints v ≡ []
unfolding colors_in
plain_colors tints v e = ap (flat_map (held tints)) (plain_refers v (by (is_plain v) e)) where
  by : (b : Bool) → not b ≡ false → b ≡ true
  by true h = refl
  by false h = cc

-- what is one colour already
alone : (o : Option ℕ) (job : ℕ) → changes_by job (joining (option_to_list o ++ [])) ≡ []
alone None job = refl
alone (Some n) job = refl

stored_alone : (colors : Colors) (job : ℕ) (color : Option ℕ) (ns : List ℕ) → ns ≡ []
    → changes_by job (joining (store_color colors job color ++ ns)) ≡ []
unfolding top_here
stored_alone colors job None ns e =
    ap (λ l. changes_by job (joining (top_here colors job ++ l))) e
    ∙ alone (option_and_then last_of (slice_get colors.heres job)) job
stored_alone colors job (Some n) ns e =
    ap (λ l. changes_by job (joining (n ∷ l))) e

effect_still : (graph : Graph) (colors : Colors) (job : ℕ) (top : Frame) (point : points.Point)
    (e : Effect) → effect_colors e ≡ false
    → changes_by job (effect_plan graph colors job top point e) ≡ []
effect_still graph colors job top point (effect.Set r v next) still = by (is_make point) where
  by : (t : Bool) → changes_by job (cond t (joining (colors_in colors.cells v)) no_plan) ≡ []
  by true = ap (λ ns. changes_by job (joining ns)) (plain_colors colors.cells v still)
  by false = refl
effect_still graph colors job top point (effect.SetField r i v next) still = cc
effect_still graph colors job top point (effect.Print r line next) still = refl
effect_still graph colors job top point (effect.New r cell c next) still = cc
effect_still graph colors job top point (effect.Write c slot v next) still =
    stored_alone colors job (color_number colors.cells c) (colors_in colors.cells v)
    (plain_colors colors.cells v still)
effect_still graph colors job top point (effect.WriteGlobal g v next) still =
    stored_alone colors job None (colors_in colors.cells v) (plain_colors colors.cells v still)
effect_still graph colors job top point (effect.Goto next) still = refl
effect_still graph colors job top point (effect.Enter frame next) still = cc
effect_still graph colors job top point (effect.Spawn r frame made cell next) still = cc
effect_still graph colors job top point (effect.Wait on r next) still = refl
effect_still graph colors job top point (effect.Rest r next) still = refl
effect_still graph colors job top point (effect.Leave v) still = cc
effect_still graph colors job top point (effect.Halt kind at) still = refl
effect_still graph colors job top point effect.Stuck still = refl

-- whether an act may change colours
abbrev pub act_colors : Act → Bool
act_colors (Execute e) = effect_colors e
act_colors _ = false

pub act_still : (graph : Graph) (state : State) (colors : Colors) (job : ℕ) (act : Act)
    → act_colors act ≡ false → changes_by job (plan_of graph state colors job act) ≡ []
act_still graph state colors job Dispatch still = refl
act_still graph state colors job (Wake ended r v) still = refl
act_still graph state colors job (Execute e) still =
    by (option_and_then top_frame (slice_get state.jobs job)) where
      at_point : (top : Frame) (o : Option points.Point)
          → changes_by job (option_map_or (λ point. effect_plan graph colors job top point e) o no_plan)
          ≡ []
      at_point top None = refl
      at_point top (Some point) = effect_still graph colors job top point e still

      by : (o : Option Frame)
          → changes_by job (option_map_or (plan_at graph colors job e) o no_plan) ≡ []
      by None = refl
      by (Some top) = at_point top (point_at graph top)

pub ruleset no_changes = (act_still)
