-- In a kinded state of a clean graph colours fit.
use Rattle.std.specs.Prelude.{IsSome}
use Rattle.std.specs.Option.{option_map}
use Rattle.std.specs.List.{list_all}
use Rattle.std.proofs.Common.{◌≡◌, ◌||◌, ℕ, true, false, not, List, Option, Some, None, map, refl}
use Rattle.std.proofs.Common.{sym, ap, ◌∙◌}
use Rattle.std.proofs.lemmas.Bool.{and_parts}
use Rattle.std.proofs.lemmas.Option.{slice_get-map}
use Rattle.sw_list.proofs.Members.{all_at}
use Rattle.sw_list.proofs.ListLemmas.{at_index}
use Rattle.sw_types.specs.declared.shape.ShapeKind.{ShapeKind}
use Rattle.sw_types.specs.declared.shape.ShapeKind.TheVariants.{Class}
use Rattle.sw_types.specs.Held.{types_in, is_value}
use Rattle.sw_graph.specs.declared.function.RegKind.{RegKind}
use Rattle.sw_graph.specs.declared.graph.Graph.{Graph}
use Rattle.sw_graph.specs.Clean.{IsClean, ShapeClean, may_cross, is_untracked, is_marked_kind}
use Rattle.sw_graph.specs.Kinds.{is_class}
use Rattle.sw_graph.specs.Placed.{ActorOfClass}
use Rattle.sw_value.specs.declared.cell.HeapCell.TheVariants.{Closure}
use Rattle.sw_value.specs.declared.state.State.{State}
use Rattle.sw_value.specs.declared.value.Value.{Value}
use Rattle.sw_machine_kind_facts.specs.Kinded.{Kinded}
use Rattle.sw_machine_kind_facts.specs.Kinds.{ClosureMade}
use Rattle.sw_reach_facts.specs.Coloured.{ConformancesHold, ClosureCrosses, HaveColours, ColoursFit}

-- a struct or an enum has no global actor
without_actor : (actor : Option ℕ) (kind : ShapeKind) → (IsSome actor → kind ≡ Class)
    → is_value kind ≡ true → actor ≡ None
without_actor None kind only value = refl
without_actor (Some actor) kind only value =
    let e : true ≡ false = sym value ∙ ap is_value (only refl) in cc

pub conformances_hold : (graph : Graph) → IsClean graph → ConformancesHold graph
conformances_hold graph clean k shape at value conforms =
    (and_parts (list_all (may_cross graph) (types_in shape))
    (not (is_class shape.kind) || list_all (λ part. not part.mutable) shape.parts)
    (at_index (ShapeClean graph) graph.shapes k shape clean.conformances at conforms
    (without_actor shape.actor shape.kind
    (at_index ActorOfClass graph.shapes k shape clean.placed.actors at) value))).0

marked_crosses : (graph : Graph) → IsClean graph → (cells : List RegKind) (f : ℕ)
    (captures : List Value) (kind : RegKind) → ClosureMade graph cells f captures kind
    → is_marked_kind (Some kind) ≡ true → ClosureCrosses graph cells f captures
marked_crosses graph clean cells f captures kind made marked =
    let fits = clean.closures made.maker.number made.body made.maker.is made.maker.point _
    made.maker.here (ap is_marked_kind made.given ∙ marked) in
    record {
      free = fits.0;
      kinds = made.kinds;
      have = made.have;
      untracked = λ i one at. all_at (is_untracked graph) (map Some made.kinds) i (Some one)
          (sym (ap (list_all (is_untracked graph)) made.are) ∙ fits.1)
          (slice_get-map Some made.kinds i ∙ ap (option_map Some) at);
    }

pub colours_fit : {C : Type 0} (graph : Graph) → IsClean graph → (state : State)
    (kinded : Kinded graph state) (colours : List (Option C))
    → HaveColours graph state.cells colours
    → ColoursFit graph kinded.world state.cells colours
colours_fit graph clean state kinded colours have = record {
  fit = kinded.fits.cells;
  coloured = have;
  marked = λ c f captures kind here at marked.
      let fits = kinded.fits.cells c (Closure f captures) kind here at in
      marked_crosses graph clean kinded.world.cells f captures kind fits.made marked;
}
