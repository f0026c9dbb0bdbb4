-- The variables of a state are locations.
use Rattle.std.proofs.Common.{◌≡◌, ℕ, true, false, cond, Option, Some, None, List, ap, ◌∙◌}
use Rattle.std.specs.Prelude.{option_and_then, unwrap_or, IsTrue, IsSome}
use Rattle.std.specs.Option.{option_map}
use Rattle.std.specs.List.{slice_get}
use Rattle.sw_types.specs.declared.shape.Part.{Part}
use Rattle.sw_types.specs.declared.shape.Shape.{Shape}
use Rattle.sw_graph.specs.declared.function.GlobalKind.{GlobalKind}
use Rattle.sw_graph.specs.declared.graph.Graph.{Graph}
use Rattle.sw_value.specs.declared.cell.HeapCell.TheVariants as cell
use Rattle.sw_value.specs.declared.race.Place.TheVariants.{Prop, Global, BoxOf}
use Rattle.sw_value.specs.declared.state.State.{State}
use Rattle.sw_value.specs.declared.value.Value.{Value}
use Rattle.sw_value.specs.Access.{box_in, is_var_part, var_part, part_in}
use Rattle.sw_machine_access_facts.specs.Location.{IsLocation, IsVar}

pub box_is : (graph : Graph) (state : State) (c : ℕ) (v : Value)
    → slice_get state.cells c ≡ Some (cell.BoxOf v) → IsLocation graph state (BoxOf c)
box_is graph state c v is = ap (option_and_then (box_in c)) is

pub global_is : (graph : Graph) (state : State) (g : ℕ) (kind : GlobalKind)
    → slice_get graph.globals g ≡ Some kind → IsTrue kind.mutable
    → IsLocation graph state (Global g)
global_is graph state g kind is var =
    ap (option_and_then (λ (k : GlobalKind). cond k.mutable (Some (Global g)) None)) is
    ∙ ap (λ b. cond b (Some (Global g)) None) var

-- whether a part is a `var`
pub part_mutable : (graph : Graph) (k i : ℕ) (shape : Shape) (part : Part)
    → slice_get graph.shapes k ≡ Some shape → slice_get shape.parts i ≡ Some part
    → is_var_part graph.shapes k i ≡ part.mutable
part_mutable graph k i shape part shape_is part_is =
    ap (λ o. unwrap_or (option_and_then
    (λ (s : Shape). option_map (λ (p : Part). p.mutable) (slice_get s.parts i)) o) false)
    shape_is
    ∙ ap (λ o. unwrap_or (option_map (λ (p : Part). p.mutable) o) false) part_is

var_is : (graph : Graph) (k i : ℕ) → IsVar graph k i → is_var_part graph.shapes k i ≡ true
var_is graph k i var =
    part_mutable graph k i var.shape var.part var.shape_is var.part_is ∙ var.mutable

part_is : (graph : Graph) (c i k : ℕ) (parts : List Value) → IsSome (slice_get parts i)
    → IsVar graph k i → var_part graph c i k parts ≡ Some (Prop c i)
part_is graph c i k parts has var = by (slice_get parts i) has where
  by : (o : Option Value) → IsSome o
      → option_and_then (λ _. cond (is_var_part graph.shapes k i) (Some (Prop c i)) None) o
      ≡ Some (Prop c i)
  by None has = cc
  by (Some v) has = ap (λ b. cond b (Some (Prop c i)) None) (var_is graph k i var)

pub object_is : (graph : Graph) (state : State) (c i k : ℕ) (parts : List Value)
    → slice_get state.cells c ≡ Some (cell.Object k parts) → IsSome (slice_get parts i)
    → IsVar graph k i → IsLocation graph state (Prop c i)
object_is graph state c i k parts is has var =
    ap (option_and_then (part_in graph c i)) is ∙ part_is graph c i k parts has var

pub actor_is : (graph : Graph) (state : State) (c i k : ℕ) (parts : List Value)
    → slice_get state.cells c ≡ Some (cell.Actor k parts) → IsSome (slice_get parts i)
    → IsVar graph k i → IsLocation graph state (Prop c i)
actor_is graph state c i k parts is has var =
    ap (option_and_then (part_in graph c i)) is ∙ part_is graph c i k parts has var
