-- The `let`s are no locations.
use Rattle.std.proofs.Common.{◌≡◌, ℕ, false, cond, Option, Some, None, List, ap, sym, ◌∙◌}
use Rattle.std.specs.Prelude.{option_and_then}
use Rattle.std.specs.List.{slice_get}
use Rattle.sw_graph.specs.declared.function.GlobalKind.{GlobalKind}
use Rattle.sw_graph.specs.declared.graph.Graph.{Graph}
use Rattle.sw_value.specs.declared.cell.HeapCell.TheVariants.{Object, Actor}
use Rattle.sw_value.specs.declared.race.Place.{Place}
use Rattle.sw_value.specs.declared.race.Place.TheVariants.{Prop, Global}
use Rattle.sw_value.specs.declared.state.State.{State}
use Rattle.sw_value.specs.declared.value.Value.{Value}
use Rattle.sw_value.specs.Access.{is_var_part, var_part, part_in}
use Rattle.sw_machine_access_facts.specs.Location.{IsLocation}
use Rattle.sw_machine_access_facts.proofs.LocationLemmas.{part_mutable}
use Rattle.sw_machine_let_facts.specs.Lets.{IsLet}

is_no_var : (graph : Graph) (k i : ℕ) → IsLet graph k i → is_var_part graph.shapes k i ≡ false
is_no_var graph k i is =
    part_mutable graph k i is.shape is.part is.shape_is is.part_is ∙ is.fixed

nothing : (place : Place) → None ≡ Some place → ⊥
nothing place e = cc

-- whatever the parts are
part_apart : (graph : Graph) (c i k : ℕ) (parts : List Value) → IsLet graph k i
    → var_part graph c i k parts ≡ Some (Prop c i) → ⊥
part_apart graph c i k parts is found = by (slice_get parts i) found where
  by : (o : Option Value)
      → option_and_then (λ _. cond (is_var_part graph.shapes k i) (Some (Prop c i)) None) o
      ≡ Some (Prop c i) → ⊥
  by None e = nothing (Prop c i) e
  by (Some v) e =
      nothing (Prop c i)
      (sym (ap (λ b. cond b (Some (Prop c i)) None) (is_no_var graph k i is)) ∙ e)

pub object_apart : (graph : Graph) (state : State) (c i k : ℕ) (parts : List Value)
    → slice_get state.cells c ≡ Some (Object k parts) → IsLet graph k i
    → IsLocation graph state (Prop c i) → ⊥
object_apart graph state c i k parts at is found =
    part_apart graph c i k parts is
    (sym (ap (option_and_then (part_in graph c i)) at) ∙ found)

pub actor_apart : (graph : Graph) (state : State) (c i k : ℕ) (parts : List Value)
    → slice_get state.cells c ≡ Some (Actor k parts) → IsLet graph k i
    → IsLocation graph state (Prop c i) → ⊥
actor_apart graph state c i k parts at is found =
    part_apart graph c i k parts is
    (sym (ap (option_and_then (part_in graph c i)) at) ∙ found)

pub global_apart : (graph : Graph) (state : State) (g : ℕ) (kind : GlobalKind)
    → slice_get graph.globals g ≡ Some kind → kind.mutable ≡ false
    → IsLocation graph state (Global g) → ⊥
global_apart graph state g kind at fixed found =
    nothing (Global g)
    (sym (ap (option_and_then (λ (k : GlobalKind). cond k.mutable (Some (Global g)) None)) at
    ∙ ap (λ b. cond b (Some (Global g)) None) fixed) ∙ found)
