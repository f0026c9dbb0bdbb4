-- What follows from it that only classes have a global actor.
use Rattle.std.proofs.Common.{◌≡◌, ℕ, Option, List, Some, None, not, ◌||◌, All, refl, ap}
use Rattle.std.proofs.Common.{◌∙◌}
use Rattle.std.specs.Option.{option_map_or}
use Rattle.std.specs.Prelude.{IsSome, IsTrue, slice_get}
use Rattle.sw_types.specs.declared.shape.Shape.{Shape}
use Rattle.sw_types.specs.declared.shape.ShapeKind.{ShapeKind}
use Rattle.sw_types.specs.declared.shape.ShapeKind.TheVariants.{Class, Actor}
use Rattle.sw_graph.specs.Bodies.{is_on, is_self}
use Rattle.sw_graph.specs.Clean.{IsClean, ShapeClean, conforms}
use Rattle.sw_graph.specs.Kinds.{is_actor}
use Rattle.sw_graph.specs.Placed.{ActorOfClass, IsPlaced, is_inside_shape}
use Rattle.sw_graph.specs.declared.function.Function.{Function}
use Rattle.sw_graph.specs.declared.graph.Graph.{Graph}
use Rattle.sw_graph.specs.declared.instr.Operand.{Operand}
use Rattle.sw_list.proofs.ListLemmas.{at_index}

-- What is no class has no global actor.
none_of : (actor : Option ℕ) (kind : ShapeKind) → (IsSome actor → kind ≡ Class)
    → (kind ≡ Class → ⊥) → actor ≡ None
none_of None kind actors other = refl
none_of (Some number) kind actors other = absurd (other (actors refl))

-- nor has a class, where it is said to have none
none_if : (actor : Option ℕ) (kind : ShapeKind) → (IsSome actor → kind ≡ Class)
    → (kind ≡ Class → actor ≡ None) → actor ≡ None
none_if None kind actors alone = refl
none_if (Some number) kind actors alone = alone (actors refl)

-- An actor has no global actor.
pub actor_alone : (shapes : List Shape) (k : ℕ) (shape : Shape) → All ActorOfClass shapes
    → slice_get shapes k ≡ Some shape → shape.kind ≡ Actor → shape.actor ≡ None
actor_alone shapes k shape actors at is =
    none_of shape.actor shape.kind (at_index ActorOfClass shapes k shape actors at)
    (λ class. cc)

-- Parts of an actor are inside on the body's own `self`.
pub actor_inside : (graph : Graph) (k : ℕ) (shape : Shape) (body : Function) (cell : Operand)
    → IsPlaced graph → slice_get graph.shapes k ≡ Some shape → shape.kind ≡ Actor
    → is_inside_shape body cell shape ≡ is_self body cell
actor_inside graph k shape body cell placed at is =
    ap (λ actor. option_map_or (λ one. is_on one body.iso) actor
    (not (is_actor shape.kind) || is_self body cell))
    (actor_alone graph.shapes k shape placed.actors at is)
    ∙ ap (λ kind. not (is_actor kind) || is_self body cell) is

-- Conformances hold, except for classes with a global actor.
pub conformance_holds : (graph : Graph) (k : ℕ) (shape : Shape) → IsClean graph
    → slice_get graph.shapes k ≡ Some shape → IsTrue shape.conforms
    → (shape.kind ≡ Class → shape.actor ≡ None) → IsTrue (conforms graph shape)
conformance_holds graph k shape clean at says alone =
    at_index (ShapeClean graph) graph.shapes k shape clean.conformances at says
    (none_if shape.actor shape.kind
    (at_index ActorOfClass graph.shapes k shape clean.placed.actors at) alone)
