-- Which classes and actors are Sendable, and what a Sendable class without a global actor is.
use Rattle.std.proofs.Common.{◌≡◌, ◌<◌, ℕ, zero, suc, Bool, true, false, Option, Some, None, List}
use Rattle.std.proofs.Common.{length, get_or, refl, sym, ap, ◌∙◌, arith, inl, inr}
use Rattle.std.specs.List.{list_all, slice_get}
use Rattle.std.specs.Option.{is_some, option_and_then}
use Rattle.std.proofs.lemmas.Bool.{or_cases, or_right}
use Rattle.std.proofs.lemmas.List.{get_or-map}
use Rattle.std.proofs.lemmas.Option.{get_or_from_slice_get, slice_get_within}
use Rattle.sw_list.proofs.ListLemmas.{at_index}
use Rattle.sw_types.specs.Depths.{by_depth, of_shape}
use Rattle.sw_types.specs.Held.{types_in}
use Rattle.sw_types.specs.Sendable.{kind_sends, sends_at, shape_sends}
use Rattle.sw_types.specs.declared.shape.Shape.{Shape}
use Rattle.sw_types.specs.declared.shape.ShapeKind.{ShapeKind}
use Rattle.sw_types.specs.declared.shape.ShapeKind.TheVariants.{Struct, Enum, Class, Actor}
use Rattle.sw_graph.specs.declared.graph.Graph.{Graph}
use Rattle.sw_graph.specs.Bodies.{actor_of}
use Rattle.sw_graph.specs.Clean.{IsClean, ShapeClean, conforms, may_cross}
use Rattle.sw_graph.specs.Kinds.{is_actor, is_class}
use Rattle.sw_graph.specs.Placed.{ActorOfClass}
use Rattle.sw_reach_facts.proofs.ShapeLemmas.{sends_down}

-- ---- what is Sendable whatever it holds
kind_sends_actor : (kind : ShapeKind) (shape : Shape) (all : Bool) → is_actor kind ≡ true
    → kind_sends kind shape all ≡ true
kind_sends_actor Struct shape all is = cc
kind_sends_actor Enum shape all is = cc
kind_sends_actor Class shape all is = cc
kind_sends_actor Actor shape all is = refl

kind_sends_class : (kind : ShapeKind) (shape : Shape) (all : Bool) → kind ≡ Class
    → is_some shape.actor ≡ true → kind_sends kind shape all ≡ true
kind_sends_class kind shape all class has =
    ap (λ k. kind_sends k shape all) class
    ∙ or_right shape.conforms (is_some shape.actor) has

sends_by_kind : (shapes : List Shape) (k : ℕ) (shape : Shape) → slice_get shapes k ≡ Some shape
    → ((all : Bool) → kind_sends shape.kind shape all ≡ true) → sends_at shapes k ≡ true
unfolding of_shape
sends_by_kind shapes k shape at sends =
    by (length shapes) (slice_get_within shapes k shape at) where
      by : (depth : ℕ) → k < depth
          → get_or (by_depth false shape_sends shapes depth) k false ≡ true
      by zero inside = absurd (omega (arith, inside))
      by (suc depth) inside =
          get_or-map (shape_sends (λ j. get_or (by_depth false shape_sends shapes depth) j false))
          shapes k shape false (slice_get_within shapes k shape at)
          ∙ ap (shape_sends (λ j. get_or (by_depth false shape_sends shapes depth) j false))
          (get_or_from_slice_get shapes k shape shape at)
          ∙ sends _

-- each actor is
pub actor_sends : (shapes : List Shape) (k : ℕ) (shape : Shape) → slice_get shapes k ≡ Some shape
    → is_actor shape.kind ≡ true → sends_at shapes k ≡ true
actor_sends shapes k shape at is =
    sends_by_kind shapes k shape at (λ all. kind_sends_actor shape.kind shape all is)

-- and each class with a global actor
pub class_sends : (shapes : List Shape) (k : ℕ) (shape : Shape) → slice_get shapes k ≡ Some shape
    → shape.kind ≡ Class → is_some shape.actor ≡ true → sends_at shapes k ≡ true
class_sends shapes k shape at class has =
    sends_by_kind shapes k shape at (λ all. kind_sends_class shape.kind shape all class has)

-- so that what isn't Sendable has no global actor
pub without_actor : (graph : Graph) → IsClean graph → (k : ℕ) → sends_at graph.shapes k ≡ false
    → actor_of graph.shapes k ≡ None
without_actor graph clean k never = by (slice_get graph.shapes k) refl where
  pick : (shape : Shape) → slice_get graph.shapes k ≡ Some shape → (actor : Option ℕ)
      → shape.actor ≡ actor → shape.actor ≡ None
  pick shape at None is = is
  pick shape at (Some actor) is =
      let some : is_some shape.actor ≡ true = ap is_some is in
      let class = at_index ActorOfClass graph.shapes k shape clean.placed.actors at some in
      let sends = class_sends graph.shapes k shape at class some in
      let clash : false ≡ true = sym never ∙ sends in
      absurd (let wrong : ⊥ = cc in wrong)

  by : (o : Option Shape) → slice_get graph.shapes k ≡ o
      → option_and_then (λ (shape : Shape). shape.actor) o ≡ None
  by None at = refl
  by (Some shape) at = pick shape at shape.actor refl

-- ---- Sendable classes without a global actor
class_conforms : (kind : ShapeKind) (shape : Shape) (all : Bool) → is_class kind ≡ true
    → kind_sends kind shape all ≡ true → shape.actor ≡ None → shape.conforms ≡ true
class_conforms Struct shape all is sends none = cc
class_conforms Enum shape all is sends none = cc
class_conforms Class shape all is sends none =
    elim (or_cases shape.conforms (is_some shape.actor) sends) [
      | inl conforms ↦ conforms
      | inr some ↦ absurd (let clash : false ≡ true = sym (ap is_some none) ∙ some in
          let z : ⊥ = cc in z)
    ]
class_conforms Actor shape all is sends none = cc

-- their parts may cross, and are no `var`
pub sendable_class : (graph : Graph) → IsClean graph → (k : ℕ) (shape : Shape)
    → slice_get graph.shapes k ≡ Some shape → is_class shape.kind ≡ true
    → sends_at graph.shapes k ≡ true → shape.actor ≡ None → conforms graph shape ≡ true
sendable_class graph clean k shape at class sends none =
    at_index (ShapeClean graph) graph.shapes k shape clean.conformances at
    (class_conforms shape.kind shape (list_all (may_cross graph) (types_in shape)) class
    (sends_down graph.shapes k shape at sends) none) none
