-- A cell with parts: an object or an actor, of the shape that its register's kind names.
use Rattle.std.proofs.Common.{◌≡◌, ◌⊎◌, ℕ, true, cond, Some, None, List}
use Rattle.std.proofs.Common.{refl, sym, subst, ap, ◌∙◌, arith, inl, inr}
use Rattle.std.specs.Option.{option_and_then}
use Rattle.std.specs.List.{slice_get}
use Rattle.std.proofs.lemmas.Option.{slice_get_within}
use Rattle.sw_types.specs.declared.shape.Shape.{Shape}
use Rattle.sw_types.specs.declared.shape.ShapeKind.{ShapeKind}
use Rattle.sw_types.specs.declared.shape.ShapeKind.TheVariants as shape_kind
use Rattle.sw_types.specs.declared.ty.Ty.TheOpen as type
use Rattle.sw_graph.specs.declared.function.RegKind.{RegKind}
use Rattle.sw_graph.specs.declared.graph.Graph.{Graph}
use Rattle.sw_graph.specs.Kinds.{IsCaptured, form_of, is_actor, is_cell, is_class, number_of, part}
use Rattle.sw_graph.specs.Kinds.{parts, shape_at, shape_of}
use Rattle.sw_value.specs.declared.cell.HeapCell.{HeapCell}
use Rattle.sw_value.specs.declared.cell.HeapCell.TheVariants.{Actor, BoxOf, Closure, Object, TaskOf}
use Rattle.sw_value.specs.declared.cell.Slot.TheVariants.{Part}
use Rattle.sw_value.specs.declared.value.Value.{Value}
use Rattle.sw_value.specs.Cell.{slot_of}
use Rattle.sw_machine_kind_facts.specs.Kinds.{CellFits, HasKind, HaveKinds, Referents}
use Rattle.sw_machine_kind_facts.proofs.ItemLemmas.{found_within}
use Rattle.sw_machine_kind_facts.proofs.KindLemmas.{shape_found}
use Rattle.sw_machine_kind_facts.proofs.PartLemmas.{part_among, parts_shape}
use Rattle.sw_reach_facts.specs.Named.{values_in}
use Rattle.sw_reach_facts.proofs.CrossingLemmas.{captured_named}

-- The cell is an object of a class, or an actor, of this shape, and the register's type names it.
pub record HasShape (graph : Graph) (world : Referents) (cell : HeapCell) (kind : RegKind)
    (number : ℕ) (values : List Value) : Type 0 where
  pub shape : Shape
  pub at : slice_get graph.shapes number ≡ Some shape
  pub form : form_of (Some kind) ≡ Some (type.Named number)
  pub sort : ((cell ≡ Object number values) × (is_class shape.kind ≡ true))
      ⊎ ((cell ≡ Actor number values) × (is_actor shape.kind ≡ true))
  pub kinds : List RegKind
  pub are : parts (Some shape) ≡ Some kinds
  pub have : HaveKinds graph.shapes world.cells values kinds

-- an object or an actor
abbrev pub IsOfParts : HeapCell → ℕ → List Value → Type 0
IsOfParts cell k vs = (cell ≡ Object k vs) ⊎ (cell ≡ Actor k vs)

pub has_shape : (graph : Graph) (world : Referents) (cell : HeapCell) (from kind : RegKind)
    → CellFits graph world cell from → IsCaptured (Some from) (Some kind) → (k : ℕ)
    (vs : List Value) → IsOfParts cell k vs → HasShape graph world cell kind k vs
has_shape graph world cell from kind fits goes k vs (inl is) =
    let fit = subst (λ h. CellFits graph world h from) is fits in
    let found = parts_shape (shape_at graph.shapes is_class k) fit.1.kinds fit.1.are in
    let shape = shape_found graph.shapes is_class k found.0 found.1 in
    record {
      shape = found.0;
      at = shape.0;
      form = captured_named from kind k goes fit.0;
      sort = inl (is, shape.1);
      kinds = fit.1.kinds;
      are = sym (ap parts found.1) ∙ fit.1.are;
      have = fit.1.have;
    }
has_shape graph world cell from kind fits goes k vs (inr is) =
    let fit = subst (λ h. CellFits graph world h from) is fits in
    let found = parts_shape (shape_at graph.shapes is_actor k) fit.1.kinds fit.1.are in
    let shape = shape_found graph.shapes is_actor k found.0 found.1 in
    record {
      shape = found.0;
      at = shape.0;
      form = captured_named from kind k goes fit.0;
      sort = inr (is, shape.1);
      kinds = fit.1.kinds;
      are = sym (ap parts found.1) ∙ fit.1.are;
      have = fit.1.have;
    }

-- a cell that has a part is one
pub of_parts : (cell : HeapCell) (i : ℕ) (v : Value) → slot_of (Part i) cell ≡ Some v
    → (k : ℕ) × (vs : List Value) × IsOfParts cell k vs
of_parts (Object k vs) i v is = (k, vs, inl refl)
of_parts (Actor k vs) i v is = (k, vs, inr refl)
of_parts (BoxOf w) i v is = absurd (let clash : ⊥ = cc in clash)
of_parts (Closure f vs) i v is = absurd (let clash : ⊥ = cc in clash)
of_parts (TaskOf j) i v is = absurd (let clash : ⊥ = cc in clash)

class_is_cell : (kind : ShapeKind) → is_class kind ≡ true → is_cell kind ≡ true
class_is_cell shape_kind.Struct is = cc
class_is_cell shape_kind.Enum is = cc
class_is_cell shape_kind.Class is = refl
class_is_cell shape_kind.Actor is = cc

actor_is_cell : (kind : ShapeKind) → is_actor kind ≡ true → is_cell kind ≡ true
actor_is_cell shape_kind.Struct is = cc
actor_is_cell shape_kind.Enum is = cc
actor_is_cell shape_kind.Class is = cc
actor_is_cell shape_kind.Actor is = refl

module _ (graph : Graph) (world : Referents) (cell : HeapCell) (kind : RegKind)
    (k : ℕ) (vs : List Value) (has : HasShape graph world cell kind k vs) where
  declares : is_cell has.shape.kind ≡ true
  declares = elim has.sort [
    | inl object ↦ class_is_cell has.shape.kind object.1
    | inr actor ↦ actor_is_cell has.shape.kind actor.1
  ]

  -- the register's kind says that shape
  pub shape_here : shape_of graph.shapes is_cell (Some kind) ≡ Some has.shape
  shape_here =
      ap (λ o. option_and_then (shape_at graph.shapes is_cell) (number_of o)) has.form
      ∙ ap (option_and_then (λ (s : Shape). cond (is_cell s.kind) (Some s) None)) has.at
      ∙ ap (λ b. cond b (Some has.shape) None) declares

  pub values_are : values_in cell ≡ vs
  values_are = elim has.sort [
    | inl object ↦ ap values_in object.0
    | inr actor ↦ ap values_in actor.0
  ]

  slot_is : (i : ℕ) → slot_of (Part i) cell ≡ slice_get vs i
  slot_is i = elim has.sort [
    | inl object ↦ ap (slot_of (Part i)) object.0
    | inr actor ↦ ap (slot_of (Part i)) actor.0
  ]

  -- a part has its kind
  pub record HasPart (i : ℕ) (v : Value) : Type 0 where
    pub at : slice_get vs i ≡ Some v
    pub kind_of : RegKind
    pub is : part (Some has.shape) i ≡ Some kind_of
    pub among : slice_get has.kinds i ≡ Some kind_of
    pub fits : HasKind graph.shapes world.cells v kind_of

  pub has_part : (i : ℕ) (v : Value) → slot_of (Part i) cell ≡ Some v → HasPart i v
  has_part i v is =
      let at = sym (slot_is i) ∙ is in
      let inside = slice_get_within vs i v at in
      let count = has.have.count in
      let one = found_within has.kinds i (omega (arith, inside, count)) in
      record {
        at = at;
        kind_of = one.0;
        is = part_among (Some has.shape) i
            ∙ ap (option_and_then (λ kinds. slice_get kinds i)) has.are ∙ one.1;
        among = one.1;
        fits = has.have.each i v one.0 at one.1;
      }
