-- A job that accesses a part of a cell without a colour, or a global, stands on the actor whose it
-- is.
use Rattle.std.proofs.Common.{◌≡◌, ◌⊎◌, ◌||◌, not, ℕ, Bool, true, false, Option, Some}
use Rattle.std.proofs.Common.{None, List, refl, sym, ap, ◌∙◌, inl, inr}
use Rattle.std.specs.Option.{option_and_then, option_map, option_map_or, unwrap_or}
use Rattle.std.specs.List.{list_all, slice_get}
use Rattle.std.proofs.lemmas.Bool.{and_parts}
use Rattle.sw_list.proofs.Members.{all_at}
use Rattle.sw_list.proofs.ListLemmas.{at_index}
use Rattle.sw_types.specs.declared.shape.Part.{Part}
use Rattle.sw_types.specs.declared.shape.Shape.{Shape}
use Rattle.sw_types.specs.Held.{types_in}
use Rattle.sw_types.specs.Sendable.{sends_at}
use Rattle.sw_graph.specs.declared.function.Function.{Function}
use Rattle.sw_graph.specs.declared.function.GlobalKind.{GlobalKind}
use Rattle.sw_graph.specs.declared.graph.Graph.{Graph}
use Rattle.sw_graph.specs.declared.instr.Operand.{Operand}
use Rattle.sw_graph.specs.Bodies.{is_on}
use Rattle.sw_graph.specs.Clean.{IsClean, GlobalClean, conforms, may_cross}
use Rattle.sw_graph.specs.Kinds.{is_actor, is_class}
use Rattle.sw_graph.specs.Placed.{is_inside_global, is_inside_shape}
use Rattle.sw_value.specs.Access.{is_var_part}
use Rattle.sw_value.specs.declared.cell.HeapCell.{HeapCell}
use Rattle.sw_value.specs.declared.cell.HeapCell.TheVariants as heap
use Rattle.sw_value.specs.declared.value.Value.{Value}
use Rattle.sw_value.specs.Value.{reference_at}
use Rattle.sw_owner_facts.specs.Colours.{Actor, GlobalActor}
use Rattle.sw_owner_facts.specs.View.{IsolatedTo}
use Rattle.sw_reach_facts.specs.Coloured.{may_have_colour}
use Rattle.sw_view_facts.specs.Views.{isolation_in}
use Rattle.sw_view_facts.proofs.IsolationLemmas.{global_isolation, on_is}
use Rattle.sw_secure_facts.specs.Memory.{keeper}
use Rattle.sw_secure_facts.proofs.Belonging.{belongs, implied, of_actor}

-- a class that is Sendable and has no global actor has no `var`
no_var : (graph : Graph) (k i : ℕ) (shape : Shape) → slice_get graph.shapes k ≡ Some shape
    → is_class shape.kind ≡ true → conforms graph shape ≡ true
    → is_var_part graph.shapes k i ≡ true → ⊥
no_var graph k i shape at class says var =
    of_part (slice_get shape.parts i) refl
    (ap (λ o. unwrap_or (option_and_then (λ (s : Shape). option_map (λ (p : Part). p.mutable)
    (slice_get s.parts i)) o) false) (sym at) ∙ var)
  where
    fixed : list_all (λ (part : Part). not part.mutable) shape.parts ≡ true
    fixed = implied (is_class shape.kind) (list_all (λ (part : Part). not part.mutable) shape.parts)
        class (and_parts (list_all (may_cross graph) (types_in shape))
        (not (is_class shape.kind) || list_all (λ (part : Part). not part.mutable) shape.parts)
        says).1

    of_part : (o : Option Part) → slice_get shape.parts i ≡ o
        → unwrap_or (option_map (λ (p : Part). p.mutable) o) false ≡ true → ⊥
    of_part None here mutable = cc
    of_part (Some part) here mutable =
        let clash : false ≡ true = sym (ap not mutable)
        ∙ all_at (λ (p : Part). not p.mutable) shape.parts i part fixed here in
        absurd (let z : ⊥ = cc in z)

-- A `var` part that is inside, of an object or an actor without a colour, is of an actor that the
-- body is isolated to.
pub inside_part : (graph : Graph) → IsClean graph → (function : Function)
    (regs : List (Option Value)) (operand : Operand) (c k i : ℕ) (vs : List Value)
    (found : HeapCell) (shape : Shape) → reference_at regs operand ≡ Some c
    → slice_get graph.shapes k ≡ Some shape
    → ((found ≡ heap.Object k vs) × (is_class shape.kind ≡ true))
    ⊎ ((found ≡ heap.Actor k vs) × (is_actor shape.kind ≡ true))
    → is_var_part graph.shapes k i ≡ true → may_have_colour graph found ≡ false
    → is_inside_shape function operand shape ≡ true
    → (a : Actor) × (keeper graph c found ≡ Some a) × (isolation_in function regs ≡ IsolatedTo a)
inside_part graph clean function regs operand c k i vs found shape refers at (inl (is, class)) var
    bare inside =
    elim (belongs graph clean function regs operand c found refers k vs shape at inside
    (inl (is, class)) (λ class. sends)) [
      | inl own ↦ (own.owner, own.keeps, own.isolated)
      | inr (nobody, says) ↦ absurd (no_var graph k i shape at class says var)
    ]
  where
    turned : (b : Bool) → not b ≡ false → b ≡ true
    turned true e = refl
    turned false e = cc

    sends : sends_at graph.shapes k ≡ true
    sends = turned (sends_at graph.shapes k) (ap (may_have_colour graph) (sym is) ∙ bare)
inside_part graph clean function regs operand c k i vs found shape refers at (inr (is, actor)) var
    bare inside =
    let own = of_actor graph clean function regs operand c found refers k vs shape at inside is actor
    in (own.owner, own.keeps, own.isolated)

-- a global `var` that is inside is of a global actor that the body is isolated to
pub inside_global : (graph : Graph) → IsClean graph → (function : Function)
    (regs : List (Option Value)) (g : ℕ) (kind : GlobalKind) → slice_get graph.globals g ≡ Some kind
    → kind.mutable ≡ true → is_inside_global graph.globals function g ≡ true
    → (n : ℕ) × (kind.actor ≡ Some n) × (isolation_in function regs ≡ IsolatedTo (GlobalActor n))
inside_global graph clean function regs g kind at mutable inside = by kind.actor refl
    (ap (λ o. option_map_or (λ (k : GlobalKind). option_map_or (λ actor. is_on actor function.iso)
    k.actor true) o false) (sym at) ∙ inside)
  where
    by : (o : Option ℕ) → kind.actor ≡ o
        → option_map_or (λ actor. is_on actor function.iso) o true ≡ true
        → (n : ℕ) × (kind.actor ≡ Some n)
        × (isolation_in function regs ≡ IsolatedTo (GlobalActor n))
    by (Some n) has inside =
        (n, has, global_isolation function regs n (on_is n function.iso inside))
    by None has inside =
        let clean_kind = at_index (GlobalClean graph) graph.globals g kind clean.globals at has in
        let fixed = (and_parts (not kind.mutable) (may_cross graph kind.ty) clean_kind).0 in
        let clash : false ≡ true = sym (ap not mutable) ∙ fixed in
        absurd (let z : ⊥ = cc in z)
