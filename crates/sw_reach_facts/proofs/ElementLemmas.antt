-- Which registers have an element: those whose values may not cross between isolations.
use Rattle.std.proofs.Common.{◌≡◌, ◌+◌, ℕ, zero, suc, Bool, true, false, not, cond, Option, Some}
use Rattle.std.proofs.Common.{None, List, [], ◌∷◌, refl, sym, ap, ◌∙◌}
use Rattle.std.specs.List.{slice_get}
use Rattle.std.specs.Option.{is_some}
use Rattle.sw_list.proofs.ListLemmas.{some_injective}
use Rattle.sw_types.specs.Sendable.{layer_sends, sends_at}
use Rattle.sw_types.specs.declared.shape.Shape.{Shape}
use Rattle.sw_types.specs.declared.ty.Ty.TheOpen as type
use Rattle.sw_graph.specs.declared.function.RegKind.{RegKind}
use Rattle.sw_graph.specs.declared.function.RegKind.TheVariants.{Plain, BoxOf}
use Rattle.sw_graph.specs.declared.graph.Graph.{Graph}
use Rattle.sw_graph.specs.Clean.{is_untracked}
use Rattle.sw_graph.specs.Kinds.{form_of}
use Rattle.sw_region_ops.specs.Elements.{element_at, elements_of, is_tracked, numbered}

-- what is no value is nothing
pub none_of : {X : Type 0} (o : Option X) → is_some o ≡ false → o ≡ None
none_of None is = refl
none_of (Some x) is = cc

-- a register has an element if it is tracked
element_says : (shapes : List Shape) (n : ℕ) (kinds : List RegKind) (r : ℕ) (kind : RegKind)
    → slice_get kinds r ≡ Some kind
    → is_some (element_at (numbered shapes n kinds) r) ≡ is_tracked shapes kind
element_says shapes n [] r kind at = cc
element_says shapes n (first ∷ kinds) r kind at =
    by (is_tracked shapes first) refl r at (λ m s here. element_says shapes m kinds s kind here)
  where
    by : (b : Bool) → is_tracked shapes first ≡ b → (r : ℕ)
        → slice_get (first ∷ kinds) r ≡ Some kind
        → ((m s : ℕ) → slice_get kinds s ≡ Some kind
        → is_some (element_at (numbered shapes m kinds) s) ≡ is_tracked shapes kind)
        → is_some (element_at (cond b (Some n ∷ numbered shapes (n + 1) kinds)
        (None ∷ numbered shapes n kinds)) r) ≡ is_tracked shapes kind
    by true is zero at rest = sym is ∙ ap (is_tracked shapes) (some_injective at)
    by true is (suc s) at rest = rest (n + 1) s at
    by false is zero at rest = sym is ∙ ap (is_tracked shapes) (some_injective at)
    by false is (suc s) at rest = rest n s at

-- that of a declared type is tracked if the type isn't Sendable
named_tracked : (shapes : List Shape) (kind : RegKind) (k : ℕ)
    → form_of (Some kind) ≡ Some (type.Named k) → is_tracked shapes kind ≡ not (sends_at shapes k)
named_tracked shapes (Plain ty) k form =
    ap (λ l. not (layer_sends (sends_at shapes) l)) (some_injective form)
named_tracked shapes (BoxOf ty) k form = absurd (let clash : ⊥ = cc in clash)

pub named_element : (graph : Graph) (regs : List RegKind) (r : ℕ) (kind : RegKind) (k : ℕ)
    → slice_get regs r ≡ Some kind → form_of (Some kind) ≡ Some (type.Named k)
    → is_some (element_at (elements_of graph.shapes regs) r) ≡ not (sends_at graph.shapes k)
named_element graph regs r kind k at form =
    element_says graph.shapes 1 regs r kind at ∙ named_tracked graph.shapes kind k form

-- what isn't tracked may cross
pub element_untracked : (graph : Graph) (regs : List RegKind) (r : ℕ) (kind : RegKind)
    → slice_get regs r ≡ Some kind → element_at (elements_of graph.shapes regs) r ≡ None
    → is_untracked graph (Some kind) ≡ true
element_untracked graph regs r kind at none =
    by kind (sym (element_says graph.shapes 1 regs r kind at) ∙ ap is_some none) where
      not_false : (b : Bool) → not b ≡ false → b ≡ true
      not_false true e = refl
      not_false false e = cc

      by : (kind : RegKind) → is_tracked graph.shapes kind ≡ false
          → is_untracked graph (Some kind) ≡ true
      by (Plain ty) is = not_false (is_untracked graph (Some (Plain ty))) is
      by (BoxOf ty) is = cc

-- and what may cross isn't tracked
pub untracked_element : (graph : Graph) (regs : List RegKind) (r : ℕ)
    → is_untracked graph (slice_get regs r) ≡ true
    → element_at (elements_of graph.shapes regs) r ≡ None
untracked_element graph regs r is = by (slice_get regs r) refl is where
  crosses : (kind : RegKind) → is_untracked graph (Some kind) ≡ true
      → is_tracked graph.shapes kind ≡ false
  crosses (Plain ty) is = ap not is
  crosses (BoxOf ty) is = cc

  by : (o : Option RegKind) → slice_get regs r ≡ o → is_untracked graph o ≡ true
      → element_at (elements_of graph.shapes regs) r ≡ None
  by None at is = absurd (let no : ⊥ = cc in no)
  by (Some kind) at is = none_of (element_at (elements_of graph.shapes regs) r)
      (element_says graph.shapes 1 regs r kind at ∙ crosses kind is)
