-- What shapes hold is among them, where their types name these shapes alone.
use Rattle.std.proofs.Common.{ℕ, ◌<◌, Bool, true, false, cond, IsTrue, List, [], ◌∷◌, length}
use Rattle.std.proofs.Common.{get_or, All, sym, subst, ◌∙◌}
use Rattle.std.specs.List.{flat_map}
use Rattle.std.proofs.lemmas.Bool.{ltb-true}
use Rattle.std.proofs.lemmas.List.{get_or-map, length-map}
use Rattle.std.proofs.lemmas.List.Elements.{All-nil, All-cons, All-head, All-tail, All-append}
use Rattle.sw_types.specs.Held.{AreWithin, held_by, edges_of, is_value, layer_named, named_by}
use Rattle.sw_types.specs.Held.{types_in}
use Rattle.sw_types.specs.Named.{is_within, layer_is_within}
use Rattle.sw_types.specs.Paths.{AreInRange}
use Rattle.sw_types.specs.declared.shape.Shape.{Shape}
use Rattle.sw_types.specs.declared.ty.Ty.{Ty, fold-roll-Ty, out-Ty, roll-Ty, roll-out-Ty}
use Rattle.sw_types.specs.declared.ty.Ty.TheOpen.{Ty-F}
use Rattle.sw_types.specs.declared.ty.Ty.TheOpen as layer
use Rattle.sw_types.proofs.DepthLemmas.{nothing}

abbrev IsBelow : ℕ → ℕ → Type 0
IsBelow n b = b < n

layer_within : (n : ℕ) (l : Ty-F Ty) → IsTrue (is_within n (roll-Ty l))
    → All (IsBelow n) (layer_named l)
layer_within n layer.Int is = All-nil (IsBelow n)
layer_within n layer.Bool is = All-nil (IsBelow n)
layer_within n layer.Unit is = All-nil (IsBelow n)
layer_within n (layer.Named k) is = All-cons (IsBelow n) k []
    (ltb-true k n (sym (fold-roll-Ty Bool (layer_is_within n) (layer.Named k)) ∙ is))
    (All-nil (IsBelow n))
layer_within n (layer.Func sendable params result) is = All-nil (IsBelow n)
layer_within n (layer.Task inner) is = All-nil (IsBelow n)

named_within : (n : ℕ) (ty : Ty) → IsTrue (is_within n ty) → All (IsBelow n) (named_by ty)
named_within n ty is = layer_within n (out-Ty ty)
    (subst (λ t. IsTrue (is_within n t)) (sym (roll-out-Ty ty)) is)

types_within : (n : ℕ) (types : List Ty) → All (λ ty. IsTrue (is_within n ty)) types
    → All (IsBelow n) (flat_map named_by types)
types_within n [] all = All-nil (IsBelow n)
types_within n (ty ∷ types) all = All-append (IsBelow n) (named_by ty) (flat_map named_by types)
    (named_within n ty (All-head (λ t. IsTrue (is_within n t)) ty types all))
    (types_within n types (All-tail (λ t. IsTrue (is_within n t)) ty types all))

held_within : (n : ℕ) (value : Bool) (types : List Ty) → All (λ ty. IsTrue (is_within n ty)) types
    → All (IsBelow n) (cond value (flat_map named_by types) [])
held_within n true types all = types_within n types all
held_within n false types all = All-nil (IsBelow n)

pub edges_within : (shapes : List Shape) → AreWithin shapes → AreInRange (edges_of shapes)
edges_within shapes are k d lt =
    let within = subst (λ n. k < n) (length-map shapes held_by) lt in
    subst (λ n. All (IsBelow n) (get_or (edges_of shapes) k d)) (sym (length-map shapes held_by))
    (subst (All (IsBelow (length shapes))) (sym (get_or-map held_by shapes k nothing d within))
    (held_within (length shapes) (is_value (get_or shapes k nothing).kind)
    (types_in (get_or shapes k nothing)) (are k nothing within)))
