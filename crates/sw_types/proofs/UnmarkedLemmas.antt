-- When two function types are equal but for the mark.
use Rattle.std.proofs.Common.{◌≡◌, ◌↔◌, Bool, false, List, ap, sym, ◌∙◌}
use Rattle.sw_types.specs.declared.ty.Ty.{Ty, out-Ty, roll-Ty, out-roll-Ty}
use Rattle.sw_types.specs.declared.ty.Ty.TheOpen.{Ty-F}
use Rattle.sw_types.specs.declared.ty.Ty.TheOpen as layer
use Rattle.sw_types.specs.declared.ty.Ty.TheVariants.{Func, outs-Func}
use Rattle.sw_types.specs.Accepts.{unmarked, unmarked_layer}

unmarked-Func : (a : Ty) (sendable : Bool) (params : List Ty) (result : Ty)
    → a ≡ Func sendable params result → unmarked a ≡ roll-Ty (layer.Func false params result)
unmarked-Func a sendable params result e = ap unmarked e
    ∙ ap (λ l. roll-Ty (unmarked_layer l)) (outs-Func sendable params result)

-- two layers are equal where what is made of them is
layer_of : (x y : Ty-F Ty) → roll-Ty x ≡ roll-Ty y → x ≡ y
layer_of x y e = sym (out-roll-Ty x) ∙ ap out-Ty e ∙ out-roll-Ty y

layer_parts : (ps qs : List Ty) (r s : Ty) → layer.Func false ps r ≡ layer.Func false qs s
    → (ps ≡ qs) × (r ≡ s)
layer_parts ps qs r s e = ((cc), (cc))

pub unmarked-functions : (a b : Ty) (m n : Bool) (ps qs : List Ty) (r s : Ty) → a ≡ Func m ps r
    → b ≡ Func n qs s → (unmarked a ≡ unmarked b) ↔ ((ps ≡ qs) × (r ≡ s))
unmarked-functions a b m n ps qs r s e f = (
  λ same. layer_parts ps qs r s
      (layer_of _ _ (sym (unmarked-Func a m ps r e) ∙ same ∙ unmarked-Func b n qs s f)),
  λ both. unmarked-Func a m ps r e ∙ ap (λ p. roll-Ty (layer.Func false p r)) both.0
      ∙ ap (λ t. roll-Ty (layer.Func false qs t)) both.1 ∙ sym (unmarked-Func b n qs s f),
)
