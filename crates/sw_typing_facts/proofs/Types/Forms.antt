-- Types by their outermost form: which type it is that a test of the rules finds.
use Rattle.std.proofs.Common.{◌≡◌, ℕ, Some, refl, sym, ap, ◌∙◌, true, true≢false}
use Rattle.std.proofs.lemmas.Option.{same_Some}
use Rattle.sw_isolation_rules.specs.Uses.{named_layer, named_shape}
use Rattle.sw_typing_rules.specs.Verdicts.{bool_layer, int_layer, is_bool, is_int}
use Rattle.sw_types.specs.declared.ty.Ty.TheVariants as types
use Rattle.sw_types.specs.declared.ty.Ty.TheOpen as layer
use Rattle.sw_types.specs.declared.ty.Ty.{Ty, out-Ty, roll-Ty, roll-out-Ty}

-- the only form that is tested as `Bool`
pub bool_only : (l : layer.Ty-F Ty) → bool_layer l ≡ true → l ≡ layer.Bool
bool_only layer.Bool is = refl
bool_only _ is = absurd (true≢false (sym is))

-- and as `Int`
pub int_only : (l : layer.Ty-F Ty) → int_layer l ≡ true → l ≡ layer.Int
int_only layer.Int is = refl
int_only _ is = absurd (true≢false (sym is))

-- Types of one outermost form are the same.
same_form : (a b : Ty) → out-Ty a ≡ out-Ty b → a ≡ b
same_form a b is = sym (roll-out-Ty a) ∙ ap roll-Ty is ∙ roll-out-Ty b

-- A type that is tested as `Bool` is `Bool`.
pub is_Bool : (ty : Ty) → is_bool ty ≡ true → ty ≡ types.Bool
is_Bool ty is = same_form ty types.Bool (bool_only (out-Ty ty) is ∙ sym types.outs-Bool)

-- and so for `Int`
pub is_Int : (ty : Ty) → is_int ty ≡ true → ty ≡ types.Int
is_Int ty is = same_form ty types.Int (int_only (out-Ty ty) is ∙ sym types.outs-Int)

named_only : (l : layer.Ty-F Ty) (k : ℕ) → named_layer l ≡ Some k → l ≡ layer.Named k
named_only (layer.Named n) k is = ap layer.Named (same_Some n k is)
named_only layer.Int k is = cc
named_only layer.Bool k is = cc
named_only layer.Unit k is = cc
named_only (layer.Func sendable params result) k is = cc
named_only (layer.Task inner) k is = cc

-- A type that names a declared one is that one.
pub is_Named : (ty : Ty) (k : ℕ) → named_shape (Some ty) ≡ Some k → ty ≡ types.Named k
is_Named ty k is =
    same_form ty (types.Named k) (named_only (out-Ty ty) k is ∙ sym (types.outs-Named k))
