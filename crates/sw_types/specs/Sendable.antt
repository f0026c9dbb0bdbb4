-- Which types are Sendable (SE-0302, SE-0306, SE-0316).
use Rattle.std.specs.Prelude.{ℕ, Bool, true, false, ◌||◌, List, is_some}
use Rattle.std.specs.List.{list_all}
use Rattle.sw_types.specs.Depths.{of_shape}
use Rattle.sw_types.specs.Held.{types_in}
use Rattle.sw_types.specs.declared.shape.Shape.{Shape}
use Rattle.sw_types.specs.declared.shape.ShapeKind.{ShapeKind}
use Rattle.sw_types.specs.declared.shape.ShapeKind.TheVariants.{Struct, Enum, Class, Actor}
use Rattle.sw_types.specs.declared.ty.Ty.{Ty, out-Ty}
use Rattle.sw_types.specs.declared.ty.Ty.TheOpen.{Ty-F, Int, Bool as BoolType, Unit, Named, Func}
use Rattle.sw_types.specs.declared.ty.Ty.TheOpen.{Task}

abbrev pub layer_sends : (ℕ → Bool) → Ty-F Ty → Bool
layer_sends named Int = true
layer_sends named BoolType = true
layer_sends named Unit = true
layer_sends named (Task inner) = true
layer_sends named (Func sendable params result) = sendable
layer_sends named (Named k) = named k

-- Int, Bool, Void, tasks, `@Sendable` functions, and which declared types are
abbrev pub type_sends : (ℕ → Bool) → Ty → Bool
type_sends named ty = layer_sends named (out-Ty ty)

abbrev pub kind_sends : ShapeKind → Shape → Bool → Bool
kind_sends Struct shape all = shape.conforms || all
kind_sends Enum shape all = shape.conforms || all
kind_sends Class shape all = shape.conforms || is_some shape.actor
kind_sends Actor shape all = true

-- An actor; a class that declares it or has a global actor; a struct or an enum that declares it or
-- whose parts all are.
abbrev pub shape_sends : (ℕ → Bool) → Shape → Bool
shape_sends named shape = kind_sends shape.kind shape (list_all (type_sends named) (types_in shape))

-- whether values of a declared type may cross between isolations
abbrev pub sends_at : List Shape → ℕ → Bool
sends_at shapes k = of_shape false shape_sends shapes k

-- whether values of a type may cross between isolations
abbrev pub is_sendable : List Shape → Ty → Bool
is_sendable shapes ty = type_sends (sends_at shapes) ty
