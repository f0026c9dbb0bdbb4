-- Where a value of one type may go where another type is expected: a `@Sendable` function may go
-- where the same function type without the mark stands (SE-0302), and else the types are equal.
use Rattle.std.specs.Prelude.{◌≡◌, Bool, false, IsTrue}
use Rattle.sw_types.specs.declared.ty.Ty.{Ty, out-Ty, roll-Ty}
use Rattle.sw_types.specs.declared.ty.Ty.TheOpen.{Ty-F, Func}

abbrev pub layer_is_marked : Ty-F Ty → Bool
layer_is_marked (Func sendable params result) = sendable
layer_is_marked _ = false

-- whether the type is a function type with `@Sendable` at its top
abbrev pub is_marked : Ty → Bool
is_marked ty = layer_is_marked (out-Ty ty)

abbrev pub unmarked_layer : Ty-F Ty → Ty-F Ty
unmarked_layer (Func sendable params result) = Func false params result
unmarked_layer layer = layer

-- the type without a `@Sendable` at its top
abbrev pub unmarked : Ty → Ty
unmarked ty = roll-Ty (unmarked_layer (out-Ty ty))

-- The types are equal but for the mark at the top, and where the mark is expected it is there.
abbrev pub IsAcceptedAs : Ty → Ty → Type 0
IsAcceptedAs from to =
    (unmarked from ≡ unmarked to) × (IsTrue (is_marked to) → IsTrue (is_marked from))
