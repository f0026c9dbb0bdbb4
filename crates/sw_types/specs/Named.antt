-- The numbers of declared types that a type names.
use Rattle.std.specs.Prelude.{ℕ, Bool, true, ◌&&◌, nat_lt}
use Rattle.std.specs.List.{list_all}
use Rattle.sw_types.specs.declared.ty.Ty.{Ty, fold-Ty}
use Rattle.sw_types.specs.declared.ty.Ty.TheOpen.{Ty-F, Named, Func, Task}

abbrev pub layer_is_within : ℕ → Ty-F Bool → Bool
layer_is_within shapes (Named k) = nat_lt k shapes
layer_is_within shapes (Func sendable params result) = list_all (λ param. param) params && result
layer_is_within shapes (Task inner) = inner
layer_is_within shapes _ = true

-- whether each number that the type names is below the number of shapes
abbrev pub is_within : ℕ → Ty → Bool
is_within shapes = fold-Ty Bool (layer_is_within shapes)
