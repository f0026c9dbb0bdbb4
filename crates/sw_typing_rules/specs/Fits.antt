-- Whether a value of one type may go where another type is expected, as a test.
use Rattle.std.specs.Prelude.{Bool, true, false, ◌&&◌, ◌||◌, not, ◌==◌, List, [], ◌∷◌}
use Rattle.sw_types.specs.Accepts.{is_marked, unmarked}
use Rattle.sw_types.specs.declared.ty.Ty.{Ty, fold-Ty, out-Ty}
use Rattle.sw_types.specs.declared.ty.Ty.TheOpen as layer

abbrev pub same_mark : Bool → Bool → Bool
same_mark true other = other
same_mark false other = not other

abbrev pub all_same : List (Ty → Bool) → List Ty → Bool
all_same [] [] = true
all_same [] (ty ∷ tys) = false
all_same (same ∷ sames) [] = false
all_same (same ∷ sames) (ty ∷ tys) = same ty && all_same sames tys

abbrev pub same_layer : layer.Ty-F (Ty → Bool) → layer.Ty-F Ty → Bool
same_layer layer.Int layer.Int = true
same_layer layer.Bool layer.Bool = true
same_layer layer.Unit layer.Unit = true
same_layer (layer.Named one) (layer.Named other) = one == other
same_layer (layer.Func one params result) (layer.Func other expected given) =
    same_mark one other && (all_same params expected && result given)
same_layer (layer.Task one) (layer.Task other) = one other
same_layer _ _ = false

-- whether two types are equal
abbrev pub same_type : Ty → Ty → Bool
same_type = fold-Ty (Ty → Bool) (λ one other. same_layer one (out-Ty other))

-- The types are equal but for a `@Sendable` at the top, and where that is expected it is there
-- (SE-0302).
abbrev pub fits : Ty → Ty → Bool
fits from to = same_type (unmarked from) (unmarked to) && (is_marked from || not (is_marked to))
