-- Shapes in which those that hold themselves hold nothing.
use Rattle.std.specs.Prelude.{ℕ, Bool, false, List, [], ◌∷◌, ◌+◌, slice_index_or}
use Rattle.std.specs.Prelude.{if◌then◌else◌}
use Rattle.sw_types.specs.declared.shape.Shape.{Shape}
use Rattle.sw_types.specs.declared.shape.ShapeKind.TheVariants as kind

-- the shape that stands for one that holds itself, a struct without parts
abbrev pub hollow : Shape → Shape
hollow shape = record shape { kind = kind.Struct; parts = []; cases = [] }

abbrev pub hollow_if : Bool → Shape → Shape
hollow_if holds shape = if holds then hollow shape else shape

-- the shapes, numbered from here, in which the marked ones hold nothing
abbrev pub hollowed_from : List Bool → ℕ → List Shape → List Shape
hollowed_from marks number [] = []
hollowed_from marks number (shape ∷ shapes) =
    hollow_if (slice_index_or marks number false) shape ∷ hollowed_from marks (number + 1) shapes

-- the shapes in which the marked ones hold nothing
abbrev pub hollowed : List Bool → List Shape → List Shape
hollowed marks shapes = hollowed_from marks 0 shapes
