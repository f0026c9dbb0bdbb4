-- Types with more than 64 parts (E307).
use Rattle.std.specs.Prelude.{ℕ, ◌+◌, List, [], ◌∷◌, ◌++◌, nat_lt, if◌then◌else◌}
use Rattle.sw_types.specs.Parts.{object_parts, parts_at}
use Rattle.sw_types.specs.declared.shape.Shape.{Shape}
use Rattle.sw_types.specs.declared.shape.ShapeKind.{ShapeKind}
use Rattle.sw_types.specs.declared.shape.ShapeKind.TheVariants.{Struct, Enum, Class, Actor}
use Rattle.sw_decl_words.specs.declared.placed.Placed.{Placed}

abbrev pub parts_by_kind : ShapeKind → List Shape → ℕ → Shape → ℕ
parts_by_kind Struct shapes number shape = parts_at shapes number
parts_by_kind Enum shapes number shape = parts_at shapes number
parts_by_kind Class shapes number shape = object_parts shapes shape
parts_by_kind Actor shapes number shape = object_parts shapes shape

-- how many parts a declared type has: a struct and an enum those of a value, a class and an actor
-- those of an object
abbrev pub declared_parts : List Shape → ℕ → Shape → ℕ
declared_parts shapes number shape = parts_by_kind shape.kind shapes number shape

abbrev pub too_wide : List Shape → ℕ → Shape → List Placed
too_wide shapes number shape =
    if nat_lt 64 (declared_parts shapes number shape)
    then record { at = shape.at; code = 307 } ∷ [] else []

-- the words of these shapes, numbered from here, that have more than 64 parts
abbrev pub wide_from : List Shape → ℕ → List Shape → List Placed
wide_from shapes number [] = []
wide_from shapes number (shape ∷ more) =
    too_wide shapes number shape ++ wide_from shapes (number + 1) more

-- the words of the shapes that have more than 64 parts
abbrev pub wide : List Shape → List Placed
wide shapes = wide_from shapes 0 shapes
