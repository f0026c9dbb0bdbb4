-- How many parts a value has.
use Rattle.std.specs.Prelude.{ℕ, ◌+◌, List, min, max, sum_by, fold}
use Rattle.sw_types.specs.Depths.{of_shape}
use Rattle.sw_types.specs.Held.{part_types}
use Rattle.sw_types.specs.declared.shape.CaseShape.{CaseShape}
use Rattle.sw_types.specs.declared.shape.Shape.{Shape}
use Rattle.sw_types.specs.declared.shape.ShapeKind.{ShapeKind}
use Rattle.sw_types.specs.declared.shape.ShapeKind.TheVariants.{Struct, Enum, Class, Actor}
use Rattle.sw_types.specs.declared.ty.Ty.{Ty, out-Ty}
use Rattle.sw_types.specs.declared.ty.Ty.TheOpen.{Ty-F, Int, Bool, Unit, Named, Func, Task}

-- counts end here: a value may have one part less
abbrev pub too_many : ℕ
too_many = 65

abbrev pub layer_parts : (ℕ → ℕ) → Ty-F Ty → ℕ
layer_parts named Int = 1
layer_parts named Bool = 1
layer_parts named Unit = 0
layer_parts named (Func sendable params result) = 1
layer_parts named (Task inner) = 1
layer_parts named (Named k) = named k

-- An integer, a truth value, a closure and a task are one part each, and `Void` is none.
abbrev pub type_parts : (ℕ → ℕ) → Ty → ℕ
type_parts named ty = layer_parts named (out-Ty ty)

-- the parts of several values together
abbrev pub parts_together : (ℕ → ℕ) → List Ty → ℕ
parts_together named types = min too_many (sum_by (type_parts named) types)

-- the parts of the largest case's payload
abbrev pub largest_case : (ℕ → ℕ) → List CaseShape → ℕ
largest_case named cases =
    fold (λ most (one : CaseShape). max most (parts_together named one.payload)) 0 cases

abbrev pub kind_parts : ShapeKind → (ℕ → ℕ) → Shape → ℕ
kind_parts Struct named shape = parts_together named (part_types shape)
kind_parts Enum named shape = min too_many (1 + largest_case named shape.cases)
kind_parts Class named shape = 1
kind_parts Actor named shape = 1

-- A struct has the parts of its properties, an enum one more than its largest case; a class and an
-- actor are a reference.
abbrev pub shape_parts : (ℕ → ℕ) → Shape → ℕ
shape_parts named shape = kind_parts shape.kind named shape

-- how many parts a value of a declared type has
abbrev pub parts_at : List Shape → ℕ → ℕ
parts_at shapes k = of_shape 0 shape_parts shapes k

-- how many parts a value of a type has, at most 65
abbrev pub parts_of : List Shape → Ty → ℕ
parts_of shapes ty = type_parts (parts_at shapes) ty

-- how many parts an object of a class or an actor has: those of its properties, at most 65
abbrev pub object_parts : List Shape → Shape → ℕ
object_parts shapes shape = parts_together (parts_at shapes) (part_types shape)
