-- What shapes hold: a struct or an enum holds the types of its parts and payloads; a class and an
-- actor are references, which hold nothing (SE-0302).
use Rattle.std.specs.Prelude.{ℕ, Bool, true, false, IsTrue, List, [], ◌∷◌, ◌++◌, map, length, All}
use Rattle.std.specs.Prelude.{if◌then◌else◌, flat_map}
use Rattle.sw_types.specs.Named.{is_within}
use Rattle.sw_types.specs.declared.shape.CaseShape.{CaseShape}
use Rattle.sw_types.specs.declared.shape.Part.{Part}
use Rattle.sw_types.specs.declared.shape.Shape.{Shape}
use Rattle.sw_types.specs.declared.shape.ShapeKind.{ShapeKind}
use Rattle.sw_types.specs.declared.shape.ShapeKind.TheVariants.{Struct, Enum, Class, Actor}
use Rattle.sw_types.specs.declared.ty.Ty.{Ty, out-Ty}
use Rattle.sw_types.specs.declared.ty.Ty.TheOpen.{Ty-F, Named}

abbrev pub layer_named : Ty-F Ty → List ℕ
layer_named (Named k) = k ∷ []
layer_named _ = []

-- the declared type that a type is, by number
abbrev pub named_by : Ty → List ℕ
named_by ty = layer_named (out-Ty ty)

-- a struct or an enum, whose values are copied
abbrev pub is_value : ShapeKind → Bool
is_value Struct = true
is_value Enum = true
is_value Class = false
is_value Actor = false

-- the types of the stored properties
abbrev pub part_types : Shape → List Ty
part_types shape = map (λ (part : Part). part.ty) shape.parts

-- the types of its parts and of its cases' payloads
abbrev pub types_in : Shape → List Ty
types_in shape = part_types shape ++ flat_map (λ (one : CaseShape). one.payload) shape.cases

-- the declared types that are part of a value
abbrev pub held_by : Shape → List ℕ
held_by shape = if is_value shape.kind then flat_map named_by (types_in shape) else []

-- what each shape holds
abbrev pub edges_of : List Shape → List (List ℕ)
edges_of shapes = map held_by shapes

-- the types of the shapes name these shapes alone
abbrev pub AreWithin : List Shape → Type 0
AreWithin shapes = All (λ shape. All (λ ty. IsTrue (is_within (length shapes) ty)) (types_in shape))
    shapes
