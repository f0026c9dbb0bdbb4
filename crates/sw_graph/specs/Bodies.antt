-- What a graph tells of its bodies: which are initialisers, and which hold their own `self`.
use Rattle.std.specs.Prelude.{ℕ, Bool, true, false, ◌&&◌, not, ◌==◌, Option, Some, None, List}
use Rattle.std.specs.Prelude.{[]}
use Rattle.std.specs.Prelude.{◌∷◌, slice_get}
use Rattle.std.specs.List.{list_any}
use Rattle.std.specs.Option.{option_and_then}
use Rattle.sw_types.specs.declared.isolation.Iso.{Iso}
use Rattle.sw_types.specs.declared.isolation.Iso.TheVariants.{Own, Global}
use Rattle.sw_types.specs.declared.shape.Shape.{Shape}
use Rattle.sw_types.specs.declared.ty.Ty.{Ty, out-Ty}
use Rattle.sw_types.specs.declared.ty.Ty.TheOpen as layer
use Rattle.sw_graph.specs.declared.function.Function.{Function}
use Rattle.sw_graph.specs.declared.instr.Instr.TheVariants.{NewObject, NewActor}
use Rattle.sw_graph.specs.declared.instr.Operand.{Operand}
use Rattle.sw_graph.specs.Points.{Point, Middle, points_of}

abbrev pub is_own : Iso → Bool
is_own Own = true
is_own _ = false

-- whether it is isolated to this global actor
abbrev pub is_on : ℕ → Iso → Bool
is_on actor (Global other) = actor == other
is_on actor _ = false

abbrev pub layer_names : ℕ → layer.Ty-F Ty → Bool
layer_names k (layer.Named number) = number == k
layer_names k _ = false

-- whether it is the type of that shape
abbrev pub names : ℕ → Ty → Bool
names k ty = layer_names k (out-Ty ty)

-- whether the point makes an actor of this type
abbrev pub makes_actor : Ty → Point → Bool
makes_actor ty (Middle (NewActor at dst shape args)) = names shape ty
makes_actor ty _ = false

-- An actor's initialiser is isolated to `self`, makes that actor and gives it.
abbrev pub is_actor_initialiser : Function → Bool
is_actor_initialiser function =
    is_own function.iso && list_any (makes_actor function.result) (points_of function.blocks)

-- the global actor of a shape
abbrev pub actor_of : List Shape → ℕ → Option ℕ
actor_of shapes k = option_and_then (λ shape. shape.actor) (slice_get shapes k)

abbrev pub is_on_some : Option ℕ → Iso → Bool
is_on_some (Some actor) iso = is_on actor iso
is_on_some None iso = false

-- whether the point makes an object of this type, a class whose global actor the body is on
abbrev pub makes_object : List Shape → Function → Point → Bool
makes_object shapes function (Middle (NewObject at dst shape args)) =
    names shape function.result && is_on_some (actor_of shapes shape) function.iso
makes_object shapes function _ = false

-- The initialiser of a class with a global actor is isolated to that actor, makes an object of the
-- class and gives it.
abbrev pub is_class_initialiser : List Shape → Function → Bool
is_class_initialiser shapes function =
    list_any (makes_object shapes function) (points_of function.blocks)

-- Whether a body has its own `self`, in register 0.
abbrev pub has_self : Function → Bool
has_self function = is_own function.iso && not (is_actor_initialiser function)

-- whether an operand is the body's own `self`
abbrev pub is_self : Function → Operand → Bool
is_self function operand = has_self function && (operand.reg == 0)

-- whether the first of the operands is the body's own `self`
abbrev pub first_is_self : Function → List Operand → Bool
first_is_self function [] = false
first_is_self function (operand ∷ operands) = is_self function operand
