-- Calls that give an actor.
use Rattle.std.specs.Prelude.{◌≡◌, ℕ, List, Some, slice_get}
use Rattle.sw_types.specs.declared.isolation.Iso.TheVariants.{Own}
use Rattle.sw_types.specs.declared.shape.Shape.{Shape}
use Rattle.sw_graph.specs.declared.function.Function.{Function}
use Rattle.sw_graph.specs.Supplied.{TakesActor}

-- The function with a number takes an actor first, where it is isolated to `self`.
abbrev pub TakesAt : List Shape → List Function → ℕ → Type 0
TakesAt shapes functions f = (function : Function) → slice_get functions f ≡ Some function
    → function.iso ≡ Own → TakesActor shapes function
