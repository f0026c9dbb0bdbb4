-- Structs and enums that hold themselves.
use Rattle.std.specs.Prelude.{ℕ, ◌≤◌, List, map, slice_index_or}
use Rattle.sw_types.specs.Held.{edges_of}
use Rattle.sw_types.specs.Paths.{Path}
use Rattle.sw_types.specs.declared.shape.Shape.{Shape}
use Rattle.sw_types.specs.declared.shapes.ShapeFault.{ShapeFault}
use Rattle.sw_types.specs.declared.shapes.ShapeFault.TheVariants.{Cycle, Memory}

-- a struct or an enum that holds itself through structs and enums
abbrev pub HoldsItself : List Shape → ℕ → Type 0
HoldsItself shapes k = Path (edges_of shapes) k k

-- where the word of a shape stands
abbrev pub place_of : List Shape → ℕ → ℕ
place_of shapes k = slice_index_or (map (λ (shape : Shape). shape.at) shapes) k 0

-- The shape holds itself, and of all that do its word stands first. Nothing is said of memory.
abbrev pub IsShapeFault : List Shape → ShapeFault → Type 0
IsShapeFault shapes (Cycle k) = HoldsItself shapes k
    × ((other : ℕ) → HoldsItself shapes other → place_of shapes k ≤ place_of shapes other)
IsShapeFault shapes Memory = Unit {0}
