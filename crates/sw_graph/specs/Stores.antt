-- Functions that give a global variable its first value.
use Rattle.std.specs.Prelude.{◌≡◌, ℕ, Bool, false, ◌||◌, ◌==◌, IsTrue, Option, Some}
use Rattle.std.specs.Prelude.{List, [], ◌∷◌}
use Rattle.sw_graph.specs.declared.function.Function.{Function}
use Rattle.sw_graph.specs.declared.instr.Instr.TheVariants.{StoreGlobal}
use Rattle.sw_graph.specs.declared.instr.Last.TheVariants.{Return}
use Rattle.sw_graph.specs.declared.instr.Operand.{Operand}
use Rattle.sw_graph.specs.Points.{Point, Middle, End, point_in}
use Rattle.sw_graph.specs.Ways.{Way}

abbrev pub point_stores : ℕ → Option Point → Bool
point_stores g (Some (Middle (StoreGlobal at global src))) = global == g
point_stores g _ = false

-- whether one of the points that were passed gives global g a value
abbrev pub has_stored : Function → List ℕ → ℕ → Bool
has_stored function [] g = false
has_stored function (p ∷ passed) g =
    point_stores g (point_in function p) || has_stored function passed g

-- the function gives global g a value before it returns, on every way
abbrev pub StoresFirst : ℕ → Function → Type 0
StoresFirst g function = (p : ℕ) (passed : List ℕ) (value : Option Operand) → Way function p passed
    → point_in function p ≡ Some (End (Return value)) → IsTrue (has_stored function passed g)
