-- The ways that a job takes through the points of a function, and that on each of them a register
-- is set before it is read.
use Rattle.std.specs.Prelude.{◌≡◌, ℕ, ◌+◌, Bool, false, ◌||◌, ◌==◌, nat_lt, IsTrue}
use Rattle.std.specs.Prelude.{Option, Some, None}
use Rattle.std.specs.Prelude.{List, [], ◌∷◌, slice_get}
use Rattle.std.specs.List.{All}
use Rattle.sw_graph.specs.declared.instr.Instr.{Instr}
use Rattle.sw_graph.specs.declared.instr.Last.{Last}
use Rattle.sw_graph.specs.declared.function.Function.{Function}
use Rattle.sw_graph.specs.Mentions.{set_by, reads, last_registers, blocks_of}
use Rattle.sw_graph.specs.Points.{Point, Middle, End, point_in, block_start}

-- One point leads to another: an instruction to the point after it, and a last instruction to
-- where one of its blocks begins.
pub data Leads (function : Function) : ℕ → ℕ → Type 0 where
  on : (p : ℕ) (instr : Instr) → point_in function p ≡ Some (Middle instr)
      → Leads function p (p + 1)
  to : (p : ℕ) (last : Last) (k block q : ℕ) → point_in function p ≡ Some (End last)
      → slice_get (blocks_of last) k ≡ Some block → block_start function block ≡ Some q
      → Leads function p q

-- a way from the first point to a point, with the points that it passes, the last of them first
pub data Way (function : Function) : ℕ → List ℕ → Type 0 where
  begin : Way function 0 []
  further : (p q : ℕ) (passed : List ℕ) → Way function p passed → Leads function p q
      → Way function q (p ∷ passed)

abbrev pub is_number : ℕ → Option ℕ → Bool
is_number r (Some n) = n == r
is_number r None = false

abbrev pub point_sets : ℕ → Option Point → Bool
point_sets r (Some (Middle instr)) = is_number r (set_by instr)
point_sets r _ = false

-- whether a register has a value after these points: it is taken, or it is set at one of them
abbrev pub is_set : Function → List ℕ → ℕ → Bool
is_set function [] r = nat_lt r function.takes
is_set function (p ∷ passed) r = point_sets r (point_in function p) || is_set function passed r

-- the registers that are read at a point
abbrev pub point_reads : Point → List ℕ
point_reads (Middle instr) = reads instr
point_reads (End last) = last_registers last

-- On every way to a point each register that it reads has a value.
abbrev pub SetsBeforeReads : Function → Type 0
SetsBeforeReads function = (p : ℕ) (passed : List ℕ) → Way function p passed → (point : Point)
    → point_in function p ≡ Some point
    → All (λ r. IsTrue (is_set function passed r)) (point_reads point)

-- What an annotation says of each point and register is what was set: at the first point only what
-- is taken, and after a point only what it sets besides. Each point reads such registers alone.
pub record IsAnnotated (function : Function) (annotation : ℕ → ℕ → Bool) : Type 0 where
  pub starts : (r : ℕ) → IsTrue (annotation 0 r) → IsTrue (nat_lt r function.takes)
  pub leads : (p q r : ℕ) → Leads function p q → IsTrue (annotation q r)
      → IsTrue (point_sets r (point_in function p) || annotation p r)
  pub reads_set : (p : ℕ) (point : Point) → point_in function p ≡ Some point
      → All (λ r. IsTrue (annotation p r)) (point_reads point)
