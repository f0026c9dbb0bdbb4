-- A function as a whole, in which each piece of its code has its place, and which registers have a
-- value where.
use Rattle.std.specs.Prelude.{◌≡◌, ℕ, zero, suc, ◌<◌, ◌⊎◌, Bool, false, ◌||◌, IsTrue, List, [], ◌∷◌}
use Rattle.std.specs.Prelude.{Option, Some, None, length, slice_get}
use Rattle.sw_types.specs.declared.shape.Shape.{Shape}
use Rattle.sw_types.specs.declared.ty.Ty.{Ty}
use Rattle.sw_graph.specs.Mentions.{set_by}
use Rattle.sw_graph.specs.Ways.{is_number}
use Rattle.sw_graph.specs.declared.function.Function.{Function}
use Rattle.sw_graph.specs.declared.function.GlobalKind.{GlobalKind}
use Rattle.sw_graph.specs.declared.function.RegKind.{RegKind}
use Rattle.sw_graph.specs.declared.instr.Instr.{Instr}
use Rattle.sw_lower_plans.specs.Plan.{NewBlock, Numbers, Written, written_in}
use Rattle.sw_lower_code.specs.Whole.{Body, piece_of}

-- What a function takes and gives, and all the registers, blocks and instructions that it has in
-- the end; and what its graph has besides.
pub record Whole : Type 0 where
  pub shapes : List Shape
  pub globals : List GlobalKind
  pub functions : List Function
  pub takes : ℕ
  pub result : Ty
  pub regs : List RegKind
  pub made : List NewBlock
  pub writes : List Written

-- the function of a body, as its plan says it, in a graph of these shapes, global variables and
-- functions
abbrev pub whole_of : List Shape → List GlobalKind → List Function → Numbers → Body → Whole
whole_of shapes globals functions number body = record {
  shapes = shapes;
  globals = globals;
  functions = functions;
  takes = length body.takes;
  result = body.result;
  regs = (piece_of number body).regs;
  made = (piece_of number body).made;
  writes = (piece_of number body).writes;
}

-- what is said of a block where it is made; the first block isn't made
abbrev pub made_at : Whole → ℕ → Option NewBlock
made_at w zero = None
made_at w (suc number) = slice_get w.made number

-- whether some instruction of these sets a register
abbrev pub sets : List Instr → ℕ → Bool
sets [] r = false
sets (instr ∷ instrs) r = is_number r (set_by instr) || sets instrs r

-- A register has a value where a block begins: the function takes it, or it has one at the end of
-- the block that went on when this one was made.
pub data AtStart (w : Whole) : ℕ → ℕ → Type 0 where
  taken : (block r : ℕ) → r < w.takes → AtStart w block r
  before : (block r : ℕ) (one : NewBlock) → made_at w block ≡ Some one
      → AtStart w one.from r → AtStart w block r
  set_before : (block r : ℕ) (one : NewBlock) → made_at w block ≡ Some one
      → IsTrue (sets (written_in one.from w.writes) r) → AtStart w block r

-- A register has a value in a block after these instructions of the function.
abbrev pub IsSet : Whole → List Written → ℕ → ℕ → Type 0
IsSet w writes block r = AtStart w block r ⊎ IsTrue (sets (written_in block writes) r)

-- A register has a value at the end of a block.
abbrev pub AtEnd : Whole → ℕ → ℕ → Type 0
AtEnd w block r = IsSet w w.writes block r
