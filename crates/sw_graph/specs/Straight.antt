-- Functions of one block that leads nowhere: their instructions are executed in order, and each may
-- read what those before it set.
use Rattle.std.specs.Prelude.{◌≡◌, ℕ, ◌<◌, ◌≤◌, Bool, true, false, ◌&&◌, ◌||◌, not, nat_lt, IsTrue}
use Rattle.std.specs.Prelude.{List, [], ◌∷◌, length, All}
use Rattle.std.specs.List.{list_all}
use Rattle.sw_types.specs.declared.shape.Shape.{Shape}
use Rattle.sw_types.specs.Named.{is_within}
use Rattle.sw_graph.specs.declared.function.Function.{Function}
use Rattle.sw_graph.specs.declared.function.GlobalKind.{GlobalKind}
use Rattle.sw_graph.specs.declared.instr.Block.{Block}
use Rattle.sw_graph.specs.declared.instr.Instr.{Instr}
use Rattle.sw_graph.specs.declared.instr.Last.{Last}
use Rattle.sw_graph.specs.declared.instr.Last.TheVariants.{Jump, Branch, Switch, Return}
use Rattle.sw_graph.specs.Limits.{IsWithinLimits}
use Rattle.sw_graph.specs.Mentions.{set_by, reads, last_registers}
use Rattle.sw_graph.specs.Payloads.{has_payload}
use Rattle.sw_graph.specs.Ways.{is_number}
use Rattle.sw_graph.specs.WellFormed.{AllBelow, type_in, BlockFits}

-- whether a register is taken, or set by one of these instructions
abbrev pub has_value : ℕ → List Instr → ℕ → Bool
has_value takes [] r = nat_lt r takes
has_value takes (instr ∷ done) r = is_number r (set_by instr) || has_value takes done r

-- Whether each instruction, and the last after them, reads what is taken, or set by those that are
-- done or by those before it.
abbrev pub reads_in_order : ℕ → Last → List Instr → List Instr → Bool
reads_in_order takes last done [] = list_all (has_value takes done) (last_registers last)
reads_in_order takes last done (instr ∷ instrs) =
    list_all (has_value takes done) (reads instr) && reads_in_order takes last (instr ∷ done) instrs

abbrev pub returns : Last → Bool
returns (Jump to) = false
returns (Branch condition holds fails) = false
returns (Switch subject to) = false
returns (Return value) = true

abbrev pub is_straight_block : ℕ → Block → Bool
is_straight_block takes block = returns block.last && not (has_payload block.instrs)
    && reads_in_order takes block.last [] block.instrs

-- whether there is one block alone, which returns, has no payload and reads in order
abbrev pub are_straight : ℕ → List Block → Bool
are_straight takes (block ∷ []) = is_straight_block takes block
are_straight takes _ = false

abbrev pub is_straight : Function → Bool
is_straight function = are_straight function.takes function.blocks

-- What a straight function has for its graph to be well formed.
pub record StraightFits (shapes : List Shape) (globals : List GlobalKind)
    (functions : List Function) (function : Function) : Type 0 where
  pub straight : IsTrue (is_straight function)
  pub takes : function.takes ≤ length function.regs
  pub sending : length function.sending ≡ function.takes
  pub types : All (λ kind. IsTrue (is_within (length shapes) (type_in kind))) function.regs
  pub result : IsTrue (is_within (length shapes) function.result)
  pub blocks : All (BlockFits shapes globals functions function) function.blocks

-- the numbers of the graph are in range as in a well-formed one, and its functions are straight
pub record IsStraightGraph (shapes : List Shape) (globals : List GlobalKind)
    (functions : List Function) (entry : ℕ) (starts : List ℕ) : Type 0 where
  pub entry_in : entry < length functions
  pub starts_in : AllBelow (length functions) starts
  pub first_values : length starts ≡ length globals
  pub types : All (λ global. IsTrue (is_within (length shapes) global.ty)) globals
  pub limits : All IsWithinLimits functions
  pub each : All (StraightFits shapes globals functions) functions
