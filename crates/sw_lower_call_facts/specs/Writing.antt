-- What holds of each instruction that code writes.
use Rattle.std.specs.Prelude.{◌≡◌, List, Ok, All}
use Rattle.sw_graph.specs.declared.instr.Block.{Block}
use Rattle.sw_graph.specs.declared.instr.Instr.{Instr}
use Rattle.sw_lower_plans.specs.Plan.{Numbers}
use Rattle.sw_lower_plans.specs.Run.{Making}
use Rattle.sw_lower_code.specs.Code.{Code}

-- each instruction of these blocks
abbrev pub InBlocks : (Instr → Type 0) → List Block → Type 0
InBlocks P blocks = All (λ (block : Block). All P block.instrs) blocks

-- A function while code for it is made: what its instructions have, and the numbers of functions.
pub record HoldsOnly (P : Instr → Type 0) (numbers : Numbers) (making : Making) : Type 0 where
  pub written : InBlocks P making.made.blocks
  pub number : making.number ≡ numbers

-- Code writes such instructions alone.
pub record WritesOnly (P : Instr → Type 0) (numbers : Numbers) {A : Type 0} (code : Code A)
    : Type 0 where
  pub keeps : (s t : Making) (value : A) → HoldsOnly P numbers s → code.run s ≡ Ok (value, t)
      → HoldsOnly P numbers t
