-- Blocks that return only after they stored a global variable.
use Rattle.std.specs.Prelude.{◌≡◌, ℕ, ◌++◌, List, [], ◌∷◌, slice_get, Some}
use Rattle.sw_graph.specs.Placed.{IsReturn}
use Rattle.sw_graph.specs.declared.instr.Block.{Block}
use Rattle.sw_graph.specs.declared.instr.Instr.{Instr}
use Rattle.sw_graph.specs.declared.instr.Instr.TheVariants.{StoreGlobal}
use Rattle.sw_graph.specs.declared.instr.Operand.{Operand}

-- the last of the instructions stores global g
pub record EndsStoring (g : ℕ) (instrs : List Instr) : Type 0 where
  pub earlier : List Instr
  pub at : ℕ
  pub given : Operand
  pub is : instrs ≡ earlier ++ StoreGlobal at g given ∷ []

abbrev pub ReturnsStoring : ℕ → Block → Type 0
ReturnsStoring g block = IsReturn block.last → EndsStoring g block.instrs

-- each block of these
abbrev pub AllReturnStoring : ℕ → List Block → Type 0
AllReturnStoring g blocks = (number : ℕ) (block : Block) → slice_get blocks number ≡ Some block
    → ReturnsStoring g block
