-- How the blocks of a function grow.
use Rattle.std.specs.Prelude.{ℕ, zero, suc, None, List, [], ◌∷◌, ◌++◌}
use Rattle.sw_graph.specs.declared.instr.Block.{Block}
use Rattle.sw_graph.specs.declared.instr.Instr.{Instr}
use Rattle.sw_graph.specs.declared.instr.Last.{Last}
use Rattle.sw_graph.specs.declared.instr.Last.TheVariants.{Return}

-- A new block has no instruction, and returns nothing.
abbrev pub new_block : Block
new_block = record { instrs = []; last = Return None }

abbrev pub with_instr : Instr → Block → Block
with_instr instr block = record block { instrs = block.instrs ++ instr ∷ [] }

abbrev pub with_last : Last → Block → Block
with_last last block = record block { last = last }

-- the list with the item at an index changed by g; past the end nothing changes
unfoldable pub changed_at : {A : Type 0} → (A → A) → ℕ → List A → List A
changed_at g index [] = []
changed_at g zero (x ∷ xs) = g x ∷ xs
changed_at g (suc index) (x ∷ xs) = x ∷ changed_at g index xs
