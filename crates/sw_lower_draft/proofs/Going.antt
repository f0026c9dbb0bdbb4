-- The block that goes on stays there.
use Rattle.std.proofs.Common.{◌≡◌, ℕ, ◌<◌, length, ap, ◌∙◌, arith}
use Rattle.sw_graph.specs.declared.instr.Block.{Block}
use Rattle.sw_lower_builder.specs.Unfinished.{Unfinished, in_block}
use Rattle.sw_lower_builder.proofs.BlockLemmas.{length_changed}

pub still_going : (g : Block → Block) (here number : ℕ) (old new : Unfinished)
    → new ≡ in_block g number old → here < length old.blocks → here < length new.blocks
still_going g here number old new is going =
    let as_many : length new.blocks ≡ length old.blocks =
    ap (λ made. length made.blocks) is ∙ length_changed g number old.blocks in
    omega arith
