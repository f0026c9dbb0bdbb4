use Rattle.std.proofs.Common.{rules}
use Rattle.sw_lower_builder.proofs.BlockLemmas.{block_counted}
use Rattle.sw_lower_builder.proofs.builder.Builder.block.Goals as goal

pub invariant_of-self-2 : goal.invariant_of-self-2
invariant_of-self-2 c =
    block_counted _ c.self.inside.blocks _ c.self.inside.points c.self.invariant (search rules)
    (search rules)
