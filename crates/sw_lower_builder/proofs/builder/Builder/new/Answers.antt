use Rattle.sw_lower_builder.proofs.BlockLemmas.{none_counted}
use Rattle.sw_lower_builder.proofs.builder.Builder.new.Goals as goal

pub invariant_of-result : goal.invariant_of-result
invariant_of-result c = none_counted _ _ c.new.ensures c.new-2.ensures
