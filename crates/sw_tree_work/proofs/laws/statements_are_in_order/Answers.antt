use Rattle.sw_tree_work.proofs.Trees.{block_in_order}
use Rattle.sw_tree_work.proofs.laws.statements_are_in_order.Goals as goal

pub returns : goal.returns
returns c = block_in_order
