use Rattle.sw_tree.specs.declared.operator.InfixOp.TheVariants as infix_of
use Rattle.sw_tree_work.proofs.Trees.{chain_of_two}
use Rattle.sw_tree_work.proofs.laws.operands_are_in_order.Goals as goal

pub returns : goal.returns
returns c facts owner = chain_of_two facts owner infix_of.Add
