use Rattle.sw_tree.specs.declared.operator.InfixOp.TheVariants as infix_of
use Rattle.sw_tree_work.proofs.Trees.{chain_of_two}
use Rattle.sw_tree_work.proofs.laws.right_operands_may_be_skipped.Goals as goal

pub returns : goal.returns
returns c = record {
  and = λ facts owner. chain_of_two facts owner infix_of.And;
  or = λ facts owner. chain_of_two facts owner infix_of.Or;
}
