use Rattle.sw_tree_work.proofs.Order.{parts_in_order}
use Rattle.sw_tree_work.proofs.laws.arguments_are_in_order.Goals as goal

pub returns : goal.returns
returns c = parts_in_order
