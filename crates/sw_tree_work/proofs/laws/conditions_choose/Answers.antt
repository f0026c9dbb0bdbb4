use Rattle.std.proofs.Common.{Some, None}
use Rattle.sw_tree_work.proofs.Trees.{if_of_one}
use Rattle.sw_tree_work.proofs.laws.conditions_choose.Goals as goal

pub returns : goal.returns
returns c = record {
  both = λ facts owner at cond body other. if_of_one facts owner at cond body (Some other);
  one = λ facts owner at cond body. if_of_one facts owner at cond body None;
}
