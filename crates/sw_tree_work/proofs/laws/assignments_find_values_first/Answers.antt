use Rattle.sw_tree.specs.declared.operator.AssignOp.TheVariants as assigns
use Rattle.sw_tree_work.proofs.Trees.{assignment}
use Rattle.sw_tree_work.proofs.laws.assignments_find_values_first.Goals as goal

pub returns : goal.returns
returns c = record {
  set = λ facts owner at. assignment facts owner at assigns.Set;
  add = λ facts owner at. assignment facts owner at assigns.Add;
}
