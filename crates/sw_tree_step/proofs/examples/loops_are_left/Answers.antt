use Rattle.sw_tree_step.proofs.Computing.{left}
use Rattle.sw_tree_step.proofs.examples.loops_are_left.Goals as goal

pub returns : goal.returns
returns c = left
