use Rattle.sw_tree_step.proofs.Computing.{awaited}
use Rattle.sw_tree_step.proofs.examples.tasks_are_awaited.Goals as goal

pub returns : goal.returns
returns c = awaited
