use Rattle.sw_tree_step.proofs.Computing.{hopped}
use Rattle.sw_tree_step.proofs.examples.actors_are_hopped_to.Goals as goal

pub returns : goal.returns
returns c = hopped
