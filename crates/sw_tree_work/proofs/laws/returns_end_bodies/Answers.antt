use Rattle.sw_tree_work.proofs.Trees.{return_of_nothing, return_of_value}
use Rattle.sw_tree_work.proofs.laws.returns_end_bodies.Goals as goal

pub returns : goal.returns
returns c = record { value = return_of_value; nothing = return_of_nothing }
