use Rattle.sw_tree.proofs.OwnKeys.{own_key}
use Rattle.sw_tree.proofs.laws.keys_are_in_trees.Goals as goal

pub returns : goal.returns
returns c = own_key
