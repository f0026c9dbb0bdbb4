use Rattle.sw_tree_law.proofs.Texts.{never_races}
use Rattle.sw_tree_law.proofs.laws.accepted_trees_never_race.Goals as goal

pub returns : goal.returns
returns c = never_races
