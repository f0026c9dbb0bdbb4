use Rattle.sw_tree_work.proofs.Trees.{switch_is}
use Rattle.sw_tree_work.proofs.laws.subjects_are_found_once.Goals as goal

pub returns : goal.returns
returns c facts owner at subject arms otherwise breaks rest =
    (_, switch_is facts owner at subject arms otherwise breaks rest)
