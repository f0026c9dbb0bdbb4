use Rattle.sw_tree_work.proofs.Trees.{break_is, continue_is, while_is}
use Rattle.sw_tree_work.proofs.laws.loops_are_left_by_break.Goals as goal

pub returns : goal.returns
returns c = record { loops = while_is; breaks = break_is; continues = continue_is }
