use Rattle.sw_tree_step.proofs.Moves.{no_move_past, only, silent, stays}
use Rattle.sw_tree_step.proofs.laws.idle_items_change_nothing.Goals as goal

pub returns : goal.returns
returns c = record { stays = stays; silent = silent; only = only; unnamed = no_move_past }
