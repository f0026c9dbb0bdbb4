use Rattle.sw_tree_step.proofs.Moves.{trap_halts}
use Rattle.sw_tree_step.proofs.laws.events_tell_of_traps.Goals as goal

pub returns : goal.returns
returns c = trap_halts
