use Rattle.sw_tree_step.proofs.Moves.{no_move_of_halted, silent, stays}
use Rattle.sw_tree_step.proofs.laws.halted_machines_stay.Goals as goal

pub returns : goal.returns
returns c = record {
  state = λ bodies state j trap is.
      stays bodies state j (no_move_of_halted bodies state j trap is);
  event = λ bodies state j trap is.
      silent bodies state j (no_move_of_halted bodies state j trap is);
}
