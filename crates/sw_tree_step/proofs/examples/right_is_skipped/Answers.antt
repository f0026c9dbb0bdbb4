use Rattle.sw_tree_step.proofs.Computing.{looked_at, skipped}
use Rattle.sw_tree_step.proofs.examples.right_is_skipped.Goals as goal

pub returns : goal.returns
returns c = record { skipped = skipped; looked_at = looked_at }
