use Rattle.sw_tree_step.proofs.Others.{others_stay}
use Rattle.sw_tree_step.proofs.laws.other_jobs_stay.Goals as goal

pub returns : goal.returns
returns c = others_stay
