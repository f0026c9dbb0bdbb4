use Rattle.sw_value.proofs.ReachLemmas.{start_reached, step_reached}
use Rattle.sw_value.proofs.laws.steps_reach.Goals as goal

pub returns-clause-starts : goal.returns-clause-starts
returns-clause-starts c = start_reached

pub returns-clause-goes_on : goal.returns-clause-goes_on
returns-clause-goes_on c = step_reached
