use Rattle.sw_region_ops.proofs.RunLemmas.{runs_size, runs_monotone}
use Rattle.sw_region_ops.proofs.laws.operations_are_monotone.Goals as goal

pub returns-clause-sized : goal.returns-clause-sized
returns-clause-sized c = runs_size

pub returns-clause-monotone : goal.returns-clause-monotone
returns-clause-monotone c = runs_monotone
