use Rattle.sw_partition.specs.Monotone.{fresh_monotone}
use Rattle.sw_partition.proofs.laws.fresh_is_monotone.Goals as goal

pub returns : goal.returns
returns c = fresh_monotone
