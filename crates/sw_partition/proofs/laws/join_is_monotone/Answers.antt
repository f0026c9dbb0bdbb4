use Rattle.sw_partition.specs.Monotone.{join_monotone}
use Rattle.sw_partition.proofs.laws.join_is_monotone.Goals as goal

pub returns : goal.returns
returns c = join_monotone
