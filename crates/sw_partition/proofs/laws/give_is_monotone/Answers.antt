use Rattle.sw_partition.specs.Monotone.{give_monotone}
use Rattle.sw_partition.proofs.laws.give_is_monotone.Goals as goal

pub returns : goal.returns
returns c = give_monotone
