use Rattle.sw_partition.specs.Monotone.{put_monotone}
use Rattle.sw_partition.proofs.laws.put_is_monotone.Goals as goal

pub returns : goal.returns
returns c = put_monotone
