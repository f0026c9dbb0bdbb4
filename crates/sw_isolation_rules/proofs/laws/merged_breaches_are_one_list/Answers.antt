use Rattle.sw_isolation_rules.proofs.OneMerged.{one_merged}
use Rattle.sw_isolation_rules.proofs.laws.merged_breaches_are_one_list.Goals as goal

pub returns : goal.returns
returns c = one_merged
