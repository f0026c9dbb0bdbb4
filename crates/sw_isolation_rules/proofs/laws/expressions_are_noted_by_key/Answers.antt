use Rattle.sw_isolation_rules.proofs.NotedKeys.{noted_key}
use Rattle.sw_isolation_rules.proofs.laws.expressions_are_noted_by_key.Goals as goal

pub returns : goal.returns
returns c = noted_key
