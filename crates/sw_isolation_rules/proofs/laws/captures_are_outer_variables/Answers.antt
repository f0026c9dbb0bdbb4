use Rattle.sw_isolation_rules.proofs.SoundPrograms.{outer_captures}
use Rattle.sw_isolation_rules.proofs.laws.captures_are_outer_variables.Goals as goal

pub returns : goal.returns
returns c = outer_captures
