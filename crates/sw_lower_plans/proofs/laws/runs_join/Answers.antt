use Rattle.sw_lower_plans.proofs.SameThen.{same_then}
use Rattle.sw_lower_plans.proofs.laws.runs_join.Goals as goal

pub returns : goal.returns
returns g c = same_then
