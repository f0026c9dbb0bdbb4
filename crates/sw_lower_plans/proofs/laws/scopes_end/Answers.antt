use Rattle.sw_lower_plans.proofs.SameThen.{same_scope}
use Rattle.sw_lower_plans.proofs.laws.scopes_end.Goals as goal

pub returns : goal.returns
returns g c = same_scope
