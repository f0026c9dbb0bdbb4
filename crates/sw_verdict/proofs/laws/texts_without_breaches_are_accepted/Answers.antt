use Rattle.sw_verdict.proofs.Passing.{certified_accepts}
use Rattle.sw_verdict.proofs.laws.texts_without_breaches_are_accepted.Goals as goal

pub returns : goal.returns
returns c = certified_accepts
