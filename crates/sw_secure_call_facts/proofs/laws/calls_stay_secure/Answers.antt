use Rattle.sw_secure_call_facts.proofs.Whole.{calls_join, calls_stay}
use Rattle.sw_secure_call_facts.proofs.laws.calls_stay_secure.Goals as goal

pub returns : goal.returns
returns c = record { stays = calls_stay; joins = calls_join }
