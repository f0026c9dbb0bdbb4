use Rattle.sw_secure_value_facts.proofs.Whole.{joins, stays}
use Rattle.sw_secure_value_facts.proofs.laws.values_stay_secure.Goals as goal

pub returns : goal.returns
returns c = record { stays = stays; joins = joins }
