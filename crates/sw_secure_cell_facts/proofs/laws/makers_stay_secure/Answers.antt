use Rattle.sw_secure_cell_facts.proofs.Stays.{joins, stays}
use Rattle.sw_secure_cell_facts.proofs.laws.makers_stay_secure.Goals as goal

pub returns : goal.returns
returns c = record { stays = stays; joins = joins }
