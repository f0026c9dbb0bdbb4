use Rattle.sw_secure_facts.proofs.Heres.{have_heres}
use Rattle.sw_secure_facts.proofs.laws.secure_states_have_heres.Goals as goal

pub returns : goal.returns
returns c = have_heres
