use Rattle.sw_secure_late_facts.proofs.Everywhere.{late_secure}
use Rattle.sw_secure_late_facts.proofs.laws.late_states_are_secure.Goals as goal

pub returns : goal.returns
returns c = late_secure
