use Rattle.sw_machine_access_facts.proofs.ReadLemmas.{act_same}
use Rattle.sw_machine_access_facts.proofs.laws.steps_read_what_they_access.Goals as goal

pub returns : goal.returns
returns c = record { reads = act_same }
