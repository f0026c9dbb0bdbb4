use Rattle.sw_machine_access_facts.proofs.WriteLemmas.{step_writes, step_stays}
use Rattle.sw_machine_access_facts.proofs.laws.steps_write_what_they_access.Goals as goal

pub returns : goal.returns
returns c = record { writes = step_writes; stays = step_stays }
