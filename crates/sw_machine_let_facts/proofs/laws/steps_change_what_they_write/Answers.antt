use Rattle.sw_machine_let_facts.proofs.KeepLemmas.{reached_spares, step_spares}
use Rattle.sw_machine_let_facts.proofs.laws.steps_change_what_they_write.Goals as goal

pub returns : goal.returns
returns c = record { reached = reached_spares; kinded = step_spares }
