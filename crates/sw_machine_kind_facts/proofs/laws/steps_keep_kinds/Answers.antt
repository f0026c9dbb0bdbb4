use Rattle.sw_machine_kind_facts.proofs.NeverStuck.{step_kinded}
use Rattle.sw_machine_kind_facts.proofs.StartLemmas.{start_kinded}
use Rattle.sw_machine_kind_facts.proofs.laws.steps_keep_kinds.Goals as goal

pub returns : goal.returns
returns c = record { starts = start_kinded; keeps = step_kinded }
