use Rattle.sw_machine_kind_facts.proofs.LawLemmas as law
use Rattle.sw_machine_kind_facts.proofs.NeverStuck.{reached_kinded}
use Rattle.sw_machine_kind_facts.proofs.laws.machine_is_never_stuck.Goals as goal

pub returns : goal.returns
returns c = record {
  never_stuck = law.never_stuck;
  executes = law.executes;
  operands = law.has_next;
  kinded = reached_kinded;
}
