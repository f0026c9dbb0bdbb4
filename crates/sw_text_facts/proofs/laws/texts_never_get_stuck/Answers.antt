use Rattle.sw_value.specs.Reach.{reach}
use Rattle.sw_machine_kind_facts.proofs.LawLemmas as machine
use Rattle.sw_machine_kind_facts.proofs.NeverStuck.{reached_kinded}
use Rattle.sw_text_facts.proofs.Supplied.{text_supplied}
use Rattle.sw_text_facts.proofs.laws.texts_never_get_stuck.Goals as goal

pub returns : goal.returns
returns c = record {
  supplied = text_supplied;
  never_stuck = λ rule text graph passes of.
      machine.never_stuck graph (text_supplied rule text graph passes of);
  executes = λ rule text graph passes of.
      machine.executes graph (text_supplied rule text graph passes of);
  operands = λ rule text graph passes of items j job is running.
      let supplied = text_supplied rule text graph passes of in
      let kinded = reached_kinded graph supplied items in
      (kinded, machine.has_next graph supplied (reach graph items) kinded j job is running);
}
