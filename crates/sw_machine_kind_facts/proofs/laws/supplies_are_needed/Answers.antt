use Rattle.sw_machine_kind_facts.proofs.Examples as example
use Rattle.sw_machine_kind_facts.proofs.laws.supplies_are_needed.Goals as goal

pub returns : goal.returns
returns c = record {
  begins = example.begins_needed;
  returns = example.returns_needed;
  globals = example.globals_needed;
}
