use Rattle.sw_machine_let_facts.proofs.GlobalLemmas.{let_stored}
use Rattle.sw_machine_let_facts.proofs.laws.global_lets_get_first_values.Goals as goal

pub returns : goal.returns
returns c = record { firsts = let_stored }
