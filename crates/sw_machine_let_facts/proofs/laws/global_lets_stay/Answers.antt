use Rattle.sw_machine_let_facts.proofs.PastLemmas.{past_on, global_kept_on}
use Rattle.sw_machine_let_facts.proofs.laws.global_lets_stay.Goals as goal

pub returns : goal.returns
returns c = record { past = past_on; items = global_kept_on }
