use Rattle.sw_order_facts.proofs.Passed.{states_know}
use Rattle.sw_order_facts.proofs.laws.states_know_their_past.Goals as goal

pub returns : goal.returns
returns c = states_know
