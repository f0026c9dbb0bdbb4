use Rattle.sw_region_facts.proofs.Weaker.{weaker_within, weaker_same, weaker_on}
use Rattle.sw_region_facts.proofs.laws.greater_states_are_weaker.Goals as goal

pub returns : goal.returns
returns c = record { within = weaker_within; same = weaker_same; on = weaker_on }
