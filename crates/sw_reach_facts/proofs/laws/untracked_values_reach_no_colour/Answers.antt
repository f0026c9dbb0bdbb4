use Rattle.sw_reach_facts.proofs.SendableLemmas.{crosses_nothing}
use Rattle.sw_reach_facts.proofs.laws.untracked_values_reach_no_colour.Goals as goal

pub returns : goal.returns
returns g c = crosses_nothing
