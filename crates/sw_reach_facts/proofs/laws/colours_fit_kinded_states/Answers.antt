use Rattle.sw_reach_facts.proofs.FitLemmas.{colours_fit}
use Rattle.sw_reach_facts.proofs.laws.colours_fit_kinded_states.Goals as goal

pub returns : goal.returns
returns g c = colours_fit
