use Rattle.sw_reach_facts.proofs.RenamedLemmas.{colours_renamed}
use Rattle.sw_reach_facts.proofs.laws.colours_are_renamed.Goals as goal

pub returns : goal.returns
returns g c = colours_renamed
