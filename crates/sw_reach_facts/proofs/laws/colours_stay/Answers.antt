use Rattle.sw_reach_facts.proofs.ChangeLemmas.{colours_before, colours_written}
use Rattle.sw_reach_facts.proofs.laws.colours_stay.Goals as goal

pub returns : goal.returns
returns g c = record { added = colours_before; written = colours_written }
