use Rattle.sw_region_facts.proofs.Comes.{gathers_sets, makes_sets, sets_to}
use Rattle.sw_region_facts.proofs.laws.registers_get_what_sources_hold.Goals as goal

pub returns : goal.returns
returns c = record { gathered = gathers_sets; made = makes_sets; weaker = sets_to }
