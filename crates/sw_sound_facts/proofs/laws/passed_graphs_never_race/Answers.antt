use Rattle.sw_sound_facts.proofs.Theorem.{never_races}
use Rattle.sw_sound_facts.proofs.laws.passed_graphs_never_race.Goals as goal

pub returns : goal.returns
returns c = never_races
