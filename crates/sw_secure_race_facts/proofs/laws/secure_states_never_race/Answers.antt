use Rattle.sw_secure_race_facts.proofs.Excluding.{never_race}
use Rattle.sw_secure_race_facts.proofs.laws.secure_states_never_race.Goals as goal

pub returns : goal.returns
returns c = never_race
