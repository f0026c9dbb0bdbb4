use Rattle.sw_value.proofs.AccessLemmas.{next_names_its_job}
use Rattle.sw_value.proofs.RaceLemmas.{least_race, one_least_race}
use Rattle.sw_value.proofs.laws.races_are_decided.Goals as goal

pub returns-clause-decided : goal.returns-clause-decided
returns-clause-decided c = least_race

pub returns-clause-one : goal.returns-clause-one
returns-clause-one c = one_least_race

pub returns-clause-named : goal.returns-clause-named
returns-clause-named c = next_names_its_job
