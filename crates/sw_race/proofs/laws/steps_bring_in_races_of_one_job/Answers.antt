use Rattle.sw_race.proofs.StepLemmas.{other_targets, brings_in_its_own, racing_by_rival}
use Rattle.sw_race.proofs.laws.steps_bring_in_races_of_one_job.Goals as goal

pub returns-clause-targets : goal.returns-clause-targets
returns-clause-targets c = other_targets

pub returns-clause-one_job : goal.returns-clause-one_job
returns-clause-one_job c = brings_in_its_own

pub returns-clause-racing : goal.returns-clause-racing
returns-clause-racing c = racing_by_rival
