use Rattle.sw_value.specs.Reach.{reach}
use Rattle.sw_race.proofs.StepLemmas.{brings_in_its_own, racing_by_rival}
use Rattle.sw_machine_kind_facts.proofs.LawLemmas as machine
use Rattle.sw_text_facts.proofs.Supplied.{text_supplied}
use Rattle.sw_text_facts.proofs.laws.texts_race_by_their_last_step.Goals as goal

pub returns-clause-one_job : goal.returns-clause-one_job
returns-clause-one_job c rule text graph passes of items j =
    brings_in_its_own graph (reach graph items) j
    (machine.never_stuck graph (text_supplied rule text graph passes of) items)

pub returns-clause-racing : goal.returns-clause-racing
returns-clause-racing c rule text graph passes of items j =
    racing_by_rival graph (reach graph items) j
    (machine.never_stuck graph (text_supplied rule text graph passes of) items)
