use Rattle.sw_machine_name_facts.proofs.Sources.{effect_sources}
use Rattle.sw_machine_name_facts.proofs.Waking.{wake_result}
use Rattle.sw_machine_name_facts.proofs.laws.steps_give_what_they_find.Goals as goal

pub returns : goal.returns
returns c = record { effects = effect_sources; wakes = wake_result }
