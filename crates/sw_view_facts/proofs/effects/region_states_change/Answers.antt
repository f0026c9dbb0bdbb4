use Rattle.sw_view_facts.proofs.StepLemmas as step
use Rattle.sw_view_facts.proofs.effects.region_states_change.Goals as goal

pub returns : goal.returns
returns c = record { weakens = step.regions_weaken; gives = step.regions_give }
