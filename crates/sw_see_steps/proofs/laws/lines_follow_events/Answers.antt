use Rattle.sw_see_steps.proofs.StepLemmas as lemmas
use Rattle.sw_see_steps.proofs.laws.lines_follow_events.Goals as goal

pub returns-clause-one_each : goal.returns-clause-one_each
returns-clause-one_each c = lemmas.one_each

pub returns-clause-in_order : goal.returns-clause-in_order
returns-clause-in_order c = lemmas.in_order
