use Rattle.sw_late_facts.proofs.Carriers.{reach_awaits, reach_goes}
use Rattle.sw_late_facts.proofs.laws.carriers_wait_for_their_actor.Goals as goal

pub returns-clause-waits : goal.returns-clause-waits
returns-clause-waits c = reach_awaits

pub returns-clause-goes : goal.returns-clause-goes
returns-clause-goes c = reach_goes
