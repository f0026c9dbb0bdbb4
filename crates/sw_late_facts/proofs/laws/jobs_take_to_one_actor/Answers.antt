use Rattle.sw_late_facts.proofs.Once.{reach_once}
use Rattle.sw_late_facts.proofs.laws.jobs_take_to_one_actor.Goals as goal

pub returns : goal.returns
returns c = record { once = reach_once }
