use Rattle.sw_lower_call_facts.proofs.Giving.Tasks.{tasks_stand}
use Rattle.sw_lower_call_facts.proofs.laws.own_tasks_stand_in_actors.Goals as goal

pub returns : goal.returns
returns c = tasks_stand
