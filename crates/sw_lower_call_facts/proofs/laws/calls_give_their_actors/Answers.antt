use Rattle.sw_lower_call_facts.proofs.Giving.Programs.{calls_give, tasks_give}
use Rattle.sw_lower_call_facts.proofs.laws.calls_give_their_actors.Goals as goal

pub returns : goal.returns
returns c = record { calls = calls_give; tasks = tasks_give }
