use Rattle.sw_lower_call_facts.proofs.Calls.Programs.{function_calls}
use Rattle.sw_lower_call_facts.proofs.laws.bodies_call_what_is_meant.Goals as goal

pub returns : goal.returns
returns c = function_calls
