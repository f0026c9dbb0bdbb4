use Rattle.sw_lower_rules.proofs.InOrder.{as_many_functions, functions_rise}
use Rattle.sw_lower_rules.proofs.laws.functions_are_in_order.Goals as goal

pub returns : goal.returns
returns c = record { count = as_many_functions; rising = functions_rise }
