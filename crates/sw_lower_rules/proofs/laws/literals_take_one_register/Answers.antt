use Rattle.sw_lower_rules.proofs.Forms.{plan_of_int, plan_of_bool}
use Rattle.sw_lower_rules.proofs.laws.literals_take_one_register.Goals as goal

pub returns : goal.returns
returns c = record { int = plan_of_int; bool = plan_of_bool }
