use Rattle.sw_machine_name_facts.proofs.Alone.{given_alone}
use Rattle.sw_machine_name_facts.proofs.laws.first_values_are_given_alone.Goals as goal

pub returns : goal.returns
returns c = given_alone
