use Rattle.sw_typing_rules.proofs.IllCodes.{ill_is_coded}
use Rattle.sw_typing_rules.proofs.laws.ill_nodes_have_codes_of_types.Goals as goal

pub returns : goal.returns
returns c = ill_is_coded
