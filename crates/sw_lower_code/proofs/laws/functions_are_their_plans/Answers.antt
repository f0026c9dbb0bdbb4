use Rattle.sw_lower_code.proofs.WholeFacts.{lowers_whole}
use Rattle.sw_lower_code.proofs.laws.functions_are_their_plans.Goals as goal

pub returns : goal.returns
returns c = lowers_whole
