use Rattle.sw_lower_rules.proofs.Forms.{result_of_binary}
use Rattle.sw_lower_rules.proofs.laws.results_follow_operands.Goals as goal

pub returns : goal.returns
returns c = result_of_binary
