use Rattle.sw_lower_rules.proofs.Forms.{branch_of_both, branch_of_either}
use Rattle.sw_lower_rules.proofs.laws.the_right_operand_is_skipped.Goals as goal

pub returns : goal.returns
returns c = record { and = branch_of_both; or = branch_of_either }
