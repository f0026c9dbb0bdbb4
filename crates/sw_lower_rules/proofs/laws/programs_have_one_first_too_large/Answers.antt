use Rattle.sw_lower_rules.proofs.FirstTooLarge.{one_too_large, some_too_large, too_large_code}
use Rattle.sw_lower_rules.proofs.laws.programs_have_one_first_too_large.Goals as goal

pub returns : goal.returns
returns c = record { some = some_too_large; one = one_too_large; codes = too_large_code }
