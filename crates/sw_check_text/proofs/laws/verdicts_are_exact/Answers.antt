use Rattle.sw_check_text.proofs.Exact.{only_accepted, only_races, only_refused}
use Rattle.sw_check_text.proofs.laws.verdicts_are_exact.Goals as goal

pub returns : goal.returns
returns c = record { accepted = only_accepted; races = only_races; refused = only_refused }
