use Rattle.sw_lower_placed_facts.proofs.Settling.Found.{one_kind}
use Rattle.sw_lower_placed_facts.proofs.laws.keys_have_one_kind.Goals as goal

pub returns : goal.returns
returns c = one_kind
