use Rattle.sw_reach_facts.proofs.FitLemmas.{conformances_hold}
use Rattle.sw_reach_facts.proofs.SendableLemmas.{refers_across}
use Rattle.sw_reach_facts.proofs.laws.untracked_values_refer_to_untracked.Goals as goal

pub returns : goal.returns
returns c = record { conformances = conformances_hold; references = refers_across }
