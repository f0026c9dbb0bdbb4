use Rattle.sw_owner_facts.proofs.WithinLemmas.{dispatched}
use Rattle.sw_owner_facts.proofs.laws.dispatch_keeps_soundness.Goals as goal

pub returns : goal.returns
returns c = dispatched
