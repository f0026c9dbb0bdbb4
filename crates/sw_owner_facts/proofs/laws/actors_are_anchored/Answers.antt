use Rattle.sw_owner_facts.proofs.WithinLemmas.{anchor}
use Rattle.sw_owner_facts.proofs.laws.actors_are_anchored.Goals as goal

pub returns : goal.returns
returns c = anchor
