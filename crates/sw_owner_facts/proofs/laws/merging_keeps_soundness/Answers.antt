use Rattle.sw_owner_facts.proofs.OwnerLemmas.{one_merges, merged_owner}
use Rattle.sw_owner_facts.proofs.MergedLemmas.{merged}
use Rattle.sw_owner_facts.proofs.laws.merging_keeps_soundness.Goals as goal

pub returns-clause-one_can_go : goal.returns-clause-one_can_go
returns-clause-one_can_go c = one_merges

pub returns-clause-owner : goal.returns-clause-owner
returns-clause-owner c = merged_owner

pub returns-clause-kept : goal.returns-clause-kept
returns-clause-kept c = merged
