use Rattle.sw_owner_facts.proofs.OwnerLemmas.{one_owner, one_runner}
use Rattle.sw_owner_facts.proofs.laws.colours_have_one_owner.Goals as goal

pub returns-clause-one_owner : goal.returns-clause-one_owner
returns-clause-one_owner c = one_owner

pub returns-clause-one_runner : goal.returns-clause-one_runner
returns-clause-one_runner c = one_runner
