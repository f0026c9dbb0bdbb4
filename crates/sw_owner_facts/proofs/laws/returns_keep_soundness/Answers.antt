use Rattle.sw_owner_facts.proofs.ReturnedLemmas.{returned, ended}
use Rattle.sw_owner_facts.proofs.laws.returns_keep_soundness.Goals as goal

pub returns-clause-returned : goal.returns-clause-returned
returns-clause-returned c = returned

pub returns-clause-ended : goal.returns-clause-ended
returns-clause-ended c = ended
