use Rattle.sw_owner_facts.proofs.WithinLemmas.{within, comes, weakened}
use Rattle.sw_owner_facts.proofs.FreshenedLemmas.{freshened}
use Rattle.sw_owner_facts.proofs.laws.changes_keep_soundness.Goals as goal

pub returns-clause-within : goal.returns-clause-within
returns-clause-within c = within

pub returns-clause-comes : goal.returns-clause-comes
returns-clause-comes c = comes

pub returns-clause-weakened : goal.returns-clause-weakened
returns-clause-weakened c = weakened

pub returns-clause-freshened : goal.returns-clause-freshened
returns-clause-freshened c = freshened
