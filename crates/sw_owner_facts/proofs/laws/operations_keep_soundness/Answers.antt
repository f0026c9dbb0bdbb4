use Rattle.sw_owner_facts.specs.Within.{put_with, without}
use Rattle.sw_owner_facts.proofs.WithinLemmas.{within, comes}
use Rattle.sw_owner_facts.proofs.laws.operations_keep_soundness.Goals as goal

pub returns-clause-put : goal.returns-clause-put
returns-clause-put c = λ old new q r y. within old new q (put_with r y)

pub returns-clause-join : goal.returns-clause-join
returns-clause-join c = λ old new q. within old new q (λ x. x)

pub returns-clause-fresh : goal.returns-clause-fresh
returns-clause-fresh c = λ old new q r. comes old new q (without r)
