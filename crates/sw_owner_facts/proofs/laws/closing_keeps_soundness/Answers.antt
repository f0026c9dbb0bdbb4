use Rattle.sw_owner_facts.proofs.WithinLemmas.{closed, closed_class_is_unheld, closed_is_disconnected}
use Rattle.sw_owner_facts.proofs.laws.closing_keeps_soundness.Goals as goal

pub returns-clause-closed : goal.returns-clause-closed
returns-clause-closed c = closed

pub returns-clause-disconnected : goal.returns-clause-disconnected
returns-clause-disconnected c = λ old new q x colour sound m makes h. closed_is_disconnected old new
    q sound m makes x colour h

pub returns-clause-unheld : goal.returns-clause-unheld
returns-clause-unheld c = closed_class_is_unheld
