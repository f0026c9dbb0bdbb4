use Rattle.sw_owner_facts.proofs.WithinLemmas.{given, given_is_disconnected, unheld}
use Rattle.sw_owner_facts.proofs.laws.giving_keeps_soundness.Goals as goal

pub returns-clause-given : goal.returns-clause-given
returns-clause-given c = given

pub returns-clause-disconnected : goal.returns-clause-disconnected
returns-clause-disconnected c = λ old new q x colour sound m h. given_is_disconnected old new q x
    sound m colour h

pub returns-clause-unheld : goal.returns-clause-unheld
returns-clause-unheld c = unheld
