use Rattle.sw_owner_facts.proofs.CallLemmas.{called_plain, called_same, called_weak, called_strong}
use Rattle.sw_owner_facts.proofs.CallLemmas.{called_make}
use Rattle.sw_owner_facts.proofs.laws.calls_keep_soundness.Goals as goal

pub returns-clause-plain : goal.returns-clause-plain
returns-clause-plain c = called_plain

pub returns-clause-same : goal.returns-clause-same
returns-clause-same c = called_same

pub returns-clause-weak : goal.returns-clause-weak
returns-clause-weak c = called_weak

pub returns-clause-strong : goal.returns-clause-strong
returns-clause-strong c = called_strong

pub returns-clause-make : goal.returns-clause-make
returns-clause-make c = called_make
