use Rattle.sw_late_facts.proofs.Owners.{early_own, late_own, delivered_own}
use Rattle.sw_late_facts.proofs.laws.owners_own_their_number.Goals as goal

pub returns-clause-early : goal.returns-clause-early
returns-clause-early c = early_own

pub returns-clause-late : goal.returns-clause-late
returns-clause-late c = late_own

pub returns-clause-delivered : goal.returns-clause-delivered
returns-clause-delivered c = delivered_own
