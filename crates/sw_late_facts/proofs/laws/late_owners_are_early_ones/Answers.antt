use Rattle.sw_late_facts.proofs.SameOwners.{owners_same, owners_delayed}
use Rattle.sw_late_facts.proofs.laws.late_owners_are_early_ones.Goals as goal

pub returns-clause-same : goal.returns-clause-same
returns-clause-same c = owners_same

pub returns-clause-delayed : goal.returns-clause-delayed
returns-clause-delayed c = owners_delayed
