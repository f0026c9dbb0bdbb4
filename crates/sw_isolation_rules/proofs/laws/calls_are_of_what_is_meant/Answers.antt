use Rattle.sw_isolation_rules.proofs.Meant.{meant_func, meant_own, meant_class, meant_actor}
use Rattle.sw_isolation_rules.proofs.laws.calls_are_of_what_is_meant.Goals as goal

pub returns-clause-func : goal.returns-clause-func
returns-clause-func c = meant_func

pub returns-clause-own : goal.returns-clause-own
returns-clause-own c = meant_own

pub returns-clause-class : goal.returns-clause-class
returns-clause-class c = meant_class

pub returns-clause-actor : goal.returns-clause-actor
returns-clause-actor c = meant_actor
