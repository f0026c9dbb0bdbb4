use Rattle.sw_isolation_rules.proofs.Apart.{closure_apart, task_apart, closure_within, task_within}
use Rattle.sw_isolation_rules.proofs.laws.closures_run_apart.Goals as goal

pub returns-clause-closure : goal.returns-clause-closure
returns-clause-closure c = closure_apart

pub returns-clause-task : goal.returns-clause-task
returns-clause-task c = task_apart

pub returns-clause-inside : goal.returns-clause-inside
returns-clause-inside c = closure_within

pub returns-clause-held : goal.returns-clause-held
returns-clause-held c = task_within
