use Rattle.sw_isolation_rules.proofs.Calls.{call_has_kind, method_has_kind}
use Rattle.sw_isolation_rules.proofs.laws.calls_have_kinds.Goals as goal

pub returns-clause-call : goal.returns-clause-call
returns-clause-call c = call_has_kind

pub returns-clause-method : goal.returns-clause-method
returns-clause-method c = method_has_kind
