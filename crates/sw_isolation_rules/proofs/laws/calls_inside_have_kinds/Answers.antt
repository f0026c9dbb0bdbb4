use Rattle.sw_isolation_rules.proofs.CallsIn.{expr_has_kinds, block_has_kinds}
use Rattle.sw_isolation_rules.proofs.laws.calls_inside_have_kinds.Goals as goal

pub returns-clause-exprs : goal.returns-clause-exprs
returns-clause-exprs c = expr_has_kinds

pub returns-clause-blocks : goal.returns-clause-blocks
returns-clause-blocks c = block_has_kinds
