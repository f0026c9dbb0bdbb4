use Rattle.std.proofs.Common.{refl}
use Rattle.sw_isolation_rules.proofs.laws.kinds_are_those_of_placed_graphs.Goals as goal

pub returns-clause-given : goal.returns-clause-given
returns-clause-given c graph body callee at r f kind operands placed is =
    let has = placed callee is in (has.on_self, has.given)

pub returns-clause-within : goal.returns-clause-within
returns-clause-within c graph body callee at r f operands placed is own =
    (placed callee is).within refl own
