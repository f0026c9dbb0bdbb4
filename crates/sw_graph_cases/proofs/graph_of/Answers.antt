use Rattle.std.proofs.Common.{Err, [], ◌∷◌, ap}
use Rattle.sw_graph_cases.proofs.graph_of.Goals as goal

pub returns-in-Err-Breached-clause-none : goal.returns-in-Err-Breached-clause-none
returns-in-Err-Breached-clause-none c =
    let refuses = c.in-Err-Breached.ensures.breached c.in-Err-Breached.field-0-0
    (ap Err c.in-Err-Breached.field-0-is) in
    (c.in-Err-Breached.field-0-0 ∷ [], refuses.0, refuses.1)
