use Rattle.std.proofs.Common.{rules}
use Rattle.sw_types.proofs.UnmarkedLemmas.{unmarked-functions}
use Rattle.sw_types.proofs.acceptance.is_same_unmarked.Goals as goal

pub returns-then-are_same : goal.returns-then-are_same
returns-then-are_same c =
    let u = unmarked-functions _ _ _ _ _ _ _ _ c.in-Func-Func.is-0 c.in-Func-Func.is-1 in
    search (rules, u)

pub returns-else-are_same : goal.returns-else-are_same
returns-else-are_same c =
    let u = unmarked-functions _ _ _ _ _ _ _ _ c.in-Func-Func.is-0 c.in-Func-Func.is-1 in
    search (rules, u)
