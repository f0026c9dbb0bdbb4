use Rattle.std.proofs.Common.{rules, subst, sym}
use Rattle.std.specs.List.Sorted.{IsNonDecreasingBy}
use Rattle.std.proofs.lemmas.List.Sorted.{IsNonDecreasingBy-from_sort_by_key}
use Rattle.sw_lower.specs.Ordered.{tree_order}
use Rattle.sw_lower.proofs.numbers.in_order.Goals as goal

pub returns-clause-ordered : goal.returns-clause-ordered
returns-clause-ordered c =
    subst (IsNonDecreasingBy tree_order) (sym c.from_vec.ensures)
    (IsNonDecreasingBy-from_sort_by_key tree_order _ c.sort_unstable_by_key.ensures.sorted
    (λ a r q k. search rules))
