use Rattle.std.proofs.Common.{rules, subst, sym}
use Rattle.std.specs.List.Sorted.{IsNonDecreasingBy}
use Rattle.std.proofs.lemmas.List.Sorted.{IsNonDecreasingBy-from_sort_by_key}
use Rattle.sw_decls.specs.Declaring.{key_place}
use Rattle.sw_decls.proofs.ordered.in_key_order.Goals as goal

pub returns-clause-ordered : goal.returns-clause-ordered
returns-clause-ordered c =
    subst (IsNonDecreasingBy key_place) (sym c.from_vec.ensures)
    (IsNonDecreasingBy-from_sort_by_key key_place _ c.in_ok-sort_by_key.ensures.sorted
    (λ a r q k. search rules))
