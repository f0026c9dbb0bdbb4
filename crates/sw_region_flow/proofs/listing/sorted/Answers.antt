use Rattle.std.proofs.Common.{rules}
use Rattle.std.proofs.lemmas.List.Sorted.{answers_always, ranks_by, IsPermutation-sym}
use Rattle.std.proofs.lemmas.List.Sorted.{Contains-permutation}
use Rattle.std.specs.Ordering.{is_lt}
use Rattle.sw_breach.specs.Order.{breach_cmp}
use Rattle.sw_region_flow.proofs.listing.sorted.Goals as goal

pub returns-clause-sorted : goal.returns-clause-sorted
returns-clause-sorted c =
    c.sort_unstable_by.ensures.sorted (λ x y. is_lt (breach_cmp x y))
    (ranks_by c.breaches_are_in_order.ensures.total (λ x. x))
    (answers_always _ _ _ (λ f a r g h. search rules))

pub returns-clause-same : goal.returns-clause-same
returns-clause-same c = λ breach. (
  λ has. Contains-permutation _ _ breach
      (IsPermutation-sym _ _ c.sort_unstable_by.ensures.permutation) has,
  λ has. Contains-permutation _ _ breach c.sort_unstable_by.ensures.permutation has,
)
