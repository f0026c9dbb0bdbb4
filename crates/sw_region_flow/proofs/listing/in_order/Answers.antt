use Rattle.std.proofs.lemmas.List.Sorted.{ranks_by}
use Rattle.sw_region_flow.proofs.Listed.{in_order_facts}
use Rattle.sw_region_flow.proofs.listing.in_order.Goals as goal

pub returns : goal.returns
returns c =
    in_order_facts (ranks_by c.breaches_are_in_order.ensures.total (λ x. x)) _ _ _
    c.sorted.ensures.sorted c.sorted.ensures.same c.without_repeats.ensures
