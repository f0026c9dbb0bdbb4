use Rattle.sw_region_flow.proofs.Listed.{are_breaches}
use Rattle.sw_region_flow.proofs.finding.breaches.Goals as goal

pub returns-clause-breaches : goal.returns-clause-breaches
returns-clause-breaches g c = are_breaches c.args.graph.now c.in_ok-found.found
    c.into_vec.result.items c.in_order.result.items c.into_vec.ensures c.in_ok-found.ensures.found
    c.in_order.ensures
