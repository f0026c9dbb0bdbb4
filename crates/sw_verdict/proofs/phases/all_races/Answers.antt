use Rattle.std.proofs.Common.{Contains, map, subst, ◌++◌, ◌∙◌}
use Rattle.sw_region_flow.proofs.SomeList.{all_with}
use Rattle.sw_region_flow.specs.Breaches.{AreAll, IsBreachOf}
use Rattle.sw_verdict.specs.Phases.{breach_of}
use Rattle.sw_verdict.proofs.phases.all_races.Goals as goal

pub returns : goal.returns
returns g c =
    all_with (IsBreachOf c.args.graph.now) (map breach_of c.args.shared.now)
    c.in_ok-regions.regions.items c.in_order.result.items c.in_ok-regions.ensures.breaches
    (subst (λ items. AreAll (Contains items) c.in_order.result.items)
    (c.in_ok-extend_from_slice.ensures.items
    ∙ (λ i. c.in_ok-list.ensures i ++ c.as_slice.ensures.value i)) c.in_order.ensures)
