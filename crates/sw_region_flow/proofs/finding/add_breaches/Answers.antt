use Rattle.std.proofs.Common.{subst}
use Rattle.sw_region_flow.specs.Breaches.{IsBreachIn}
use Rattle.sw_region_flow.proofs.Flows.{joins_within}
use Rattle.sw_region_flow.proofs.Visiting.{IsFound}
use Rattle.sw_region_flow.proofs.finding.add_breaches.Goals as goal

pub solve-requires : goal.solve-requires
solve-requires g c = c.in_ok-flow.ensures.fits.begins

pub visit_all-requires : goal.visit_all-requires
visit_all-requires g c =
    record { closed = c.in_ok-states.ensures.closed; lowest = c.in_ok-states.ensures.lowest }

pub returns-clause-found : goal.returns-clause-found
returns-clause-found g c = λ body is. subst
    (λ s. IsFound (IsBreachIn s) c.args.found.now c.visit_all.new.found)
    (c.in_ok-flow.ensures.setting body is) c.in_ok-visit_all.ensures

pub returns-clause-joins : goal.returns-clause-joins
returns-clause-joins g c = λ body is. joins_within c.in_ok-flow.flow _ _ c.in_ok-flow.ensures.fits
    c.solve.ensures.joins _ (c.in_ok-flow.ensures.setting body is)

pub returns-in_err-visit_all-clause-joins : goal.returns-in_err-visit_all-clause-joins
returns-in_err-visit_all-clause-joins g c = λ body is. joins_within c.in_ok-flow.flow _ _
    c.in_ok-flow.ensures.fits c.solve.ensures.joins _ (c.in_ok-flow.ensures.setting body is)

pub returns-in_err-states-clause-joins : goal.returns-in_err-states-clause-joins
returns-in_err-states-clause-joins g c = λ body is. joins_within c.in_ok-flow.flow _ _
    c.in_ok-flow.ensures.fits c.solve.ensures.joins _ (c.in_ok-flow.ensures.setting body is)
