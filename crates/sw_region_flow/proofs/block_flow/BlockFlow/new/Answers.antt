use Rattle.sw_region_flow.proofs.Flows.{analysis_fits}
use Rattle.sw_region_flow.proofs.block_flow.BlockFlow.new.Goals as goal

pub invariant_of-result : goal.invariant_of-result
invariant_of-result c = analysis_fits c.args.graph.now c.args.function c.in_ok-context.context
    c.in_ok-sites.sites.items c.requires c.in_ok-context.ensures.value c.in_ok-sites.ensures

pub returns-clause-fits : goal.returns-clause-fits
returns-clause-fits c = invariant_of-result c
