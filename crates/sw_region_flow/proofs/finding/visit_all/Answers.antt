use Rattle.std.proofs.Common.{arith}
use Rattle.sw_region_flow.proofs.Visiting.{visits_start, visits_more, all_visited}
use Rattle.sw_region_flow.proofs.finding.visit_all.Goals as goal

pub loop-block-init : goal.loop-block-init
loop-block-init c = visits_start c.args.flow.now.setting c.args.states.now c.args.found.now

pub loop-block-preserved : goal.loop-block-preserved
loop-block-preserved c = visits_more c.args.flow.now.setting c.args.states.now c.loop-block.block
    c.args.found.now c.loop-block.found c.visit.new.found c.loop-block.invariant
    c.in_ok-visit.ensures

pub returns : goal.returns
returns c = all_visited c.args.flow.now c.blocks-block-end.ensures.fits c.args.states.now c.requires
    c.loop-block.block c.args.found.now c.loop-block.found
    (omega (arith, c.blocks-block-end.ensures.count))
    c.loop-block.invariant
