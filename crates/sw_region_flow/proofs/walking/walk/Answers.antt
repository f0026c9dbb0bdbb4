use Rattle.std.proofs.Common.{refl, ◌∙◌}
use Rattle.sw_region_flow.proofs.Visiting.{walk_starts, walk_more, walk_ends}
use Rattle.sw_region_ops.proofs.RunLemmas.{does_size}
use Rattle.sw_region_flow.proofs.walking.walk.Goals as goal

pub loop-op-init : goal.loop-op-init
loop-op-init c =
    record { sized = refl; walked = walk_starts c.args.state.now c.args.found.now }

pub loop-op-preserved : goal.loop-op-preserved
loop-op-preserved c = record {
  sized = does_size _ c.loop-op.state c.step.new.state c.in_ok-step.ensures.does
      ∙ c.loop-op.invariant.sized;
  walked = walk_more c.args.ops.now c.loop-op.op-index _ c.args.state.now c.loop-op.state
      c.step.new.state c.args.found.now c.loop-op.found c.step.new.found c.loop-op-test.true
      c.loop-op.invariant.walked c.in_ok-step.ensures.does c.in_ok-step.ensures.found;
}

pub returns : goal.returns
returns c =
    let h = walk_ends c.args.ops.now c.loop-op.op-index c.args.state.now c.loop-op.state
    c.args.found.now c.loop-op.found c.loop-op-test.false c.loop-op.invariant.walked in
    record { found = h.found; runs = h.runs }
