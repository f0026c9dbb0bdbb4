use Rattle.std.proofs.Common.{refl, subst}
use Rattle.std.proofs.lemmas.List.{take_all}
use Rattle.sw_cert.specs.Tests.{IsAllBelow}
use Rattle.sw_cert.proofs.Looking.{all_below_more}
use Rattle.sw_cert.proofs.testing.includes_at_all.Goals as goal

pub loop-block-preserved : goal.loop-block-preserved
loop-block-preserved c = all_below_more c.args.state.now c.args.table.now c.args.blocks.now
    c.loop-block.block-index c.loop-block-test.true c.loop-block.invariant
    (c.includes_at.ensures.0 c.if-not-includes_at.false)

pub returns : goal.returns
returns c = (
  λ e. subst (IsAllBelow c.args.state.now c.args.table.now)
      (take_all c.loop-block.block-index c.args.blocks.now c.loop-block-test.false)
      c.loop-block.invariant,
  λ all. refl,
)
