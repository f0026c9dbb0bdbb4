use Rattle.std.proofs.Common.{arith}
use Rattle.sw_partition.proofs.Linking.{flattening_starts, flattening_goes, flattening_ends}
use Rattle.sw_partition.proofs.links.flatten.Goals as goal

pub loop-x-init : goal.loop-x-init
loop-x-init c = flattening_starts c.args.links.now

pub loop-x-preserved : goal.loop-x-preserved
loop-x-preserved c = flattening_goes c.args.links.now c.loop-x.links c.loop-x.x
    (omega (arith, c.loop-x-test.true)) c.requires c.loop-x.invariant

pub returns : goal.returns
returns c = flattening_ends _ _ c.loop-x.x (omega (arith, c.loop-x-test.false)) c.loop-x.invariant
