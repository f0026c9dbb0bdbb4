use Rattle.std.proofs.Common.{arith}
use Rattle.sw_partition.proofs.Linking.{uniting_starts, uniting_goes, uniting_ends}
use Rattle.sw_partition.proofs.labels.unite.Goals as goal

pub loop-x-init : goal.loop-x-init
loop-x-init c = uniting_starts _ _ _ c.sink.ensures

pub loop-x-preserved : goal.loop-x-preserved
loop-x-preserved c = uniting_goes _ _ _ _ _ c.link.ensures c.loop-x.invariant

pub returns : goal.returns
returns c = uniting_ends _ _ c.loop-x.labels _ c.loop-x.x
    (omega arith) c.requires.length c.requires.labels c.requires.other
    (λ keeps. absurd (cc (c.is_coarser.ensures.1 keeps, c.if-is_coarser.false))) c.flatten.ensures
    c.loop-x.invariant
