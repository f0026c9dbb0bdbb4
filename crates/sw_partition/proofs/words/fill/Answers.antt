use Rattle.std.proofs.Common.{arith}
use Rattle.sw_partition.proofs.Bits.{filled}
use Rattle.sw_partition.proofs.words.fill.Goals as goal

pub returns : goal.returns
returns c =
    let past = c.loop-i-test.false in
    filled _ _ _ _ (omega arith) (omega arith) (λ i. omega (arith, c.type_inv.other i))
    (λ i lt. c.loop-i.invariant.done i (omega arith)) c.loop-i.invariant.unchanged
    (λ is. let w = c.loop-i.invariant.changed is in (w.0, omega (arith, w.1), w.2))
