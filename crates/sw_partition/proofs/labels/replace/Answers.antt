use Rattle.std.proofs.Common.{arith}
use Rattle.std.proofs.lemmas.List.{ext_get_or}
use Rattle.sw_partition.proofs.labels.replace.Goals as goal

pub returns : goal.returns
returns c =
    ext_get_or 0 c.loop-x.labels c.args.other.now (omega (arith, c.requires.length))
    (λ p lt. c.loop-x.invariant p (omega (arith, lt, c.loop-x-test.false)))
