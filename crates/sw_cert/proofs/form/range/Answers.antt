use Rattle.std.proofs.Common.{arith}
use Rattle.sw_cert.proofs.Slices.{range_has}
use Rattle.sw_cert.proofs.form.range.Goals as goal

pub returns : goal.returns
returns c = range_has c.args.scale.now c.args.from c.min-first.result c.args.to c.requires.scale
    c.requires.within (omega (arith, c.min-first.ensures)) (λ le. omega (arith, c.min-first.ensures, le))
    (λ lt. omega (arith, c.min-first.ensures, lt))
