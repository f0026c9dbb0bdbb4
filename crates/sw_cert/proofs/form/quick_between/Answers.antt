use Rattle.sw_cert.specs.Begun.{IsBetween}
use Rattle.sw_cert.proofs.Slices.{next_just}
use Rattle.sw_cert.proofs.form.quick_between.Goals as goal

pub returns-then-number-to : goal.returns-then-number-to
returns-then-number-to c =
    next_just (IsBetween c.args.from c.args.to) c.args.text.now c.args.at c.in_ok-number.number
    c.in_ok-number.closer c.in_ok-number.end c.in_ok-number.ensures
    (c.if-closer-eq32.true, (c.if-from-number.true, c.if-number-to.true))
