use Rattle.sw_cert.proofs.Naming.{Names}
use Rattle.sw_cert.proofs.Slices.{next_just}
use Rattle.sw_cert.proofs.classes.quick_class.Goals as goal

pub returns-then-may_be_next : goal.returns-then-may_be_next
returns-then-may_be_next c =
    next_just (Names c.args.classes.now) c.args.text.now c.args.at c.in_ok-class.class
    c.in_ok-class.closer c.in_ok-class.end c.in_ok-class.ensures
    (c.if-closer-eq32.true, c.may_be_next.ensures.0 c.if-may_be_next.true)
