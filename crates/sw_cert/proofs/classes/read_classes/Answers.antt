use Rattle.std.proofs.lemmas.Result.{err_from_is_err_and}
use Rattle.sw_cert.proofs.Beginning.{bad_weaker}
use Rattle.sw_cert.proofs.Naming.{classes_more, class_not_named}
use Rattle.sw_cert.proofs.classes.read_classes.Goals as goal

pub returns-in_err-end-clause-bad : goal.returns-in_err-end-clause-bad
returns-in_err-end-clause-bad c =
    let slip = err_from_is_err_and c.from_residual-in_err-end.result
    c.from_residual-in_err-end.ensures.1 in
    rw (slip.1, slip.2)
    (bad_weaker _ _ _ (λ place. class_not_named c.args.form.now c.requires.form c.args.spot
    c.args.text.now c.args.head c.at.result.now c.at.ensures c.loop.counter c.loop.classes
    c.loop.end place c.loop.invariant c.loop-test.true) c.in_err-end.ensures.bad)

pub loop-preserved : goal.loop-preserved
loop-preserved c =
    let class = c.in_ok-end.ensures.class in
    classes_more c.args.form.now c.requires.form c.args.spot c.args.text.now
    c.args.head c.at.result.now c.at.ensures c.loop.counter c.loop.classes
    c.read_class.new.classes class.0 c.loop.end c.in_ok-end.end c.loop.invariant c.loop-test.true
    class.1 class.2
