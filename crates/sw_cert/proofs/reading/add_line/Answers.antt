use Rattle.std.proofs.Common.{◌-◌, length, take, drop, refl, subst, arith}
use Rattle.sw_dictation.specs.Lines.{IsBadPlace}
use Rattle.sw_cert.proofs.Lining.{line_more, bad_line}
use Rattle.sw_cert.proofs.Slices.{rest_is}
use Rattle.sw_cert.specs.Begun.{IsRead}
use Rattle.sw_cert.specs.Form.{certificate_form}
use Rattle.sw_cert.specs.Slips.{IfBad}
use Rattle.sw_cert.specs.Tails.{IsTail}
use Rattle.sw_cert.proofs.reading.add_line.Goals as goal

pub overflow_add-spot : goal.overflow_add-spot
overflow_add-spot c =
    let is = c.in-Ok.ensures.line.is_at in
    let fit = c.requires.form.fit.each c.in-Ok.line.function is.extent is.is_extent in
    omega (arith, is.fits.block, fit.few_blocks)

pub returns-in_ok-push-in-Ok-2-clause-read : goal.returns-in_ok-push-in-Ok-2-clause-read
returns-in_ok-push-in-Ok-2-clause-read c =
    line_more c.args.form.now.extents c.args.bytes.now c.args.read.now _
    c.in-Ok.line c.in-Ok.tail c.in-Ok.len c.requires.read
    (subst (λ l. IsRead c.args.form.now.extents c.args.read.now.spot l c.in-Ok.line c.in-Ok.len)
    (rest_is c.args.bytes.now c.args.read.now.at) c.in-Ok.ensures.line)
    (subst (λ l. IsTail l c.in-Ok.line c.in-Ok.tail c.in-Ok.len)
    (rest_is c.args.bytes.now c.args.read.now.at) c.in-Ok.ensures.tail)
    c.in_ok-push-in-Ok-2.ensures.ok c.in_ok-push-in-Ok.ensures.ok refl refl refl

pub returns-in-Err-Bad-clause-bad : goal.returns-in-Err-Bad-clause-bad
returns-in-Err-Bad-clause-bad c =
    bad_line c.args.form.now.extents c.args.bytes.now c.args.read.now
    c.in-Err-Bad.over c.requires.read
    (subst (λ l. IsBadPlace (certificate_form c.args.form.now.extents) c.args.read.now.spot l
    c.in-Err-Bad.over) (rest_is c.args.bytes.now c.args.read.now.at)
    (subst (IfBad (IsBadPlace (certificate_form c.args.form.now.extents) c.args.read.now.spot
    (take (length c.args.bytes.now - c.args.read.now.at)
    (drop c.args.read.now.at c.args.bytes.now)))) c.in-Err-Bad.field-0-is
    c.in-Err-Bad.ensures.bad))
