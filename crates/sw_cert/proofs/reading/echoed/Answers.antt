use Rattle.std.proofs.Common.{◌≡◌, ◌+◌, ◌-◌, Some, length, take, drop, sym, subst}
use Rattle.std.proofs.lemmas.Option.{slice_get_within}
use Rattle.std.specs.List.{slice_get}
use Rattle.sw_cert.proofs.Tailing.{last_in, echo_there}
use Rattle.sw_cert.specs.Begun.{IsRead}
use Rattle.sw_cert.proofs.reading.echoed.Goals as goal

pub at-others-requires : goal.at-others-requires
at-others-requires c =
    let here = subst (λ ls. slice_get ls (length ls - 1) ≡ Some c.in-Some.last.now)
    c.as_slice.ensures (sym c.in-Some.ensures.value) in
    let is = last_in c.args.form.now.extents c.args.bytes.now c.args.read.now c.requires.read
    c.in-Some.last.now here in
    slice_get_within c.args.form.now.extents c.in-Some.last.now.function is.extent is.is_extent

pub returns : goal.returns
returns c =
    let here = subst (λ ls. slice_get ls (length ls - 1) ≡ Some c.in-Some.last.now)
    c.as_slice.ensures (sym c.in-Some.ensures.value) in
    subst (λ l. IsRead c.args.form.now.extents c.args.read.now.spot
    (drop c.args.read.now.at c.args.bytes.now) l
    (c.args.at + length (take (c.args.read.now.at - c.args.read.now.tail)
    (drop c.args.read.now.tail c.args.bytes.now)))) (sym c.in_ok-line.ensures)
    (echo_there c.args.form.now.extents c.args.bytes.now c.args.read.now c.requires.read
    c.args.head c.args.at c.requires.head c.in-Some.last.now here c.at-own.result.now
    c.at-others.result.now c.at-own.ensures c.at-others.ensures
    (c.is_alike.ensures.elements c.if-not-is_alike.false)
    (c.is_alike.ensures.sites c.if-not-is_alike.false)
    (c.stand_at.ensures.within c.if-not-stand_at.false)
    (c.stand_at.ensures.stand c.if-not-stand_at.false))
