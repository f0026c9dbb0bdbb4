use Rattle.std.proofs.Common.{IfSome, drop, sym, subst}
use Rattle.sw_cert.proofs.Tailing.{tail_of}
use Rattle.sw_cert.specs.Begun.{IsRead}
use Rattle.sw_cert.proofs.reading.read_line.Goals as goal

pub returns-in-Some-clause-tail : goal.returns-in-Some-clause-tail
returns-in-Some-clause-tail c =
    tail_of c.args.form.now.extents c.args.read.now.spot c.args.text.now c.in_ok-head.head
    c.in_ok-head.tail c.in_ok-head.ensures.head c.in-Some.line c.in-Some.end
    (subst (λ t. IsRead c.args.form.now.extents c.args.read.now.spot t c.in-Some.line
    c.in-Some.end) (sym c.requires.text)
    (subst (λ found. IfSome found (λ said. IsRead c.args.form.now.extents c.args.read.now.spot
    (drop c.args.read.now.at c.args.bytes.now) said.0 said.1)) c.in-Some.is
    c.in_ok-line.ensures))

pub returns-clause-tail : goal.returns-clause-tail
returns-clause-tail c =
    tail_of c.args.form.now.extents c.args.read.now.spot c.args.text.now c.in_ok-head.head
    c.in_ok-head.tail c.in_ok-head.ensures.head c.in_ok-line-2.line c.in_ok-line-2.end
    c.in_ok-line-2.ensures.line
