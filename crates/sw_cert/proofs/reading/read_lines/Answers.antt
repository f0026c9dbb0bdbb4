use Rattle.std.proofs.Common.{arith}
use Rattle.sw_cert.proofs.Lining.{all_read}
use Rattle.sw_cert.proofs.reading.read_lines.Goals as goal

pub returns-clause-lines : goal.returns-clause-lines
returns-clause-lines c =
    all_read c.args.form.now.extents c.args.bytes.now c.loop-read.read
    c.loop-read.invariant (omega (arith, c.loop-read-test.false))
