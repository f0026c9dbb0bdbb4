use Rattle.std.proofs.Common.{◌-◌, length}
use Rattle.sw_cert.specs.ReadLines.{AreLinesRead}
use Rattle.sw_cert.proofs.reading.read_lines.Given as goal

abbrev pub invariant-loop-read : goal.invariant-loop-read
invariant-loop-read l = AreLinesRead l.form.extents l.bytes l.read

abbrev pub decreases-loop-read : goal.decreases-loop-read
decreases-loop-read l = length l.bytes - l.read.at
