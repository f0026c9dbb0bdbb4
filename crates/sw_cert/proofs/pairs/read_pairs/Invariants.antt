use Rattle.sw_cert.specs.Pending.{ArePairsRead}
use Rattle.sw_cert.proofs.pairs.read_pairs.Given as goal

abbrev pub invariant-loop-read : goal.invariant-loop-read
invariant-loop-read l = ArePairsRead l.form.extents l.spot l.text l.line l.read

abbrev pub decreases-loop-read : goal.decreases-loop-read
decreases-loop-read l = l.read.left
