use Rattle.sw_clocks.specs.Rows.{IsJoined}
use Rattle.sw_clocks.proofs.counts.join.Given as goal

abbrev pub invariant-loop-job : goal.invariant-loop-job
invariant-loop-job l = IsJoined l.from l.to l.job l.initial.counts l.counts
