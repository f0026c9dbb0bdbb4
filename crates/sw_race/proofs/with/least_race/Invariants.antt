use Rattle.sw_race.proofs.LeastLemmas.{NoneBefore}
use Rattle.sw_race.proofs.with.least_race.Given as goal

abbrev pub invariant-loop-number : goal.invariant-loop-number
invariant-loop-number l = NoneBefore l.graph l.state l.number
