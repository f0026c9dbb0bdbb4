use Rattle.std.proofs.Common.{◌≤◌}
use Rattle.sw_value.specs.declared.race.Access.{Access}
use Rattle.sw_race.specs.With.{IsRival}
use Rattle.sw_race.proofs.with.first_rival.Given as goal

abbrev pub invariant-loop-job : goal.invariant-loop-job
invariant-loop-job l =
    (other : Access) → IsRival l.graph l.state l.access other → l.job ≤ other.job
