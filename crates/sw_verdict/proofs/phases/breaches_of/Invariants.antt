use Rattle.std.proofs.Common.{◌≡◌, ◌++◌, drop, map}
use Rattle.sw_verdict.specs.Phases.{breach_of}
use Rattle.sw_verdict.proofs.phases.breaches_of.Given as goal

-- the breaches so far, and those that are left
abbrev pub invariant-loop-placed : goal.invariant-loop-placed
invariant-loop-placed l =
    l.list ++ map breach_of (drop l.placed-index l.shared) ≡ map breach_of l.shared
