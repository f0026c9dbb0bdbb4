use Rattle.std.proofs.Common.{◌≡◌, ◌++◌, drop}
use Rattle.sw_isolation.proofs.races.add_all.Given as goal

-- the breaches so far, and those that are left
abbrev pub invariant-loop-placed : goal.invariant-loop-placed
invariant-loop-placed l = l.found ++ drop l.placed-index l.more
    ≡ l.fn.found ++ l.more
