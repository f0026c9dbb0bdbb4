-- What was found so far, with what is left to find, is the whole.
use Rattle.std.proofs.Common.{◌≡◌, ◌++◌, drop}
use Rattle.sw_lower_stmt.specs.Parts.{goes_to}
use Rattle.sw_lower_stmt.proofs.cases.goes_to.Given as goal

abbrev pub invariant-loop-one : goal.invariant-loop-one
invariant-loop-one l =
    l.to ++ goes_to (drop l.one-index l.cases) l.arms l.blocks l.otherwise
    ≡ goes_to l.cases l.arms l.blocks l.otherwise
