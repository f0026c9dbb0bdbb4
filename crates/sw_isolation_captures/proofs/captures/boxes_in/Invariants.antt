use Rattle.std.proofs.Common.{◌≡◌, ◌++◌, drop, map}
use Rattle.sw_isolation_rules.specs.Lists.{by_reference}
use Rattle.sw_isolation_rules.specs.declared.note.Capture.{Capture}
use Rattle.sw_isolation_captures.proofs.captures.boxes_in.Given as goal

-- the variables so far, and those of the captures that are left
abbrev pub invariant-loop-one : goal.invariant-loop-one
invariant-loop-one l =
    l.variables
    ++ map (λ (one : Capture). one.variable) (by_reference (drop l.one-index l.captures))
    ≡ map (λ (one : Capture). one.variable) (by_reference l.captures)
