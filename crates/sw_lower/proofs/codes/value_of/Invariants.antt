use Rattle.std.proofs.Common.{◌≡◌, drop}
use Rattle.sw_lower_stmt.specs.Giving.{values_given}
use Rattle.sw_lower_rules.specs.Bodies.{value_of}
use Rattle.sw_lower.proofs.codes.value_of.Given as goal

-- the values so far are those of other properties
abbrev pub invariant-loop-one : goal.invariant-loop-one
invariant-loop-one l = value_of (values_given (drop l.one-index l.values)) l.name
    ≡ value_of (values_given l.values) l.name
