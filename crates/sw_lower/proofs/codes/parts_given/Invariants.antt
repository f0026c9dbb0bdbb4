use Rattle.std.proofs.Common.{◌≡◌, ◌++◌, drop, Ok}
use Rattle.sw_lower_plans.specs.Run.{Making, run_after}
use Rattle.sw_lower_stmt.specs.Giving.{values_given}
use Rattle.sw_lower.specs.Initialised.{parts_code}
use Rattle.sw_lower.proofs.codes.parts_given.Given as goal

-- what was found so far, with what is left to find, is the whole
abbrev pub invariant-loop-part : goal.invariant-loop-part
invariant-loop-part l = (making : Making)
    → run_after ((parts_code (values_given l.values) (drop l.part-index l.parts)).run making)
    (λ more making. Ok (l.operands ++ more, making))
    ≡ (parts_code (values_given l.values) l.parts).run making
