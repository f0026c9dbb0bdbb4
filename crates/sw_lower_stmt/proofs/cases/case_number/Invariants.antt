use Rattle.std.proofs.Common.{◌≡◌, drop}
use Rattle.sw_lower_rules.specs.Statements.{case_from}
use Rattle.sw_lower_stmt.proofs.cases.case_number.Given as goal

abbrev pub invariant-loop-number : goal.invariant-loop-number
invariant-loop-number l =
    case_from l.number (drop l.number l.cases) l.name ≡ case_from 0 l.cases l.name
