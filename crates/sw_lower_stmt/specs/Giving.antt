-- The values that an initialiser's statements give, as a list of the code's own.
use Rattle.std.specs.Prelude.{List, map, Result, Ok, Err}
use Rattle.sw_lower_plans.specs.declared.fault.CodeFault.{CodeFault}
use Rattle.sw_lower_rules.specs.Bodies.{GivenValue}
use Rattle.sw_lower_stmt.specs.declared.givens.GivenOperand.{GivenOperand}

abbrev pub value_given : GivenOperand → GivenValue
value_given one = record { name = one.name; value = one.value }

abbrev pub values_given : List GivenOperand → List GivenValue
values_given values = map value_given values

-- these values, where a call succeeds
abbrev pub with_values : Result (Unit {0}) CodeFault → List GivenOperand
    → Result (List GivenValue) CodeFault
with_values (Ok _) values = Ok (values_given values)
with_values (Err fault) values = Err fault
