-- The values of a type's properties.
use Rattle.std.specs.Prelude.{List, Result, Ok, Err}
use Rattle.sw_types.specs.declared.shape.Part.{Part}
use Rattle.sw_graph.specs.declared.instr.Operand.{Operand}
use Rattle.sw_lower_plans.specs.declared.fault.CodeFault.{CodeFault}
use Rattle.sw_lower_code.specs.Code.{Code, each, known}
use Rattle.sw_lower_stmt.specs.Giving.{values_given}
use Rattle.sw_lower_stmt.specs.declared.givens.GivenOperand.{GivenOperand}
use Rattle.sw_lower_rules.specs.Bodies.{GivenValue, value_of}
use Rattle.sw_lower_rules.specs.Uses.{no_operand}

-- the values of properties in order, of those that got one
abbrev pub parts_code : List GivenValue → List Part → Code (List Operand)
parts_code values parts =
    each (λ (part : Part). known no_operand (value_of values part.name)) parts

-- these values, where a call succeeds
abbrev pub values_of : Result (List GivenOperand) CodeFault → Result (List GivenValue) CodeFault
values_of (Ok values) = Ok (values_given values)
values_of (Err fault) = Err fault
