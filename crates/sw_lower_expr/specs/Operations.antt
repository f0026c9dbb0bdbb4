-- The code of an operator between two operands, by what it does.
use Rattle.std.specs.Prelude.{ℕ}
use Rattle.sw_types.specs.declared.ty.Ty.TheVariants as types
use Rattle.sw_graph.specs.declared.instr.Operand.{Operand}
use Rattle.sw_lower_code.specs.Code.{Code}
use Rattle.sw_lower_rules.specs.Expressions.{binary, both, either}
use Rattle.sw_lower_expr.specs.declared.operators.Operation.{Operation}
use Rattle.sw_lower_expr.specs.declared.operators.Operation.TheVariants as operations

abbrev pub by_operation : Operation → ℕ → Code Operand → Operand → Code Operand
by_operation operations.Either at right left = either at right left
by_operation operations.Both at right left = both at right left
by_operation (operations.Compared op) at right left = binary at op types.Bool right left
by_operation (operations.Calculated op) at right left = binary at op types.Int right left
