-- The work of operators, by what they do.
use Rattle.std.specs.Prelude.{ℕ, Option, Some, None}
use Rattle.sw_graph.specs.declared.instr.BinOp.{BinOp}
use Rattle.sw_tree_work.specs.Forms.{ExprWork, assign_by, both, by_two, either}
use Rattle.sw_tree_work.specs.Work.{Before}
use Rattle.sw_tree_arena.specs.declared.operators.Operation.{Operation}
use Rattle.sw_tree_arena.specs.declared.operators.Operation.TheVariants as operations

abbrev pub by_operation : Operation → ℕ → Before → Before
by_operation operations.Either at right = either right
by_operation operations.Both at right = both right
by_operation (operations.Computed op) at right = by_two at op right

abbrev pub assign_with : Option BinOp → ℕ → ExprWork → Before
assign_with None at place = place.write
assign_with (Some op) at place = assign_by at op place
