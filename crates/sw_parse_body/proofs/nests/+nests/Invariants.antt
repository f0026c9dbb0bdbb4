-- How far the functions go down: nest by nest, by closures.
use Rattle.std.proofs.Common.{◌+◌, ◌*◌}
use Rattle.sw_parse_body.proofs.nests.+nests.Given as goal

abbrev pub decreases-arg : goal.decreases-arg
decreases-arg l = 2 * l.depth + 1

abbrev pub decreases-expr : goal.decreases-expr
decreases-expr l = 2 * l.depth + 1

abbrev pub decreases-if_stmt : goal.decreases-if_stmt
decreases-if_stmt l = 2 * l.depth + 1

abbrev pub decreases-stmt : goal.decreases-stmt
decreases-stmt l = 2 * l.depth + 1

abbrev pub decreases-arg-closure : goal.decreases-arg-closure
decreases-arg-closure l = 2 * l.depth

abbrev pub decreases-arg-closure+2 : goal.decreases-arg-closure+2
decreases-arg-closure+2 l = 2 * l.depth

abbrev pub decreases-arg-closure+3 : goal.decreases-arg-closure+3
decreases-arg-closure+3 l = 2 * l.depth

abbrev pub decreases-arg-closure+4 : goal.decreases-arg-closure+4
decreases-arg-closure+4 l = 2 * l.depth

abbrev pub decreases-expr-closure : goal.decreases-expr-closure
decreases-expr-closure l = 2 * l.depth

abbrev pub decreases-expr-closure+2 : goal.decreases-expr-closure+2
decreases-expr-closure+2 l = 2 * l.depth

abbrev pub decreases-expr-closure+3 : goal.decreases-expr-closure+3
decreases-expr-closure+3 l = 2 * l.depth

abbrev pub decreases-expr-closure+4 : goal.decreases-expr-closure+4
decreases-expr-closure+4 l = 2 * l.depth

abbrev pub decreases-if_stmt-closure : goal.decreases-if_stmt-closure
decreases-if_stmt-closure l = 2 * l.depth

abbrev pub decreases-if_stmt-closure+2 : goal.decreases-if_stmt-closure+2
decreases-if_stmt-closure+2 l = 2 * l.depth

abbrev pub decreases-if_stmt-closure+3 : goal.decreases-if_stmt-closure+3
decreases-if_stmt-closure+3 l = 2 * l.depth

abbrev pub decreases-if_stmt-closure+4 : goal.decreases-if_stmt-closure+4
decreases-if_stmt-closure+4 l = 2 * l.depth

abbrev pub decreases-stmt-closure : goal.decreases-stmt-closure
decreases-stmt-closure l = 2 * l.depth

abbrev pub decreases-stmt-closure+2 : goal.decreases-stmt-closure+2
decreases-stmt-closure+2 l = 2 * l.depth

abbrev pub decreases-stmt-closure+3 : goal.decreases-stmt-closure+3
decreases-stmt-closure+3 l = 2 * l.depth

abbrev pub decreases-stmt-closure+4 : goal.decreases-stmt-closure+4
decreases-stmt-closure+4 l = 2 * l.depth
