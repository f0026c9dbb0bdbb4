-- What is left of the statements gives the same answer as all of them.
use Rattle.std.proofs.Common.{length, []}
use Rattle.sw_parse_parts.specs.Around.{known}
use Rattle.sw_parse_expr.proofs.StmtTurns.{Rest, IsOn}
use Rattle.sw_parse_expr.proofs.blocks.items.Given as goal

abbrev pub invariant-loop-alloc : goal.invariant-loop-alloc
invariant-loop-alloc g l =
    IsOn (known l.fn.around) l.fn.depth
    (Rest (known l.fn.around) l.fn.depth ([], l.fn.ended) l.initial.tokens) l.tokens l.stmts.items l.ended

abbrev pub decreases-loop-alloc : goal.decreases-loop-alloc
decreases-loop-alloc g l = length l.tokens
