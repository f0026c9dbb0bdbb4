-- What is left of the parts gives the same answer as all of them.
use Rattle.std.proofs.Common.{◌≡◌, length}
use Rattle.sw_parse_parts.specs.Around.{known}
use Rattle.sw_parse_expr.specs.Blocks.{beginning}
use Rattle.sw_parse_expr.proofs.PartLoops.{Rest}
use Rattle.sw_parse_expr.proofs.blocks.async_parts.Given as goal

abbrev pub invariant-loop-alloc : goal.invariant-loop-alloc
invariant-loop-alloc g l =
    (Rest (known l.fn.around) l.fn.depth
    (record { stmts = l.stmts.items; ended = l.ended; tasks = l.tasks.words }) l.tokens
    ≡ Rest (known l.fn.around) l.fn.depth (beginning (known l.fn.around) l.fn.first) l.initial.tokens)
    × (l.tasks.texts ≡ l.fn.around.texts)

abbrev pub decreases-loop-alloc : goal.decreases-loop-alloc
decreases-loop-alloc g l = length l.tokens
