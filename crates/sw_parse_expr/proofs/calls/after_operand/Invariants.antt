-- What is left of the members, after what is made of those read, gives the same answer as all.
use Rattle.std.proofs.Common.{◌≡◌, ◌≤◌}
use Rattle.sw_grammar.specs.Exprs.{after_operand}
use Rattle.sw_grammar.specs.Reading.{read}
use Rattle.sw_parse_parts.specs.Around.{known}
use Rattle.sw_parse_expr.proofs.calls.after_operand.Given as goal

abbrev pub invariant-loop-alloc : goal.invariant-loop-alloc
invariant-loop-alloc g l =
    (l.room ≤ l.fn.depth)
    × (read (known l.fn.around) l.room (after_operand (known l.fn.around) l.whole) l.tokens
    ≡ read (known l.fn.around) l.fn.depth (after_operand (known l.fn.around) l.fn.base)
    l.initial.tokens)

abbrev pub decreases-loop-alloc : goal.decreases-loop-alloc
decreases-loop-alloc g l = l.room
