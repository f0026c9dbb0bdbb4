-- What is left of the list gives the same answer as the whole list.
use Rattle.std.proofs.Common.{◌≡◌, length}
use Rattle.sw_grammar.specs.Types.{more_of}
use Rattle.sw_grammar.specs.Exprs.{arg}
use Rattle.sw_grammar.specs.Reading.{read}
use Rattle.sw_parse_parts.specs.Around.{known}
use Rattle.sw_parse_expr.proofs.calls.more_args.Given as goal

abbrev pub invariant-loop-alloc : goal.invariant-loop-alloc
invariant-loop-alloc g l =
    read (known l.around) l.depth (more_of (known l.around) l.args.items (arg (known l.around)))
    l.tokens
    ≡ read (known l.around) l.depth
    (more_of (known l.around) l.initial.args.items (arg (known l.around))) l.initial.tokens

abbrev pub decreases-loop-alloc : goal.decreases-loop-alloc
decreases-loop-alloc g l = length l.tokens
