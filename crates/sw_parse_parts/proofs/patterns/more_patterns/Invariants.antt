-- What is left of the list gives the same answer as the whole list.
use Rattle.std.proofs.Common.{◌≡◌, length}
use Rattle.sw_grammar.specs.Types.{more_of}
use Rattle.sw_grammar.specs.Stmts.{pattern}
use Rattle.sw_grammar.specs.Reading.{read}
use Rattle.sw_parse_parts.specs.Around.{known}
use Rattle.sw_parse_parts.proofs.patterns.more_patterns.Given as goal

abbrev pub invariant-loop-patterns : goal.invariant-loop-patterns
invariant-loop-patterns l =
    read (known l.around) l.depth
    (more_of (known l.around) l.patterns.items (pattern (known l.around)))
    l.tokens
    ≡ read (known l.around) l.depth
    (more_of (known l.around) l.initial.patterns.items (pattern (known l.around))) l.initial.tokens

abbrev pub decreases-loop-patterns : goal.decreases-loop-patterns
decreases-loop-patterns l = length l.tokens
