-- What is left of the list gives the same answer as the whole list.
use Rattle.std.proofs.Common.{◌≡◌, length}
use Rattle.sw_grammar.specs.Types.{more_of}
use Rattle.sw_grammar.specs.Closures.{closure_param}
use Rattle.sw_grammar.specs.Reading.{read}
use Rattle.sw_parse_parts.specs.Around.{known}
use Rattle.sw_parse_parts.proofs.headers.more_params.Given as goal

abbrev pub invariant-loop-alloc : goal.invariant-loop-alloc
invariant-loop-alloc l =
    read (known l.around) l.depth
    (more_of (known l.around) l.params.items (closure_param (known l.around)))
    l.tokens
    ≡ read (known l.around) l.depth
    (more_of (known l.around) l.initial.params.items (closure_param (known l.around)))
    l.initial.tokens

abbrev pub decreases-loop-alloc : goal.decreases-loop-alloc
decreases-loop-alloc l = length l.tokens
