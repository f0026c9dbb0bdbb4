-- What is left of the list gives the same answer as the whole list.
use Rattle.std.proofs.Common.{◌≡◌, length}
use Rattle.sw_grammar.specs.Types.{more_of}
use Rattle.sw_grammar.specs.Closures.{captured}
use Rattle.sw_grammar.specs.Reading.{read}
use Rattle.sw_parse_parts.specs.Around.{known}
use Rattle.sw_parse_parts.proofs.headers.more_captured.Given as goal

abbrev pub invariant-loop-words : goal.invariant-loop-words
invariant-loop-words l =
    read (known l.around) l.depth (more_of (known l.around) l.words.items (captured (known
    l.around)))
    l.tokens
    ≡ read (known l.around) l.depth
    (more_of (known l.around) l.initial.words.items (captured (known l.around))) l.initial.tokens

abbrev pub decreases-loop-words : goal.decreases-loop-words
decreases-loop-words l = length l.tokens
