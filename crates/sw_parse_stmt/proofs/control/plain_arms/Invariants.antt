-- What is left of the arms gives the same answer as all arms.
use Rattle.std.proofs.Common.{◌≡◌, length}
use Rattle.sw_grammar.specs.Reading.{read}
use Rattle.sw_parse_parts.specs.Around.{known}
use Rattle.sw_parse_stmt.specs.Parts.{begun, more_arms}
use Rattle.sw_parse_stmt.proofs.control.plain_arms.Given as goal

abbrev pub invariant-loop-tokens : goal.invariant-loop-tokens
invariant-loop-tokens g l =
    read (known l.fn.around) l.fn.depth (more_arms (known l.fn.around) l.arms) l.tokens
    ≡ read (known l.fn.around) l.fn.depth
    (more_arms (known l.fn.around) (begun l.fn.at)) l.initial.tokens

abbrev pub decreases-loop-tokens : goal.decreases-loop-tokens
decreases-loop-tokens g l = length l.tokens
