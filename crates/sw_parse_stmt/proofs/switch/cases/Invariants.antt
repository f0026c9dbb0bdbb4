-- What is left of the arms gives the same answer as all arms.
use Rattle.std.proofs.Common.{◌≡◌, [], false, length}
use Rattle.sw_grammar.specs.Reading.{read}
use Rattle.sw_parse_parts.specs.Around.{known}
use Rattle.sw_parse_stmt.specs.Parts.{more_cases}
use Rattle.sw_parse_stmt.proofs.switch.cases.Given as goal

abbrev pub invariant-loop-alloc : goal.invariant-loop-alloc
invariant-loop-alloc g l =
    read (known l.fn.around) l.fn.depth (more_cases (known l.fn.around) (l.cases, l.ended)) l.tokens
    ≡ read (known l.fn.around) l.fn.depth
    (more_cases (known l.fn.around) ([], false)) l.initial.tokens

abbrev pub decreases-loop-alloc : goal.decreases-loop-alloc
decreases-loop-alloc g l = length l.tokens
