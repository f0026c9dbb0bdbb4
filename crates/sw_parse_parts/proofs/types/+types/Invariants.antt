-- How far the functions on types go down: nest by nest, and in a nest from rule to rule.
use Rattle.std.proofs.Common.{◌≡◌, ◌+◌, ◌*◌, length}
use Rattle.sw_grammar.specs.Types.{type, more_of}
use Rattle.sw_grammar.specs.Reading.{read}
use Rattle.sw_parse_parts.specs.Around.{known}
use Rattle.sw_parse_parts.proofs.types.+types.Given as goal

abbrev pub decreases-marked_type : goal.decreases-marked_type
decreases-marked_type l = 8 * l.depth + 1

abbrev pub decreases-more_types : goal.decreases-more_types
decreases-more_types l = 8 * l.depth + 4

abbrev pub decreases-params : goal.decreases-params
decreases-params l = 8 * l.depth + 0

abbrev pub decreases-result : goal.decreases-result
decreases-result l = 8 * l.depth + 0

abbrev pub decreases-round_type : goal.decreases-round_type
decreases-round_type l = 8 * l.depth + 1

abbrev pub decreases-some_types : goal.decreases-some_types
decreases-some_types l = 8 * l.depth + 5

abbrev pub decreases-task_inner : goal.decreases-task_inner
decreases-task_inner l = 8 * l.depth + 4

abbrev pub decreases-task_result : goal.decreases-task_result
decreases-task_result l = 8 * l.depth + 0

abbrev pub decreases-task_type : goal.decreases-task_type
decreases-task_type l = 8 * l.depth + 1

abbrev pub decreases-type_tree : goal.decreases-type_tree
decreases-type_tree l = 8 * l.depth + 3

abbrev pub decreases-types : goal.decreases-types
decreases-types l = 8 * l.depth + 6

abbrev pub decreases-written_type : goal.decreases-written_type
decreases-written_type l = 8 * l.depth + 2

-- What is left of the list gives the same answer as the whole list.
abbrev pub invariant-more_types-loop-alloc : goal.invariant-more_types-loop-alloc
invariant-more_types-loop-alloc l =
    read (known l.around) l.depth (more_of (known l.around) l.types.items (type (known l.around)))
    l.tokens
    ≡ read (known l.around) l.depth
    (more_of (known l.around) l.initial.types.items (type (known l.around))) l.initial.tokens

abbrev pub decreases-more_types-loop-alloc : goal.decreases-more_types-loop-alloc
decreases-more_types-loop-alloc l = length l.tokens
