-- What is left of the list gives the same answer as the whole list.
use Rattle.std.proofs.Common.{◌≡◌, length, [], ◌∷◌}
use Rattle.sw_grammar.specs.Decls.{enum_case}
use Rattle.sw_grammar.specs.Types.{more_of}
use Rattle.sw_grammar.specs.Reading.{read}
use Rattle.sw_parse_parts.specs.Around.{known}
use Rattle.sw_parse_decl.proofs.members.more_cases.Given as goal

abbrev pub invariant-loop-alloc : goal.invariant-loop-alloc
invariant-loop-alloc l =
    read (known l.fn.around) l.fn.depth (more_of (known l.fn.around) l.cases.items (enum_case (known
    l.fn.around))) l.tokens
    ≡ read (known l.fn.around) l.fn.depth (more_of (known l.fn.around) (l.fn.first ∷ []) (enum_case
    (known l.fn.around))) l.initial.tokens

abbrev pub decreases-loop-alloc : goal.decreases-loop-alloc
decreases-loop-alloc l = length l.tokens
