-- What is left of the program gives the same answer as the whole program.
use Rattle.std.proofs.Common.{◌≡◌, length, [], true}
use Rattle.sw_parse_parts.specs.Around.{known}
use Rattle.sw_parse_decl.specs.Parts.{rest_of}
use Rattle.sw_parse_decl.proofs.decls.decls.Given as goal

abbrev pub invariant-loop-alloc : goal.invariant-loop-alloc
invariant-loop-alloc g l =
    rest_of (known l.fn.around) l.fn.depth (l.decls.items, l.ended) l.tokens
    ≡ rest_of (known l.fn.around) l.fn.depth ([], true) l.initial.tokens

abbrev pub decreases-loop-alloc : goal.decreases-loop-alloc
decreases-loop-alloc g l = length l.tokens
