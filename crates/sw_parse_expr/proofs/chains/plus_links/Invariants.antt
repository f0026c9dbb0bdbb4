-- What is left of the operators gives the same answer as all of them.
use Rattle.std.proofs.Common.{◌≡◌, [], codes, length}
use Rattle.sw_grammar.specs.Exprs.{product}
use Rattle.sw_grammar.specs.Reading.{read}
use Rattle.sw_grammar.specs.Tokens.{plus, infix_in}
use Rattle.sw_parse_parts.specs.Around.{known}
use Rattle.sw_parse_expr.specs.Parts.{links_after}
use Rattle.sw_parse_expr.proofs.chains.plus_links.Given as goal

abbrev pub invariant-loop-alloc : goal.invariant-loop-alloc
invariant-loop-alloc g l =
    read (known l.fn.around) l.fn.depth (links_after l.links.items
    (infix_in plus (codes "+"))
    (product (known l.fn.around) l.fn.closures)) l.tokens
    ≡ read (known l.fn.around) l.fn.depth (links_after []
    (infix_in plus (codes "+"))
    (product (known l.fn.around) l.fn.closures)) l.initial.tokens

abbrev pub decreases-loop-alloc : goal.decreases-loop-alloc
decreases-loop-alloc g l = length l.tokens
