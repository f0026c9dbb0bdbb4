-- The optionals before the last word are found.
use Rattle.std.proofs.Common.{length}
use Rattle.sw_grammar.specs.Around.{index_in}
use Rattle.sw_parse_decl.proofs.EnumSteps.{Progress}
use Rattle.sw_parse_decl.proofs.enums.with_enums.Given as goal

abbrev pub invariant-loop-word : goal.invariant-loop-word
invariant-loop-word l =
    Progress (index_in l.fn.around.texts) l.fn.decls l.fn.tokens l.found l.word l.tokens

abbrev pub decreases-loop-word : goal.decreases-loop-word
decreases-loop-word l = length l.tokens
