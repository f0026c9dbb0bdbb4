use Rattle.std.proofs.Common.{codes, [], ◌∷◌}
use Rattle.sw_grammar_forms.specs.Relations.{head}
use Rattle.sw_grammar_forms.specs.Sets.{one_of}
use Rattle.sw_grammar.specs.Tokens.{at_word}
use Rattle.sw_parse_decl.proofs.DeclSets.{of_first, of_second}
use Rattle.sw_parse_decl.proofs.kinds.sees_method.Goals as goal

pub returns-then-sees_attribute : goal.returns-then-sees_attribute
returns-then-sees_attribute c =
    of_first (at_word) (one_of (codes "nonisolated" ∷ codes "@concurrent" ∷ codes "func" ∷ []))
    (head c.args.tokens.now) _ c.sees_attribute.ensures c.if-sees_attribute.true

pub returns-else-sees_attribute : goal.returns-else-sees_attribute
returns-else-sees_attribute c =
    of_second (at_word) (one_of (codes "nonisolated" ∷ codes "@concurrent" ∷ codes "func" ∷ []))
    (head c.args.tokens.now) _ _ c.sees_attribute.ensures c.if-sees_attribute.false
    c.sees_one_of.ensures
