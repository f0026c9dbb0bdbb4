use Rattle.std.proofs.Common.{codes, [], ◌∷◌}
use Rattle.sw_grammar_forms.specs.Relations.{head}
use Rattle.sw_grammar_forms.specs.Sets.{one_of}
use Rattle.sw_grammar.specs.Nests.{method_first}
use Rattle.sw_parse_decl.proofs.DeclSets.{of_first, of_second}
use Rattle.sw_parse_decl.proofs.kinds.sees_class_member.Goals as goal

pub returns-then-sees_one_of : goal.returns-then-sees_one_of
returns-then-sees_one_of c =
    of_first (one_of (codes "let" ∷ codes "var" ∷ codes "init" ∷ [])) (method_first) (head
    c.args.tokens.now) _ c.sees_one_of.ensures c.if-sees_one_of.true

pub returns-else-sees_one_of : goal.returns-else-sees_one_of
returns-else-sees_one_of c =
    of_second (one_of (codes "let" ∷ codes "var" ∷ codes "init" ∷ [])) (method_first) (head
    c.args.tokens.now) _ _ c.sees_one_of.ensures c.if-sees_one_of.false c.sees_method.ensures
