use Rattle.std.proofs.Common.{codes, [], ◌∷◌}
use Rattle.sw_grammar_forms.specs.Relations.{head}
use Rattle.sw_grammar_forms.specs.Sets.{one_of}
use Rattle.sw_grammar.specs.Nests.{method_first}
use Rattle.sw_parse_decl.proofs.DeclSets.{of_first, of_second}
use Rattle.sw_parse_decl.proofs.kinds.sees_struct_member.Goals as goal

pub returns-then-sees_binding : goal.returns-then-sees_binding
returns-then-sees_binding c =
    of_first (one_of (codes "let" ∷ codes "var" ∷ [])) (method_first) (head c.args.tokens.now) _
    c.sees_binding.ensures c.if-sees_binding.true

pub returns-else-sees_binding : goal.returns-else-sees_binding
returns-else-sees_binding c =
    of_second (one_of (codes "let" ∷ codes "var" ∷ [])) (method_first) (head c.args.tokens.now) _ _
    c.sees_binding.ensures c.if-sees_binding.false c.sees_method.ensures
