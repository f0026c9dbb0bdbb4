use Rattle.std.proofs.Common.{codes}
use Rattle.sw_grammar_forms.specs.Relations.{head}
use Rattle.sw_grammar_forms.specs.Sets.{quoted}
use Rattle.sw_grammar.specs.Nests.{method_first}
use Rattle.sw_parse_decl.proofs.DeclSets.{of_first, of_second}
use Rattle.sw_parse_decl.proofs.kinds.sees_enum_member.Goals as goal

pub returns-then-sees : goal.returns-then-sees
returns-then-sees c =
    of_first (quoted (codes "case")) (method_first) (head c.args.tokens.now) _ c.sees.ensures
    c.if-sees.true

pub returns-else-sees : goal.returns-else-sees
returns-else-sees c =
    of_second (quoted (codes "case")) (method_first) (head c.args.tokens.now) _ _ c.sees.ensures
    c.if-sees.false c.sees_method.ensures
