use Rattle.std.proofs.Common.{sym, ◌∙◌, codes, refl}
use Rattle.sw_grammar_forms.specs.Sets.{quoted}
use Rattle.sw_grammar.specs.Tokens.{expr_first, value_first}
use Rattle.sw_parse_parts.proofs.BeginSets.{joined_left, joined_right}
use Rattle.sw_parse_parts.proofs.operators.sees_value.Goals as goal

pub returns-then-sees : goal.returns-then-sees
returns-then-sees c = joined_left value_first (quoted (codes "nil")) expr_first _ refl refl
    (sym c.sees.ensures ∙ c.if-sees.true)

pub returns : goal.returns
returns c = c.sees_expr.ensures
    ∙ joined_right value_first (quoted (codes "nil")) expr_first _ refl refl
    (sym c.sees.ensures ∙ c.if-sees.false)
