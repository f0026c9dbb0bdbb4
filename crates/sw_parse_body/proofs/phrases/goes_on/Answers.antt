use Rattle.std.proofs.Common.{◌++◌, sym, ◌∙◌, refl, codes}
use Rattle.sw_grammar_forms.specs.Sets.{quoted, not_first}
use Rattle.sw_grammar.specs.Tokens.{expr_ext}
use Rattle.sw_grammar.specs.Exprs.{operators}
use Rattle.sw_parse_parts.proofs.BeginSets.{joined_left, joined_right}
use Rattle.sw_parse_body.proofs.phrases.goes_on.Goals as goal

pub returns-then-sees_on_line : goal.returns-then-sees_on_line
returns-then-sees_on_line c =
    joined_left expr_ext (not_first (quoted (codes "("))) (quoted (codes ".") ++ operators) _ refl
    refl (sym c.sees_on_line.ensures ∙ c.if-sees_on_line.true)

pub returns-then-sees : goal.returns-then-sees
returns-then-sees c =
    joined_left (quoted (codes ".") ++ operators) (quoted (codes ".")) operators _ refl refl
    (sym c.sees.ensures ∙ c.if-sees.true)
    ∙ joined_right expr_ext (not_first (quoted (codes "("))) (quoted (codes ".") ++ operators) _
    refl refl (sym c.sees_on_line.ensures ∙ c.if-sees_on_line.false)

pub returns : goal.returns
returns c = c.sees_infix.ensures
    ∙ (joined_right (quoted (codes ".") ++ operators) (quoted (codes ".")) operators _ refl refl
    (sym c.sees.ensures ∙ c.if-sees.false)
    ∙ joined_right expr_ext (not_first (quoted (codes "("))) (quoted (codes ".") ++ operators) _
    refl refl (sym c.sees_on_line.ensures ∙ c.if-sees_on_line.false))
