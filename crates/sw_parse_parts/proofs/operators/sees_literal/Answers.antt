use Rattle.std.proofs.Common.{sym, ◌∙◌, refl}
use Rattle.sw_grammar_forms.specs.Sets.{integer}
use Rattle.sw_grammar.specs.Tokens.{literal_first}
use Rattle.sw_parse_parts.specs.Begin.{booleans}
use Rattle.sw_parse_parts.proofs.BeginSets.{joined_left, joined_right}
use Rattle.sw_parse_parts.proofs.operators.sees_literal.Goals as goal

pub returns-then-sees_integer : goal.returns-then-sees_integer
returns-then-sees_integer c = joined_left literal_first integer booleans _ refl refl
    (sym c.sees_integer.ensures ∙ c.if-sees_integer.true)

pub returns : goal.returns
returns c = c.sees_boolean.ensures ∙ joined_right literal_first integer booleans _ refl refl
    (sym c.sees_integer.ensures ∙ c.if-sees_integer.false)
