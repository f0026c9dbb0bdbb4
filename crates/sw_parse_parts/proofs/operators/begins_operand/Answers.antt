use Rattle.std.proofs.Common.{◌++◌, sym, ◌∙◌, refl}
use Rattle.sw_grammar_forms.specs.Sets.{integer}
use Rattle.sw_grammar.specs.Tokens.{value_word, prefix_ops}
use Rattle.sw_parse_parts.specs.Begin.{operand_begin}
use Rattle.sw_parse_parts.proofs.BeginSets.{joined_left, joined_right}
use Rattle.sw_parse_parts.proofs.operators.begins_operand.Goals as goal

pub returns-then-sees_value_word : goal.returns-then-sees_value_word
returns-then-sees_value_word c =
    joined_left operand_begin value_word (integer ++ prefix_ops) _ refl refl
    (sym c.sees_value_word.ensures ∙ c.if-sees_value_word.true)

pub returns-then-sees_integer : goal.returns-then-sees_integer
returns-then-sees_integer c =
    joined_left (integer ++ prefix_ops) integer prefix_ops _ refl refl
    (sym c.sees_integer.ensures ∙ c.if-sees_integer.true)
    ∙ joined_right operand_begin value_word (integer ++ prefix_ops) _ refl refl
    (sym c.sees_value_word.ensures ∙ c.if-sees_value_word.false)

pub returns : goal.returns
returns c = c.sees_prefix.ensures
    ∙ (joined_right (integer ++ prefix_ops) integer prefix_ops _ refl refl
    (sym c.sees_integer.ensures ∙ c.if-sees_integer.false)
    ∙ joined_right operand_begin value_word (integer ++ prefix_ops) _ refl refl
    (sym c.sees_value_word.ensures ∙ c.if-sees_value_word.false))
