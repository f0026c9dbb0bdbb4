use Rattle.std.proofs.Common.{sym, ◌∙◌, refl}
use Rattle.sw_grammar.specs.Tokens.{expr_first}
use Rattle.sw_parse_parts.specs.Begin.{operand_begin, expr_words}
use Rattle.sw_parse_parts.proofs.BeginSets.{joined_left, joined_right}
use Rattle.sw_parse_parts.proofs.operators.sees_expr.Goals as goal

pub returns-then-begins_operand : goal.returns-then-begins_operand
returns-then-begins_operand c = joined_left expr_first operand_begin expr_words _ refl refl
    (sym c.begins_operand.ensures ∙ c.if-begins_operand.true)

pub returns : goal.returns
returns c = c.sees_expr_word.ensures ∙ joined_right expr_first operand_begin expr_words _ refl refl
    (sym c.begins_operand.ensures ∙ c.if-begins_operand.false)
