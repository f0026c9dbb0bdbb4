use Rattle.std.proofs.Common.{sym, ◌∙◌}
use Rattle.sw_grammar_forms.proofs.CursorSteps.{first_line, within_line}
use Rattle.sw_grammar.specs.Tokens.{value_first}
use Rattle.sw_parse_parts.proofs.operators.sees_value_on_line.Goals as goal

pub returns-then-begins_line : goal.returns-then-begins_line
returns-then-begins_line c =
    sym (first_line value_first _ (sym c.begins_line.ensures ∙ c.if-begins_line.true))

pub returns : goal.returns
returns c = c.sees_value.ensures
    ∙ sym (within_line value_first _ (sym c.begins_line.ensures ∙ c.if-begins_line.false))
