use Rattle.std.proofs.Common.{sym, ◌∙◌}
use Rattle.sw_grammar_forms.specs.Sets.{quoted}
use Rattle.sw_grammar_forms.proofs.CursorSteps.{first_line, within_line}
use Rattle.sw_grammar_forms.proofs.cursor.Cursor.sees_on_line.Goals as goal

pub returns-then-begins_line : goal.returns-then-begins_line
returns-then-begins_line c =
    sym (first_line (quoted c.args.text.now) _ (sym c.begins_line.ensures ∙ c.if-begins_line.true))

pub returns : goal.returns
returns c = c.sees.ensures
    ∙ sym (within_line (quoted c.args.text.now) _
    (sym c.begins_line.ensures ∙ c.if-begins_line.false))
