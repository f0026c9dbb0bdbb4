use Rattle.std.proofs.Common.{◌∙◌}
use Rattle.sw_grammar_forms.proofs.CursorSteps.{starts_integer}
use Rattle.sw_grammar_forms.proofs.cursor.Cursor.sees_integer.Goals as goal

pub returns : goal.returns
returns c = c.is_literal.ensures ∙ starts_integer _
