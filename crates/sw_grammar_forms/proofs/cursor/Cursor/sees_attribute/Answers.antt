use Rattle.std.proofs.Common.{◌∙◌}
use Rattle.sw_grammar_forms.proofs.CursorSteps.{starts_attribute}
use Rattle.sw_grammar_forms.proofs.cursor.Cursor.sees_attribute.Goals as goal

pub returns : goal.returns
returns c = c.is_attribute.ensures ∙ starts_attribute _
