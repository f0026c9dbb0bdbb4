use Rattle.std.proofs.Common.{◌∙◌}
use Rattle.sw_grammar_forms.proofs.CursorSteps.{starts_word}
use Rattle.sw_grammar_forms.proofs.cursor.Cursor.sees_word.Goals as goal

pub returns : goal.returns
returns c = c.is_name.ensures ∙ starts_word _
