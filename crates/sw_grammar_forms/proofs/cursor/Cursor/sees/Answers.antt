use Rattle.std.proofs.Common.{◌∙◌}
use Rattle.sw_grammar_forms.proofs.CursorSteps.{sees_quoted}
use Rattle.sw_grammar_forms.proofs.cursor.Cursor.sees.Goals as goal

pub returns : goal.returns
returns c = c.has_text.ensures ∙ sees_quoted _ _ c.requires
