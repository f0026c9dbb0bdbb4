use Rattle.std.proofs.Common.{◌∙◌}
use Rattle.sw_grammar_forms.proofs.KindSets.{texts_of, starts-one_of}
use Rattle.sw_grammar_forms.proofs.cursor.Cursor.sees_one_of.Goals as goal

pub returns : goal.returns
returns c = c.has_text_of.ensures
    ∙ (texts_of (λ text. text.now) c.args.texts.now _ ∙ starts-one_of _ _ c.requires)
