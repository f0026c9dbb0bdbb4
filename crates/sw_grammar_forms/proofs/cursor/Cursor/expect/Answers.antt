use Rattle.std.proofs.Common.{sym, ◌∙◌}
use Rattle.sw_token.specs.declared.Fixity.TheVariants.{None}
use Rattle.sw_grammar_forms.specs.Sets.{quoted}
use Rattle.sw_grammar_forms.specs.Quotes.{quote}
use Rattle.sw_grammar_forms.proofs.CursorSteps.{stopped, next_refuses, next_takes}
use Rattle.sw_grammar_forms.proofs.cursor.Cursor.expect.Goals as goal

pub returns-then-not-sees : goal.returns-then-not-sees
returns-then-not-sees c =
    stopped _ _ _ _ c.stop.ensures
    (next_refuses (quote c.args.text.now) _ (sym c.sees.ensures ∙ c.if-not-sees.true))

pub returns : goal.returns
returns c = next_takes (quoted c.args.text.now) c.args.text.now None _ _ _
    (sym c.sees.ensures ∙ c.if-not-sees.false) c.take.ensures
