use Rattle.std.proofs.Common.{sym, ◌∙◌, ap, length, arith}
use Rattle.sw_token.specs.declared.Fixity.TheVariants.{None}
use Rattle.sw_grammar_forms.specs.Sets.{quoted}
use Rattle.sw_grammar_forms.specs.Quotes.{quote}
use Rattle.sw_grammar_forms.proofs.CursorSteps.{stopped, next_refuses, next_takes, seen_text}
use Rattle.sw_grammar_forms.proofs.cursor.Cursor.expect_whole.Goals as goal

pub returns-then-not-sees-clause-taken : goal.returns-then-not-sees-clause-taken
returns-then-not-sees-clause-taken c =
    stopped _ _ _ _ c.stop.ensures
    (next_refuses (quote c.args.text.now) _ (sym c.sees.ensures ∙ c.if-not-sees.true))

pub returns-clause-taken : goal.returns-clause-taken
returns-clause-taken c = next_takes (quoted c.args.text.now) c.args.text.now None _ _ _
    (sym c.sees.ensures ∙ c.if-not-sees.false) c.take_whole.ensures.taken

pub returns-clause-whole : goal.returns-clause-whole
returns-clause-whole c = omega (
  arith,
  c.take_whole.ensures.whole,
  ap length (seen_text c.args.text.now _ c.requires (sym c.sees.ensures ∙ c.if-not-sees.false)),
)
