use Rattle.std.proofs.Common.{sym, ◌∙◌, ap, ◌&&◌}
use Rattle.sw_grammar_forms.specs.Outcome.{has_text}
use Rattle.sw_grammar_forms.specs.Relations.{head}
use Rattle.sw_grammar_forms.proofs.CursorSteps.{starts_standing}
use Rattle.sw_grammar_forms.proofs.cursor.Cursor.sees_operator.Goals as goal

pub returns-then-stands : goal.returns-then-stands
returns-then-stands c = c.has_text.ensures
    ∙ (ap (λ b. b && has_text c.args.text.now (head c.args.self.now))
    (sym c.if-stands.true ∙ c.stands.ensures)
    ∙ starts_standing c.args.fixity c.args.text.now (head c.args.self.now) c.requires)

pub returns-else-stands : goal.returns-else-stands
returns-else-stands c = c.if-stands.false
    ∙ (ap (λ b. b && has_text c.args.text.now (head c.args.self.now))
    (sym c.if-stands.false ∙ c.stands.ensures)
    ∙ starts_standing c.args.fixity c.args.text.now (head c.args.self.now) c.requires)
