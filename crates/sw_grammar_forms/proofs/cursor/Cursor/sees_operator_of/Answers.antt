use Rattle.std.proofs.Common.{sym, ◌∙◌, ap, ◌&&◌, map}
use Rattle.sw_grammar_forms.specs.Outcome.{has_text_of}
use Rattle.sw_grammar_forms.specs.Relations.{head}
use Rattle.sw_grammar_forms.proofs.KindSets.{texts_of, starts-standing_of}
use Rattle.sw_grammar_forms.proofs.cursor.Cursor.sees_operator_of.Goals as goal

pub returns-then-stands : goal.returns-then-stands
returns-then-stands c = c.has_text_of.ensures
    ∙ (texts_of (λ text. text.now) c.args.texts.now (head c.args.self.now)
    ∙ (ap (λ b. b && has_text_of (map (λ text. text.now) c.args.texts.now) (head c.args.self.now))
    (sym c.if-stands.true ∙ c.stands.ensures)
    ∙ starts-standing_of c.args.fixity _ (head c.args.self.now) c.requires))

pub returns-else-stands : goal.returns-else-stands
returns-else-stands c = c.if-stands.false
    ∙ (ap (λ b. b && has_text_of (map (λ text. text.now) c.args.texts.now) (head c.args.self.now))
    (sym c.if-stands.false ∙ c.stands.ensures)
    ∙ starts-standing_of c.args.fixity _ (head c.args.self.now) c.requires)
