use Rattle.std.proofs.Common.{sym, ◌∙◌, subst}
use Rattle.sw_grammar_forms.specs.Outcome.{Gives}
use Rattle.sw_grammar_forms.specs.Quotes.{quote_on_line}
use Rattle.sw_grammar_forms.specs.Reader.{opening}
use Rattle.sw_grammar_forms.proofs.CursorSteps.{stopped, opening_on_line_refuses, opening_on_line_is}
use Rattle.sw_grammar_forms.proofs.cursor.Cursor.open_on_line.Goals as goal

pub returns-then-begins_line-clause-opened : goal.returns-then-begins_line-clause-opened
returns-then-begins_line-clause-opened c =
    stopped (opening c.args.depth (quote_on_line c.args.text.now) c.args.self.now) _ _
    c.args.self.now c.stop.ensures
    (opening_on_line_refuses c.args.text.now c.args.depth c.args.self.now
    (sym c.begins_line.ensures ∙ c.if-begins_line.true))

pub returns-clause-opened : goal.returns-clause-opened
returns-clause-opened c = subst (λ answer. Gives answer c.open.result c.open.new.self)
    (sym (opening_on_line_is c.args.text.now c.args.depth c.args.self.now
    (sym c.begins_line.ensures ∙ c.if-begins_line.false))) c.open.ensures.opened
