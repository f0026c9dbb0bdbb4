use Rattle.std.proofs.Common.{sym, ◌∙◌, ap, ◌||◌, codes}
use Rattle.sw_grammar_forms.specs.Relations.{head}
use Rattle.sw_grammar_forms.specs.Sets.{quoted, starts}
use Rattle.sw_parse_stmt.proofs.switch.sees_item.Goals as goal

pub returns-then-sees_stmt : goal.returns-then-sees_stmt
returns-then-sees_stmt c =
    c.if-sees_stmt.true
    ∙ ap (λ b. b || starts (quoted (codes "async")) (head c.args.tokens.now))
    (sym c.if-sees_stmt.true ∙ c.sees_stmt.ensures)

pub returns-else-sees_stmt : goal.returns-else-sees_stmt
returns-else-sees_stmt c =
    c.sees.ensures
    ∙ ap (λ b. b || starts (quoted (codes "async")) (head c.args.tokens.now))
    (sym c.if-sees_stmt.false ∙ c.sees_stmt.ensures)
