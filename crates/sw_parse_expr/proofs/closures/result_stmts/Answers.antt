use Rattle.std.proofs.Common.{subst}
use Rattle.sw_grammar_forms.specs.Outcome.{Gives}
use Rattle.sw_grammar.specs.Around.{returning}
use Rattle.sw_grammar.specs.Reading.{read}
use Rattle.sw_grammar.specs.Stmts.{statements}
use Rattle.sw_parse_parts.specs.Around.{known}
use Rattle.sw_parse_expr.proofs.closures.result_stmts.Goals as goal

pub returns : goal.returns
returns g c =
    subst (λ wanted. Gives (read (known c.args.around.now) c.args.depth
    (statements (returning (known c.args.around.now) wanted)) c.args.tokens.now)
    c.stmts_inside.result c.stmts_inside.new.tokens) c.wanted_of.ensures
    (subst (λ within. Gives (read (known within) c.args.depth (statements (known within))
    c.args.tokens.now) c.stmts_inside.result c.stmts_inside.new.tokens) c.returning-within.ensures
    c.stmts_inside.ensures)
