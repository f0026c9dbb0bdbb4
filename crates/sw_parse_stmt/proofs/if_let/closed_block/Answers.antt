use Rattle.std.proofs.Common.{ap, subst}
use Rattle.sw_grammar_forms.specs.Outcome.{Gives}
use Rattle.sw_grammar.specs.Reading.{read}
use Rattle.sw_grammar.specs.Stmts as stmts
use Rattle.sw_parse_parts.specs.Around.{known}
use Rattle.sw_parse_stmt.proofs.if_let.closed_block.Goals as goal

pub returns : goal.returns
returns g c =
    subst (λ inside. Gives (read inside c.args.depth (stmts.block inside) c.args.tokens.now)
    c.block.result c.block.new.tokens) (ap known c.without_break-inside.ensures) c.block.ensures
