use Rattle.std.proofs.Common.{codes, ap, subst}
use Rattle.sw_grammar_forms.specs.Outcome.{Gives}
use Rattle.sw_grammar_forms.specs.Quotes.{quote}
use Rattle.sw_grammar.specs.Nests.Nest.{in_block}
use Rattle.sw_parse_parts.specs.Around.{known}
use Rattle.sw_parse_parts.specs.Nested.{nested}
use Rattle.sw_parse_stmt.proofs.control.loop_stmts.Goals as goal

pub returns : goal.returns
returns g c =
    subst (λ inside. Gives (nested inside c.args.depth (quote (codes "{")) (in_block inside.here)
    c.args.tokens.now) c.braced.result c.braced.new.tokens) (ap known c.with_break-inside.ensures)
    c.braced.ensures
