use Rattle.std.proofs.Common.{codes}
use Rattle.sw_grammar_forms.specs.Quotes.{quote}
use Rattle.sw_grammar.specs.Nests.Nest.{in_block}
use Rattle.sw_parse_parts.specs.Around.{known}
use Rattle.sw_parse_parts.proofs.NestSteps.{in_nest_itself}
use Rattle.sw_parse_stmt.proofs.blocks.braced.Goals as goal

pub returns : goal.returns
returns g c =
    in_nest_itself (known c.args.around.now) (in_block (known c.args.around.now).here) c.args.depth
    (quote (codes "{")) _ _ _ _ _ c.in_ok-open.ensures.opened c.in_ok-open.ensures.room c.stmts_inside.ensures
