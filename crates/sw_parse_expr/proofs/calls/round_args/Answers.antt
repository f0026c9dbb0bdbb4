use Rattle.std.proofs.Common.{codes}
use Rattle.sw_grammar_forms.specs.Quotes.{quote_on_line}
use Rattle.sw_grammar.specs.Nests.Nest.{in_args}
use Rattle.sw_parse_parts.specs.Around.{known}
use Rattle.sw_parse_parts.proofs.NestSteps.{in_nest_itself}
use Rattle.sw_parse_expr.proofs.calls.round_args.Goals as goal

pub returns : goal.returns
returns g c =
    in_nest_itself (known c.args.around.now) (in_args (known c.args.around.now).here) c.args.depth
    (quote_on_line (codes "(")) _ _ _ _ _ c.in_ok-open_on_line.ensures.opened
    c.in_ok-open_on_line.ensures.room c.args_inside.ensures
