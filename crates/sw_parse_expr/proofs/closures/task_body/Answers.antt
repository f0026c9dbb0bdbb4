use Rattle.std.proofs.Common.{codes}
use Rattle.sw_grammar_forms.specs.Quotes.{quote}
use Rattle.sw_grammar.specs.Exprs.{closure_at}
use Rattle.sw_grammar.specs.Nests.Nest.{in_task}
use Rattle.sw_parse_parts.specs.Around.{known}
use Rattle.sw_parse_expr.proofs.PlacedNests.{placed}
use Rattle.sw_parse_expr.proofs.closures.task_body.Goals as goal

pub returns : goal.returns
returns g c =
    placed (known c.args.around.now) (in_task (known c.args.around.now).here) c.args.depth
    (quote (codes "{")) _ _ _ c.in_ok-at.ensures.opened closure_at _ _ c.task_inside.ensures
