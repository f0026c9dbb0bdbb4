use Rattle.std.proofs.Common.{◌-◌, codes, ap, subst}
use Rattle.sw_grammar_forms.specs.Outcome.{Gives}
use Rattle.sw_grammar_forms.specs.Quotes.{quote}
use Rattle.sw_grammar.specs.Around.{with_break}
use Rattle.sw_grammar.specs.Nests.Nest.{in_switch}
use Rattle.sw_grammar.specs.Reading.{read}
use Rattle.sw_grammar.specs.Stmts as stmts
use Rattle.sw_parse_parts.specs.Around.{known}
use Rattle.sw_parse_parts.proofs.NestSteps.{in_nest_itself}
use Rattle.sw_parse_stmt.proofs.switch.arms.Goals as goal

pub returns : goal.returns
returns g c =
    in_nest_itself (known c.args.around.now)
    (in_switch (with_break (known c.args.around.now)).here) c.args.depth (quote (codes "{")) _ _ _
    _ _ c.in_ok-open.ensures.opened c.in_ok-open.ensures.room
    (subst (λ inside. Gives (read inside (c.args.depth - 1) (stmts.switch_inside inside) c.open.new.self)
    c.switch_inside.result c.switch_inside.new.tokens) (ap known c.with_break-inside.ensures)
    c.switch_inside.ensures)
