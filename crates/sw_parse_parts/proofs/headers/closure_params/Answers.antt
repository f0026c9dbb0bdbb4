use Rattle.std.proofs.Common.{codes, refl}
use Rattle.std.proofs.lemmas.Result.{err_from_is_err_and}
use Rattle.sw_grammar_forms.specs.Quotes.{quote}
use Rattle.sw_grammar_forms.proofs.ItemLoops.{refuses}
use Rattle.sw_grammar.specs.Nests.{in_closure_params}
use Rattle.sw_parse_parts.specs.Around.{known}
use Rattle.sw_parse_parts.proofs.RuleNests.{rule_read, rule_stops}
use Rattle.sw_parse_parts.proofs.headers.closure_params.Goals as goal

pub returns-in_err-inside : goal.returns-in_err-inside
returns-in_err-inside c =
    let stop = err_from_is_err_and c.from_residual-in_err-inside.result
    c.from_residual-in_err-inside.ensures.1 in
    rw (stop.1, stop.2) (refuses _ _ _ _ _
    (rule_stops (known c.args.around.now)
    (in_closure_params (known c.args.around.now).here) refl c.args.depth (quote (codes "("))
    _ _ _ c.in_ok-at.ensures.opened) c.in_err-inside.ensures)

pub returns : goal.returns
returns c =
    rule_read (known c.args.around.now)
    (in_closure_params (known c.args.around.now).here) refl c.args.depth (quote (codes "("))
    _ _ _ _ _ c.in_ok-at.ensures.opened c.in_ok-inside.ensures
