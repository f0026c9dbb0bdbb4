use Rattle.std.proofs.Common.{sym, ◌∙◌}
use Rattle.std.proofs.lemmas.Result.{err_from_is_err_and}
use Rattle.sw_grammar_forms.proofs.ItemLoops.{refuses}
use Rattle.sw_parse_parts.specs.Around.{known}
use Rattle.sw_parse_expr.proofs.OptionalSteps.{stops_in_brackets, wraps, used}
use Rattle.sw_parse_expr.proofs.values.after_optional.Goals as goal

pub returns-in_err-value : goal.returns-in_err-value
returns-in_err-value g c =
    let stop = err_from_is_err_and c.from_residual.result c.from_residual.ensures.1 in
    rw (stop.1, stop.2) (refuses _ _ _ _ _
    (stops_in_brackets (known c.args.around.now) c.args.depth c.args.wanted.now c.args.at _
    (sym c.sees.ensures ∙ c.if-sees.true)) c.in_err-value.ensures)

pub returns-then-sees : goal.returns-then-sees
returns-then-sees g c = rw c.in_ok-some_value.ensures
    (wraps (known c.args.around.now) c.args.depth c.args.wanted.now c.args.at _
    (sym c.sees.ensures ∙ c.if-sees.true) _ _ c.in_ok-value.ensures)

pub returns : goal.returns
returns g c = rw (used (known c.args.around.now) c.args.depth c.args.wanted.now c.args.at _
    (sym c.sees.ensures ∙ c.if-sees.false)) c.use_value.ensures
