use Rattle.std.proofs.Common.{sym, ◌∙◌, ap}
use Rattle.std.specs.Prelude.{Some, Ok}
use Rattle.std.proofs.lemmas.Result.{err_from_is_err_and}
use Rattle.sw_grammar_forms.proofs.ItemLoops.{refuses}
use Rattle.sw_tree.specs.declared.stmt.Stmt.TheVariants as variants
use Rattle.sw_parse_parts.specs.Around.{known}
use Rattle.sw_parse_stmt.proofs.ReturnSteps.{return_read, return_stops}
use Rattle.sw_parse_stmt.proofs.simple.return_stmt.Goals as goal

pub returns-in_err-given : goal.returns-in_err-given
returns-in_err-given g c =
    let stop = err_from_is_err_and c.from_residual-in_err-given.result
    c.from_residual-in_err-given.ensures.1 in
    rw (stop.1, stop.2) (refuses _ _ _ _ _
    (return_stops (known c.args.around.now) c.args.depth _ c.wanted.ensures _ _ _
    c.in_ok-at.ensures (sym c.sees_value_on_line.ensures ∙ c.if-sees_value_on_line.true))
    c.in_err-given.ensures)

pub returns-then-sees_value_on_line : goal.returns-then-sees_value_on_line
returns-then-sees_value_on_line g c =
    return_read (known c.args.around.now) c.args.depth _ c.wanted.ensures _ _ _
    c.in_ok-at.ensures (sym c.sees_value_on_line.ensures ∙ c.if-sees_value_on_line.true) _ _
    c.in_ok-given.ensures
    ∙ ap (λ value. Ok (variants.Return c.in_ok-at.at (Some value), c.value_in.new.tokens))
    (sym c.value.ensures)
