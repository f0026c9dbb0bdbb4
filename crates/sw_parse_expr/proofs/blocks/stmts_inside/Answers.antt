use Rattle.std.proofs.lemmas.Result.{err_from_is_err_and}
use Rattle.sw_grammar_forms.proofs.ItemLoops.{refuses}
use Rattle.sw_parse_parts.specs.Around.{known}
use Rattle.sw_parse_expr.proofs.BlockSteps.{all_inside, stops_at_end, stops_inside}
use Rattle.sw_parse_expr.proofs.blocks.stmts_inside.Goals as goal

pub returns-in_err-stmts : goal.returns-in_err-stmts
returns-in_err-stmts g c =
    let stop = err_from_is_err_and c.from_residual.result c.from_residual.ensures.1 in
    rw (stop.1, stop.2) (refuses _ _ _ _ _
    (stops_inside (known c.args.around.now) c.args.depth c.args.tokens.now) c.in_err-stmts.ensures)

pub returns-in_err-expect : goal.returns-in_err-expect
returns-in_err-expect g c =
    let stop = err_from_is_err_and c.from_residual-in_err-expect.result
    c.from_residual-in_err-expect.ensures.1 in
    rw (stop.1, stop.2) (refuses _ _ _ _ _
    (stops_at_end (known c.args.around.now) c.args.depth c.args.tokens.now _ _
    c.in_ok-stmts.ensures) c.in_err-expect.ensures)

pub returns : goal.returns
returns g c =
    all_inside (known c.args.around.now) c.args.depth c.args.tokens.now _ _ _ _
    c.in_ok-stmts.ensures c.in_ok-expect.ensures
