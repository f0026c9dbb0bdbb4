use Rattle.std.proofs.lemmas.Result.{err_from_is_err_and}
use Rattle.sw_grammar_forms.proofs.ItemLoops.{refuses}
use Rattle.sw_grammar.specs.Closures.{header}
use Rattle.sw_grammar.specs.Reading.{read}
use Rattle.sw_grammar.specs.Stmts.{closure_inside}
use Rattle.sw_parse_parts.specs.Around.{known}
use Rattle.sw_parse_expr.specs.Headers.{result_stmts}
use Rattle.sw_parse_expr.proofs.ClosureSteps.{closed, stops_at_header, stops_in_body}
use Rattle.sw_parse_expr.proofs.closures.closure_inside.Goals as goal

pub returns-in_err-header : goal.returns-in_err-header
unfolding closure_inside
returns-in_err-header g c =
    let stop = err_from_is_err_and c.from_residual.result c.from_residual.ensures.1 in
    rw (stop.1, stop.2) (refuses _ _ _ _ _
    (stops_at_header c.args.at (result_stmts (known c.args.around.now) c.args.depth)
    (read (known c.args.around.now) c.args.depth (header (known c.args.around.now)) _))
    c.in_err-header.ensures)

pub returns-in_err-stmts : goal.returns-in_err-stmts
unfolding closure_inside
returns-in_err-stmts g c =
    let stop = err_from_is_err_and c.from_residual-in_err-stmts.result
    c.from_residual-in_err-stmts.ensures.1 in
    rw (stop.1, stop.2) (refuses _ _ _ _ _
    (stops_in_body c.args.at (result_stmts (known c.args.around.now) c.args.depth)
    (read (known c.args.around.now) c.args.depth (header (known c.args.around.now)) _) _ _
    c.in_ok-header.ensures) c.in_err-stmts.ensures)

pub returns : goal.returns
unfolding closure_inside
returns g c = rw c.closure_of.ensures
    (closed c.args.at (result_stmts (known c.args.around.now) c.args.depth)
    (read (known c.args.around.now) c.args.depth (header (known c.args.around.now)) _) _ _ _ _
    c.in_ok-header.ensures c.in_ok-stmts.ensures)
