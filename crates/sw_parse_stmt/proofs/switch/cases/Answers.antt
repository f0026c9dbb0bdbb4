use Rattle.std.proofs.Common.{sym, ◌∙◌}
use Rattle.std.proofs.lemmas.Result.{err_from_is_err_and}
use Rattle.sw_grammar_forms.proofs.ItemLoops.{refuses}
use Rattle.sw_parse_parts.specs.Around.{known}
use Rattle.sw_parse_stmt.proofs.CaseLoops.{one_turn, stops_at_case, shorter}
use Rattle.sw_parse_stmt.proofs.switch.cases.Goals as goal

pub returns-in_err-cases : goal.returns-in_err-cases
returns-in_err-cases g c =
    let stop = err_from_is_err_and c.from_residual-in_err-cases.result
    c.from_residual-in_err-cases.ensures.1 in
    rw (stop.1, stop.2) (refuses _ _ _ _ _
    (stops_at_case (known c.args.around.now) c.args.depth _ _ _ c.loop-alloc.cases
    c.loop-alloc.ended _ (sym c.sees.ensures ∙ c.loop-alloc-test.true) c.loop-alloc.invariant
    c.in_ok-start.ensures) c.in_err-cases.ensures)

pub loop-alloc-smaller : goal.loop-alloc-smaller
loop-alloc-smaller g c =
    shorter (known c.args.around.now) c.args.depth _ _ _ c.loop-alloc.cases c.loop-alloc.ended _ _
    c.in_ok-start.ensures c.in_ok-cases.ensures

pub loop-alloc-preserved : goal.loop-alloc-preserved
loop-alloc-preserved g c =
    one_turn (known c.args.around.now) c.args.depth _ _ _ _ c.loop-alloc.cases c.loop-alloc.ended
    _ _ (sym c.sees.ensures ∙ c.loop-alloc-test.true) c.loop-alloc.invariant
    c.in_ok-start.ensures c.in_ok-cases.ensures
