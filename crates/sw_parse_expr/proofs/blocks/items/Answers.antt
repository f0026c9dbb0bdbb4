use Rattle.std.proofs.Common.{Bool, List, [], sym, ◌∙◌, ap}
use Rattle.std.proofs.lemmas.Result.{err_from_is_err_and}
use Rattle.std.specs.Prelude.{Ok}
use Rattle.sw_tree.specs.declared.stmt.Stmt.{Stmt}
use Rattle.sw_grammar_forms.proofs.ItemLoops.{refuses}
use Rattle.sw_parse_parts.specs.Around.{known}
use Rattle.sw_parse_expr.proofs.StmtTurns.{begun, stops_at_start, stops_at_stmt, one_turn, shorter}
use Rattle.sw_parse_expr.proofs.StmtTurns.{all_read}
use Rattle.sw_parse_expr.proofs.blocks.items.Goals as goal

-- the statements, and whether a `;` ends the last
abbrev all : List Stmt → Bool → List Stmt × Bool
all stmts ended = (stmts, ended)

pub loop-alloc-init : goal.loop-alloc-init
loop-alloc-init g c =
    begun (known c.args.around.now) c.args.depth [] _ _ _ (sym c.new-stmts.ensures.items)

pub returns-in_err-start : goal.returns-in_err-start
returns-in_err-start g c =
    let stop = err_from_is_err_and c.from_residual.result c.from_residual.ensures.1 in
    rw (stop.1, stop.2) (refuses _ _ _ _ _
    (stops_at_start (known c.args.around.now) c.args.depth _ _ _ _ c.loop-alloc.invariant all
    (sym c.sees_stmt.ensures ∙ c.loop-alloc-test.true)) c.in_err-start.ensures)

pub returns-in_err-stmt : goal.returns-in_err-stmt
returns-in_err-stmt g c =
    let stop = err_from_is_err_and c.from_residual-in_err-stmt.result
    c.from_residual-in_err-stmt.ensures.1 in
    rw (stop.1, stop.2) (refuses _ _ _ _ _
    (stops_at_stmt (known c.args.around.now) c.args.depth _ _ _ _ c.loop-alloc.invariant all _ _
    (sym c.sees_stmt.ensures ∙ c.loop-alloc-test.true) c.in_ok-start.ensures)
    c.in_err-stmt.ensures)

pub loop-alloc-smaller : goal.loop-alloc-smaller
loop-alloc-smaller g c =
    shorter (known c.args.around.now) c.args.depth _ _ _ _ _ _ _ _
    c.in_ok-start.ensures c.in_ok-stmt.ensures c.skip-ended.ensures

pub loop-alloc-preserved : goal.loop-alloc-preserved
loop-alloc-preserved g c = rw (c.in_ok-append.ensures.items, c.into_vec-more.ensures)
    (one_turn (known c.args.around.now) c.args.depth _ _ _ _ c.loop-alloc.invariant _ _ _ _ _ _
    (sym c.sees_stmt.ensures ∙ c.loop-alloc-test.true)
    c.in_ok-start.ensures c.in_ok-stmt.ensures c.skip-ended.ensures)

pub returns : goal.returns
returns g c =
    all_read (known c.args.around.now) c.args.depth _ _ _ _ c.loop-alloc.invariant all
    (sym c.sees_stmt.ensures ∙ c.loop-alloc-test.false)
    ∙ ap (λ xs. Ok ((xs, c.loop-alloc.ended), c.loop-alloc.tokens)) (sym c.from_vec.ensures)
