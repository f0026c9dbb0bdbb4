use Rattle.std.proofs.Common.{sym, ◌∙◌, ap}
use Rattle.std.proofs.lemmas.Result.{err_from_is_err_and}
use Rattle.std.specs.Prelude.{Ok}
use Rattle.sw_grammar_forms.proofs.ItemLoops.{refuses}
use Rattle.sw_parse_parts.specs.Around.{known}
use Rattle.sw_parse_decl.proofs.DeclLoops.{
  stops_at_start,
  stops_at_decl,
  one_turn,
  shorter,
  all_read,
}
use Rattle.sw_parse_decl.proofs.decls.decls.Goals as goal

pub returns-in_err-start : goal.returns-in_err-start
returns-in_err-start g c =
    let stop = err_from_is_err_and c.from_residual.result c.from_residual.ensures.1 in
    rw (stop.1, stop.2) (refuses _ _ _ _ _
    (stops_at_start (known c.args.around.now) c.args.depth _ _ _ _
    (sym c.sees_decl.ensures ∙ c.loop-alloc-test.true)
    c.loop-alloc.invariant) c.in_err-start.ensures)

pub returns-in_err-decl : goal.returns-in_err-decl
returns-in_err-decl g c =
    let stop = err_from_is_err_and c.from_residual-in_err-decl.result
    c.from_residual-in_err-decl.ensures.1 in
    rw (stop.1, stop.2) (refuses _ _ _ _ _
    (stops_at_decl (known c.args.around.now) c.args.depth _ _ _ _ _ _
    (sym c.sees_decl.ensures ∙ c.loop-alloc-test.true)
    c.loop-alloc.invariant c.in_ok-start.ensures) c.in_err-decl.ensures)

pub loop-alloc-smaller : goal.loop-alloc-smaller
loop-alloc-smaller g c =
    shorter (known c.args.around.now) c.args.depth _ _ _ _ c.loop-alloc.decls.items _ _ _ _
    c.in_ok-start.ensures c.in_ok-decl.ensures c.skip-ended.ensures

pub loop-alloc-preserved : goal.loop-alloc-preserved
loop-alloc-preserved g c = rw c.in_ok-push.ensures.items
    (one_turn (known c.args.around.now) c.args.depth c.args.tokens.now _ _ _ _
    c.loop-alloc.decls.items _ _ _ _
    (sym c.sees_decl.ensures ∙ c.loop-alloc-test.true) c.loop-alloc.invariant
    c.in_ok-start.ensures c.in_ok-decl.ensures c.skip-ended.ensures)

pub returns : goal.returns
returns g c =
    all_read (known c.args.around.now) c.args.depth _ _ _ _
    (sym c.sees_decl.ensures ∙ c.loop-alloc-test.false) c.loop-alloc.invariant
    ∙ ap (λ xs. Ok (xs, c.loop-alloc.tokens)) (sym c.from_vec.ensures)
