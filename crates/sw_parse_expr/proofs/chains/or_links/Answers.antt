use Rattle.std.proofs.Common.{refl, sym, ◌∙◌, ap, codes}
use Rattle.std.proofs.lemmas.Result.{err_from_is_err_and}
use Rattle.std.specs.Prelude.{Ok}
use Rattle.sw_grammar_forms.proofs.ItemLoops.{refuses}
use Rattle.sw_grammar.specs.Exprs.{conjunction}
use Rattle.sw_grammar.specs.Tokens.{infix_op, infix_in}
use Rattle.sw_parse_parts.specs.Around.{known}
use Rattle.sw_parse_expr.proofs.LinkLoops.{link_turn, stops_at_link, link_shorter, links_read}
use Rattle.sw_parse_expr.proofs.chains.or_links.Goals as goal

pub returns-in_err-or_link : goal.returns-in_err-or_link
returns-in_err-or_link g c =
    let stop = err_from_is_err_and c.from_residual.result c.from_residual.ensures.1 in
    rw (stop.1, stop.2) (refuses _ _ _ _ _
    (stops_at_link (known c.args.around.now) c.args.depth
    (infix_in (infix_op (codes "||")) (codes "||"))
    (conjunction (known c.args.around.now) c.args.closures) refl _ _
    c.loop-alloc.links.items
    (sym c.sees_operator.ensures ∙ c.loop-alloc-test.true) c.loop-alloc.invariant)
    c.in_err-or_link.ensures)

pub loop-alloc-smaller : goal.loop-alloc-smaller
loop-alloc-smaller g c =
    link_shorter (known c.args.around.now) c.args.depth
    (infix_in (infix_op (codes "||")) (codes "||"))
    (conjunction (known c.args.around.now) c.args.closures) refl _ _ _ c.in_ok-or_link.ensures

pub loop-alloc-preserved : goal.loop-alloc-preserved
loop-alloc-preserved g c = rw c.in_ok-push.ensures.items
    (link_turn (known c.args.around.now) c.args.depth
    (infix_in (infix_op (codes "||")) (codes "||"))
    (conjunction (known c.args.around.now) c.args.closures) refl _ _ _ c.loop-alloc.links.items _
    c.loop-alloc.invariant c.in_ok-or_link.ensures)

pub returns : goal.returns
returns g c =
    links_read (known c.args.around.now) c.args.depth
    (infix_in (infix_op (codes "||")) (codes "||"))
    (conjunction (known c.args.around.now) c.args.closures) refl _ _
    c.loop-alloc.links.items
    (sym c.sees_operator.ensures ∙ c.loop-alloc-test.false) c.loop-alloc.invariant
    ∙ ap (λ xs. Ok (xs, c.loop-alloc.tokens)) (sym c.from_vec.ensures)
