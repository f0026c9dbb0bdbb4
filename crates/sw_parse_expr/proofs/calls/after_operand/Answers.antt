use Rattle.std.proofs.Common.{◌∙◌, sym, arith}
use Rattle.std.proofs.lemmas.Result.{err_from_is_err_and}
use Rattle.sw_grammar_forms.proofs.ItemLoops.{refuses}
use Rattle.sw_parse_parts.specs.Around.{known}
use Rattle.sw_parse_expr.proofs.MemberSteps.{members_end, stops_at_dot, member_turn}
use Rattle.sw_parse_expr.proofs.MemberSteps.{stops_at_member}
use Rattle.sw_parse_expr.proofs.calls.after_operand.Goals as goal

pub returns-in_err-open : goal.returns-in_err-open
returns-in_err-open g c =
    let stop = err_from_is_err_and c.from_residual.result c.from_residual.ensures.1 in
    rw (stop.1, stop.2) (refuses _ _ _ _ _
    (λ fault e. sym c.loop-alloc.invariant.1
    ∙ stops_at_dot (known c.args.around.now) c.loop-alloc.room c.loop-alloc.whole _
    (sym c.sees.ensures ∙ c.loop-alloc-test.true) fault e) c.in_err-open.ensures.opened)

pub member-requires : goal.member-requires
member-requires g c = λ k below.
    let some = c.loop-alloc.invariant.0 in
    let less = below in c.requires k (omega arith)

pub returns-in_err-whole : goal.returns-in_err-whole
returns-in_err-whole g c =
    let stop = err_from_is_err_and c.from_residual-in_err-whole.result
    c.from_residual-in_err-whole.ensures.1 in
    rw (stop.1, stop.2) (refuses _ _ _ _ _
    (λ fault e. sym c.loop-alloc.invariant.1
    ∙ stops_at_member (known c.args.around.now) c.loop-alloc.room c.loop-alloc.whole _ _ _
    (sym c.sees.ensures ∙ c.loop-alloc-test.true) c.in_ok-open.ensures.opened fault e)
    c.in_err-whole.ensures)

pub loop-alloc-smaller : goal.loop-alloc-smaller
loop-alloc-smaller g c = let some = c.in_ok-open.ensures.room in omega arith

pub loop-alloc-preserved : goal.loop-alloc-preserved
loop-alloc-preserved g c = (
  let within = c.loop-alloc.invariant.0 in omega arith,
  sym (member_turn (known c.args.around.now) c.loop-alloc.room c.loop-alloc.whole _ _ _ _ _
      (sym c.sees.ensures ∙ c.loop-alloc-test.true) c.in_ok-open.ensures.opened
      c.in_ok-whole.ensures) ∙ c.loop-alloc.invariant.1,
)

pub returns : goal.returns
returns g c =
    sym c.loop-alloc.invariant.1
    ∙ members_end (known c.args.around.now) c.loop-alloc.room c.loop-alloc.whole _
    (sym c.sees.ensures ∙ c.loop-alloc-test.false)
