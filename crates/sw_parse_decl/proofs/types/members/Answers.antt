use Rattle.std.proofs.Common.{sym, ◌∙◌, refl, []}
use Rattle.std.proofs.lemmas.Result.{err_from_is_err_and}
use Rattle.sw_grammar_forms.proofs.ItemLoops.{refuses}
use Rattle.sw_parse_parts.specs.Around.{known}
use Rattle.sw_parse_decl.proofs.MemberLoops.{stops_at_start, stops_at_member, one_turn, shorter}
use Rattle.sw_parse_decl.proofs.MemberLoops.{all_read}
use Rattle.sw_parse_decl.proofs.types.members.Goals as goal

pub loop-alloc-init : goal.loop-alloc-init
loop-alloc-init g c = ([], c.new-members.ensures, refl)

pub returns-in_err-start : goal.returns-in_err-start
returns-in_err-start g c =
    let stop = err_from_is_err_and c.from_residual.result c.from_residual.ensures.1 in
    rw (stop.1, stop.2) (refuses _ _ _ _ _
    (stops_at_start (known c.args.around.now) c.args.depth c.args.kind c.args.tokens.now _ _ _
    (sym c.sees_member.ensures ∙ c.loop-alloc-test.true) c.loop-alloc.invariant)
    c.in_err-start.ensures)

pub returns-in_err-members : goal.returns-in_err-members
returns-in_err-members g c =
    let stop = err_from_is_err_and c.from_residual-in_err-members.result
    c.from_residual-in_err-members.ensures.1 in
    rw (stop.1, stop.2) (refuses _ _ _ _ _
    (stops_at_member (known c.args.around.now) c.args.depth c.args.kind c.args.tokens.now _ _ _ _ _
    (sym c.sees_member.ensures ∙ c.loop-alloc-test.true) c.loop-alloc.invariant
    c.in_ok-start.ensures) c.in_err-members.ensures)

pub loop-alloc-smaller : goal.loop-alloc-smaller
loop-alloc-smaller g c =
    shorter (known c.args.around.now) c.args.depth c.args.kind _ _ _ _ _ _ _ _ _
    c.in_ok-start.ensures c.in_ok-members.ensures c.skip-ended.ensures

pub loop-alloc-preserved : goal.loop-alloc-preserved
loop-alloc-preserved g c =
    one_turn (known c.args.around.now) c.args.depth c.args.kind c.args.tokens.now _ _ _ _ _ _ _ _ _
    (sym c.sees_member.ensures ∙ c.loop-alloc-test.true) c.loop-alloc.invariant
    c.in_ok-start.ensures c.in_ok-members.ensures c.skip-ended.ensures

pub returns : goal.returns
returns g c =
    all_read (known c.args.around.now) c.args.depth c.args.kind c.args.tokens.now _ _ _
    (sym c.sees_member.ensures ∙ c.loop-alloc-test.false) c.loop-alloc.invariant
