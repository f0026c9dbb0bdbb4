use Rattle.std.proofs.lemmas.Result.{err_from_is_err_and}
use Rattle.sw_lower_draft.specs.Drafts.{making_of}
use Rattle.sw_lower_stmt.proofs.Arms.{joins_end, joins_fail, joins_next}
use Rattle.sw_lower_stmt.proofs.walk.join_all.Goals as goal

pub loop-merge-preserved : goal.loop-merge-preserved
loop-merge-preserved c =
    joins_next c.loop-merge.merges c.pop.new.self c.in-Some.merge (making_of c.loop-merge.draft) _
    c.loop-merge.invariant (making_of c.join_in.new.draft) c.in-Some.ensures
    c.in_ok-join_in.ensures

pub returns-in_err-join_in : goal.returns-in_err-join_in
returns-in_err-join_in c =
    let p = err_from_is_err_and c.from_residual.result c.from_residual.ensures.1 in
    rw (p.1, p.2) (λ other. joins_fail c.loop-merge.merges c.pop.new.self c.in-Some.merge
    (making_of c.loop-merge.draft) _ c.loop-merge.invariant _ c.in-Some.ensures
    (c.in_err-join_in.ensures other))

pub returns : goal.returns
returns c =
    joins_end c.loop-merge.merges (making_of c.loop-merge.draft) _ c.loop-merge.invariant
    c.in_default.ensures.0
