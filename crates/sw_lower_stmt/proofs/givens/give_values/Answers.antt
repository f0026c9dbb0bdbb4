use Rattle.std.proofs.lemmas.Result.{err_from_is_err_and}
use Rattle.sw_lower_draft.specs.Drafts.{making_of}
use Rattle.sw_lower_known.specs.Knowledge.{tables_by}
use Rattle.sw_lower_stmt.proofs.GivenValues.{block_gives, gives_end, gives_fail, gives_next}
use Rattle.sw_lower_stmt.specs.Giving.{values_given}
use Rattle.sw_lower_stmt.proofs.givens.give_values.Goals as goal

pub loop-one-preserved : goal.loop-one-preserved
loop-one-preserved c =
    gives_next (tables_by c.args.known.now) c.args.owner c.as_slice-one-items.result.now
    c.loop-one.one-index (values_given c.loop-one.values) (making_of c.loop-one.draft) _
    c.loop-one.invariant c.one-item.result (values_given c.give.new.values)
    (making_of c.give.new.draft) c.loop-one-test.true c.one-item.is c.in_ok-give.ensures

pub returns-in_err-give : goal.returns-in_err-give
returns-in_err-give c =
    let p = err_from_is_err_and c.from_residual.result c.from_residual.ensures.1 in
    rw (p.1, p.2) (λ other.
    rw (block_gives (tables_by c.args.known.now) c.args.owner c.args.tree.now
    c.as_slice-one-items.result.now c.as_slice-one-items.ensures)
    (gives_fail (tables_by c.args.known.now) c.args.owner c.as_slice-one-items.result.now
    c.loop-one.one-index (values_given c.loop-one.values) (making_of c.loop-one.draft) _
    c.loop-one.invariant c.one-item.result _ c.loop-one-test.true c.one-item.is
    (c.in_err-give.ensures other)))

pub returns : goal.returns
returns c =
    rw (block_gives (tables_by c.args.known.now) c.args.owner c.args.tree.now
    c.as_slice-one-items.result.now c.as_slice-one-items.ensures)
    (gives_end (tables_by c.args.known.now) c.args.owner c.as_slice-one-items.result.now
    c.loop-one.one-index (values_given c.loop-one.values) (making_of c.loop-one.draft) _
    c.loop-one.invariant c.loop-one-test.false)
