use Rattle.std.proofs.lemmas.Result.{err_from_is_err_and}
use Rattle.sw_lower_draft.specs.Drafts.{number_by}
use Rattle.sw_lower.proofs.Lacking.{start_missing, still_fails}
use Rattle.sw_lower.proofs.numbers.starts_of.Goals as goal

pub returns-in_err-number_of-clause-fault : goal.returns-in_err-number_of-clause-fault
returns-in_err-number_of-clause-fault c =
    let p = err_from_is_err_and c.from_residual.result c.from_residual.ensures.1 in
    rw (p.1, p.2)
    (still_fails (start_missing (number_by c.args.numbers.now) c.args.globals.now
    c.loop-global.global-index c.global-item.result c.loop-global.starts c.loop-global-test.true
    c.global-item.is c.loop-global.invariant) _ c.in_err-number_of.ensures.fault)
