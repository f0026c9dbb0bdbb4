use Rattle.std.proofs.lemmas.Result.{err_from_is_err_and}
use Rattle.sw_lower_draft.specs.Drafts.{making_of}
use Rattle.sw_lower_known.specs.Knowledge.{tables_by}
use Rattle.sw_lower_stmt.proofs.Patterns.{patterns_end, patterns_fail, patterns_next}
use Rattle.sw_lower_stmt.proofs.variables.patterns.Goals as goal

pub loop-number-preserved : goal.loop-number-preserved
loop-number-preserved c =
    patterns_next (tables_by c.args.known.now) c.args.subject c.args.trees.now
    c.loop-number.number (making_of c.loop-number.draft) _ c.loop-number.invariant _
    (making_of c.pattern.new.draft) c.loop-number-test.true c.in_ok-pattern.ensures

pub returns-in_err-pattern : goal.returns-in_err-pattern
returns-in_err-pattern c =
    let p = err_from_is_err_and c.from_residual.result c.from_residual.ensures.1 in
    rw (p.1, p.2) (λ other. patterns_fail (tables_by c.args.known.now) c.args.subject
    c.args.trees.now c.loop-number.number (making_of c.loop-number.draft) _
    c.loop-number.invariant _ _ c.loop-number-test.true (c.in_err-pattern.ensures other))

pub returns : goal.returns
returns c =
    patterns_end (tables_by c.args.known.now) c.args.subject c.args.trees.now
    c.loop-number.number (making_of c.loop-number.draft) _ c.loop-number.invariant
    c.loop-number-test.false
