use Rattle.std.proofs.Common.{◌≡◌, true, sym, ◌∙◌, drop, arith}
use Rattle.std.proofs.lemmas.List.{take_rest}
use Rattle.sw_token.specs.Operators.{runs_on}
use Rattle.sw_token.proofs.OperatorLemmas.{run_on}
use Rattle.sw_token.proofs.operators.run_len.Goals as goal

pub loop-len-preserved : goal.loop-len-preserved
loop-len-preserved c =
    let on = rw (take_rest c.args.bytes.now c.loop-len.len) at c.runs_on.ensures in
    let runs : runs_on (drop c.loop-len.len c.args.bytes.now) ≡ true =
    sym on ∙ c.loop-len-test.true in
    let run = run_on c.args.bytes.now c.loop-len.len c.loop-len.invariant.inside runs in
    record { so_far = omega (arith, run.1); inside = omega (arith, run.0) }
