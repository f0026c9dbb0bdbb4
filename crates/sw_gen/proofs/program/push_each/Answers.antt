use Rattle.std.proofs.Common.{◌∙◌, arith}
use Rattle.sw_gen.specs.Program.{filled}
use Rattle.sw_gen.proofs.Pieces.{one_more_number}
use Rattle.sw_gen.proofs.program.push_each.Goals as goal

pub loop-number-preserved : goal.loop-number-preserved
loop-number-preserved c =
    let i = c.loop-number.number in
    rw c.in_ok-push_filled.ensures
    (one_more_number (filled c.args.template.now) c.loop-number.text.items i c.args.n
    (omega (arith, c.loop-number-test.true))
    ∙ c.loop-number.invariant)
