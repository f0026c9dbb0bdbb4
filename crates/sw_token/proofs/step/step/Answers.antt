use Rattle.std.proofs.Common.{arith, sym}
use Rattle.sw_token.proofs.FoundHolds.{found_inside}
use Rattle.sw_token.proofs.step.step.Goals as goal

pub fault_of-requires : goal.fault_of-requires
fault_of-requires c =
    omega (
      arith,
      found_inside c.args.before.is_white c.args.text.now c.in-Err.refusal c.utf8.text
          (sym c.in-Err.ensures),
    )
