-- What was made so far, with what is left to make, is the whole.
use Rattle.std.proofs.Common.{◌≡◌, drop}
use Rattle.sw_lower_draft.specs.Drafts.{making_of}
use Rattle.sw_lower_code.specs.Code.{each}
use Rattle.sw_lower_stmt.specs.Parts.{arm_number}
use Rattle.sw_lower_uses.specs.Gathering.{each_after}
use Rattle.sw_lower_stmt.proofs.cases.arm_numbers.Given as goal

abbrev pub invariant-loop-arm : goal.invariant-loop-arm
invariant-loop-arm l =
    each_after (arm_number l.subject l.number l.shape) (drop l.arm-index l.arms) l.blocks
    (making_of l.draft)
    ≡ (each (arm_number l.subject l.number l.shape) l.arms).run (making_of l.fn.draft)
