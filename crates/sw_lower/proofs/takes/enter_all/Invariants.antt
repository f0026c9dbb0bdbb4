use Rattle.std.proofs.Common.{◌≡◌, drop}
use Rattle.sw_lower_draft.specs.Drafts.{making_of}
use Rattle.sw_lower_code.specs.Code.{all}
use Rattle.sw_lower_code.specs.Whole.{enter}
use Rattle.sw_lower.proofs.takes.enter_all.Given as goal

-- what is left to take goes on where the whole would
abbrev pub invariant-loop-taken : goal.invariant-loop-taken
invariant-loop-taken l =
    (all enter (drop l.taken-index l.takes)).run (making_of l.draft)
    ≡ (all enter l.takes).run (making_of l.fn.draft)
