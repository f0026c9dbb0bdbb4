-- What is left to do from here is what there was to do.
use Rattle.std.proofs.Common.{◌≡◌, length}
use Rattle.sw_lower_draft.specs.Drafts.{making_of}
use Rattle.sw_lower_stmt.specs.Parts.{joined_all}
use Rattle.sw_lower_stmt.proofs.walk.join_all.Given as goal

abbrev pub invariant-loop-merge : goal.invariant-loop-merge
invariant-loop-merge l = (joined_all l.merges).run (making_of l.draft)
    ≡ (joined_all l.fn.merges).run (making_of l.fn.draft)

abbrev pub decreases-loop-merge : goal.decreases-loop-merge
decreases-loop-merge l = length l.merges
