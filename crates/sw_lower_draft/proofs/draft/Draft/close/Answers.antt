use Rattle.std.proofs.Common.{rules}
use Rattle.sw_lower_draft.proofs.Going.{still_going}
use Rattle.sw_lower_draft.proofs.draft.Draft.close.Goals as goal

pub invariant_of-self : goal.invariant_of-self
invariant_of-self c =
    record { going = still_going _ _ _ _ _ c.patch.ensures (search rules) }
