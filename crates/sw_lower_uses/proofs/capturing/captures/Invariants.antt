-- What the other captures give, after what was given, is the whole.
use Rattle.std.proofs.Common.{◌≡◌, drop}
use Rattle.sw_lower_draft.specs.Drafts.{making_of}
use Rattle.sw_lower_code.specs.Code.{each}
use Rattle.sw_lower_known.specs.Knowledge.{tables_by}
use Rattle.sw_lower_rules.specs.Uses.{capture}
use Rattle.sw_lower_uses.specs.Gathering.{each_after}
use Rattle.sw_lower_uses.proofs.capturing.captures.Given as goal

abbrev pub invariant-loop-one : goal.invariant-loop-one
invariant-loop-one l =
    (each (capture (tables_by l.known) l.at) l.one-items).run (making_of l.fn.draft)
    ≡ each_after (capture (tables_by l.known) l.at) (drop l.one-index l.one-items) l.operands
    (making_of l.draft)
