use Rattle.std.proofs.Common.{◌≡◌, ◌++◌, drop}
use Rattle.sw_isolation_rules.specs.Lists.{refusals_in}
use Rattle.sw_isolation.proofs.collecting.refusals_in.Given as goal

-- the refusals so far, and those of the notes that are left
abbrev pub invariant-loop-note : goal.invariant-loop-note
invariant-loop-note l = l.refusals ++ refusals_in (drop l.note-index l.notes)
    ≡ refusals_in l.notes
