use Rattle.std.proofs.Common.{◌≡◌, ◌++◌, drop}
use Rattle.sw_isolation_rules.specs.Lists.{kinds_in}
use Rattle.sw_isolation.proofs.collecting.kinds_in.Given as goal

-- the kinds so far, and those of the notes that are left
abbrev pub invariant-loop-note : goal.invariant-loop-note
invariant-loop-note l = l.kinds ++ kinds_in (drop l.note-index l.notes)
    ≡ kinds_in l.notes
