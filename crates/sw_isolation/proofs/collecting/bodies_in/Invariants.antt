use Rattle.std.proofs.Common.{◌≡◌, ◌++◌, drop}
use Rattle.sw_isolation_rules.specs.Lists.{bodies_in}
use Rattle.sw_isolation.proofs.collecting.bodies_in.Given as goal

-- the bodies so far, and those of the notes that are left
abbrev pub invariant-loop-note : goal.invariant-loop-note
invariant-loop-note l = l.bodies ++ bodies_in (drop l.note-index l.notes)
    ≡ bodies_in l.notes
