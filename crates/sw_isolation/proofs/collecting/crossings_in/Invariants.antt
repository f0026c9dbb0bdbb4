use Rattle.std.proofs.Common.{◌≡◌, ◌++◌, drop}
use Rattle.sw_isolation_rules.specs.Lists.{races_in}
use Rattle.sw_isolation.proofs.collecting.crossings_in.Given as goal

-- the crossings so far, and those of the notes that are left
abbrev pub invariant-loop-note : goal.invariant-loop-note
invariant-loop-note l = l.crossings ++ races_in (drop l.note-index l.notes)
    ≡ races_in l.notes
