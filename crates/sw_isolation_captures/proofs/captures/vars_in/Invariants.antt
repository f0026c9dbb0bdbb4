use Rattle.std.proofs.Common.{◌≡◌, ◌++◌, drop}
use Rattle.sw_isolation_rules.specs.Lists.{vars_in}
use Rattle.sw_isolation_captures.proofs.captures.vars_in.Given as goal

-- the keys so far, and those of the notes that are left
abbrev pub invariant-loop-note : goal.invariant-loop-note
invariant-loop-note l = l.vars ++ vars_in (drop l.note-index l.notes) ≡ vars_in l.notes
