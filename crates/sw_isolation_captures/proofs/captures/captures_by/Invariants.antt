use Rattle.std.proofs.Common.{◌≡◌, ◌++◌, drop, map}
use Rattle.std.specs.Prelude.{flat_map}
use Rattle.sw_isolation_rules.specs.Lists.{capture_of, held_in}
use Rattle.sw_isolation_captures.proofs.captures.captures_by.Given as goal

-- the captures so far, and those of the notes that are left
abbrev pub invariant-loop-note : goal.invariant-loop-note
invariant-loop-note l =
    l.captures ++ map (capture_of l.vars) (flat_map held_in (drop l.note-index l.notes))
    ≡ map (capture_of l.vars) (flat_map held_in l.notes)
