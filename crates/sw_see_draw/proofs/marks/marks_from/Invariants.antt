use Rattle.std.proofs.Common.{◌≡◌, ◌+◌, ◌≤◌, ◌++◌, drop}
use Rattle.sw_see_draw.specs.Marks.{mark_of, marks_from}
use Rattle.sw_see_draw.proofs.marks.marks_from.Given as goal

-- the marks made so far, and those of the one that isn't ended and of the events that are left, are
-- all of them
abbrev pub invariant-loop-event : goal.invariant-loop-event
invariant-loop-event l =
    (l.made.items ++ marks_from l.joins l.mark l.number (drop l.event-index l.events)
    ≡ marks_from l.joins (mark_of 1 l.first) 2 l.events)
    × (l.number ≡ 2 + l.event-index) × (l.mark.count ≤ l.number)
