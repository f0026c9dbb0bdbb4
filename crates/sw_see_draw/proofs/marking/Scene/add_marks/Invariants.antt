use Rattle.std.proofs.Common.{◌≡◌, ◌++◌, drop}
use Rattle.sw_see_draw.specs.Marking.{marks_drawn}
use Rattle.sw_see_draw.proofs.marking.Scene.add_marks.Given as goal

-- what is made so far and the marks that are left are what was there and all marks
abbrev pub invariant-loop-mark : goal.invariant-loop-mark
invariant-loop-mark l =
    (l.made.items ++ marks_drawn l.self l.column (drop l.mark-index l.marks)
    ≡ l.fn.made.items ++ marks_drawn l.self 0 l.marks)
    × (l.column ≡ l.mark-index)
