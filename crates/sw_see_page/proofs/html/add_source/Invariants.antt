use Rattle.std.proofs.Common.{◌≡◌, ◌++◌, drop}
use Rattle.sw_see_page.specs.Page.{lines_shown}
use Rattle.sw_see_page.proofs.html.add_source.Given as goal

-- what is made so far and the lines that are left are what was there and all lines
abbrev pub invariant-loop-byte : goal.invariant-loop-byte
invariant-loop-byte l =
    (l.made.items ++ lines_shown l.text l.at l.start l.left (drop l.byte-index l.byte-items)
    ≡ l.fn.made.items ++ lines_shown l.text 0 0 l.breaches l.text)
    × (l.at ≡ l.byte-index)
