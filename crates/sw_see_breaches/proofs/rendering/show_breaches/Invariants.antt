use Rattle.std.proofs.Common.{◌≡◌, ◌++◌, drop}
use Rattle.sw_see_breaches.specs.Shown.{shown_breaches}
use Rattle.sw_see_breaches.proofs.rendering.show_breaches.Given as goal

-- what is shown so far and what is to be shown of the breaches that are left is what is shown of all
abbrev pub invariant-loop-breach : goal.invariant-loop-breach
invariant-loop-breach l =
    l.shown.items ++ shown_breaches l.paint l.file l.bytes (drop l.breach-index l.list)
    ≡ shown_breaches l.paint l.file l.bytes l.list
