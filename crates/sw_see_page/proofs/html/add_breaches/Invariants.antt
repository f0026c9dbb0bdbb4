use Rattle.std.proofs.Common.{◌≡◌, ◌++◌, drop}
use Rattle.sw_see_page.specs.Page.{breaches_shown}
use Rattle.sw_see_page.proofs.html.add_breaches.Given as goal

-- what is made so far and the breaches that are left are what was there and all breaches
abbrev pub invariant-loop-breach : goal.invariant-loop-breach
invariant-loop-breach l =
    l.made.items ++ breaches_shown l.text (drop l.breach-index l.breaches)
    ≡ l.fn.made.items ++ breaches_shown l.text l.breaches
