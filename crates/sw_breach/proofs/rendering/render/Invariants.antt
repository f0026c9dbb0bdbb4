use Rattle.std.proofs.Common.{◌≡◌, ◌++◌, drop}
use Rattle.sw_breach.specs.Lines.{breach_lines}
use Rattle.sw_breach.proofs.rendering.render.Given as goal

-- the text so far and the lines of the breaches that are left are the lines of all
abbrev pub invariant-loop-breach : goal.invariant-loop-breach
invariant-loop-breach l =
    l.text.items ++ breach_lines l.bytes (drop l.breach-index l.list) ≡ breach_lines l.bytes l.list
