use Rattle.std.proofs.Common.{◌≡◌, ◌++◌, drop, map}
use Rattle.sw_lower_known.specs.Knowledge.{tables_by}
use Rattle.sw_lower_rules.specs.Expressions.{capture_taken}
use Rattle.sw_lower.proofs.takes.add_captures.Given as goal

-- what was added so far, with what is left to add, is the whole
abbrev pub invariant-loop-capture : goal.invariant-loop-capture
invariant-loop-capture l =
    l.takes ++ map (capture_taken (tables_by l.known) l.owner) (drop l.capture-index l.captures)
    ≡ l.fn.takes ++ map (capture_taken (tables_by l.known) l.owner) l.captures
