use Rattle.std.proofs.Common.{◌≡◌, ◌≤◌}
use Rattle.sw_color_rules.specs.Names.{name_in}
use Rattle.sw_color_rules.specs.Parents.{roots}
use Rattle.sw_color.proofs.names.root.Given as goal

abbrev pub invariant-loop-next : goal.invariant-loop-next
invariant-loop-next l =
    (name_in (roots l.parents) l.at ≡ name_in (roots l.parents) l.number) × (l.at ≤ l.number)

abbrev pub decreases-loop-next : goal.decreases-loop-next
decreases-loop-next l = l.at
