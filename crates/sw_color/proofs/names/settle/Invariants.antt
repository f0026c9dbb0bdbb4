use Rattle.std.proofs.Common.{◌≡◌}
use Rattle.sw_color_rules.specs.Names.{name_in}
use Rattle.sw_color_rules.specs.Parents.{roots}
use Rattle.sw_color.proofs.names.settle.Given as goal

abbrev pub invariant-loop-next : goal.invariant-loop-next
invariant-loop-next l =
    (roots l.parents ≡ roots l.fn.parents) × (name_in (roots l.fn.parents) l.at ≡ l.name)

abbrev pub decreases-loop-next : goal.decreases-loop-next
decreases-loop-next l = l.at
