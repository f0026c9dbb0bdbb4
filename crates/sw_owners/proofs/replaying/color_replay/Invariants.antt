use Rattle.std.proofs.Common.{◌≡◌, ◌++◌}
use Rattle.sw_replay.specs.Left.{items_left}
use Rattle.sw_owners.proofs.Turns.{IsColored}
use Rattle.sw_owners.proofs.replaying.color_replay.Given as goal

abbrev pub invariant-loop-item : goal.invariant-loop-item
invariant-loop-item l =
    (l.yielded ++ items_left l.item-iterator ≡ l.schedule)
    × IsColored l.graph l.yielded l.colored l.lines.items
