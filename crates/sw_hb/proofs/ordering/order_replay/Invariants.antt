use Rattle.std.proofs.Common.{◌≡◌, ◌++◌}
use Rattle.sw_replay.specs.Left.{items_left}
use Rattle.sw_hb.proofs.TurnLemmas.{IsTaken}
use Rattle.sw_hb.proofs.ordering.order_replay.Given as goal

abbrev pub invariant-loop-item : goal.invariant-loop-item
invariant-loop-item l =
    (l.yielded ++ items_left l.item-iterator ≡ l.schedule)
    × IsTaken l.graph l.yielded l.clocked l.lines.items
