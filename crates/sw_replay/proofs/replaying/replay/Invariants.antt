use Rattle.std.proofs.Common.{◌≡◌, ◌++◌}
use Rattle.sw_replay.specs.Left.{items_left}
use Rattle.sw_replay.proofs.WatchLemmas.{IsOnWay}
use Rattle.sw_replay.proofs.replaying.replay.Given as goal

abbrev pub invariant-loop-item : goal.invariant-loop-item
invariant-loop-item l =
    (l.yielded ++ items_left l.item-iterator ≡ l.schedule)
    × IsOnWay l.graph l.yielded l.played.state l.played.lines.items l.index
