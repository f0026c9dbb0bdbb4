use Rattle.std.proofs.Common.{◌≡◌, ◌++◌}
use Rattle.sw_replay.specs.Left.{items_left}
use Rattle.sw_replay.proofs.WatchLemmas.{IsOnWay}
use Rattle.sw_see_events.specs.Happenings.{happenings}
use Rattle.sw_see_events.proofs.watching.watch.Given as goal

abbrev pub invariant-loop-item : goal.invariant-loop-item
invariant-loop-item l =
    (l.yielded ++ items_left l.item-iterator ≡ l.schedule)
    × IsOnWay l.graph l.yielded l.walk.state l.walk.lines.items l.index
    × (l.walk.happenings ≡ happenings l.graph l.yielded)
