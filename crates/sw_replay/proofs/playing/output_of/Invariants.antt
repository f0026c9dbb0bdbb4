use Rattle.std.proofs.Common.{◌≡◌, ◌++◌}
use Rattle.sw_replay.specs.Left.{items_left}
use Rattle.sw_replay.specs.Output.{IsPlayed}
use Rattle.sw_replay.proofs.playing.output_of.Given as goal

abbrev pub invariant-loop-item : goal.invariant-loop-item
invariant-loop-item l =
    (l.yielded ++ items_left l.item-iterator ≡ l.schedule)
    × IsPlayed l.graph l.yielded l.played.state l.played.lines.items
