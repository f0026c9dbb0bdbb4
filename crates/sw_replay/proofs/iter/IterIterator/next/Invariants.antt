use Rattle.std.proofs.Common.{◌≡◌, length}
use Rattle.sw_replay.specs.Left.{items_left}
use Rattle.sw_replay.proofs.iter.IterIterator.next.Given as goal

abbrev pub invariant-loop-self : goal.invariant-loop-self
invariant-loop-self l = items_left l.self ≡ items_left l.initial.self

abbrev pub decreases-loop-self : goal.decreases-loop-self
decreases-loop-self l = length l.self.runs.now
