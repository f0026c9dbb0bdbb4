use Rattle.sw_see_find.specs.Found.{RacesBy}
use Rattle.sw_see_find.proofs.shortening.Shortening.leave_out_pieces.Given as goal

abbrev pub invariant-loop-end : goal.invariant-loop-end
invariant-loop-end l = RacesBy l.graph l.self.text

abbrev pub decreases-loop-end : goal.decreases-loop-end
decreases-loop-end l = l.end
