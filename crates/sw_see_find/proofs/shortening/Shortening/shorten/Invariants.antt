use Rattle.sw_see_find.specs.Found.{RacesBy}
use Rattle.sw_see_find.proofs.shortening.Shortening.shorten.Given as goal

abbrev pub invariant-loop-size : goal.invariant-loop-size
invariant-loop-size l = RacesBy l.graph l.self.text

abbrev pub decreases-loop-size : goal.decreases-loop-size
decreases-loop-size l = l.size
