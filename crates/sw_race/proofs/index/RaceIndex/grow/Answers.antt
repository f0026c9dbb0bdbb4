use Rattle.sw_race.proofs.IndexLemmas.{push_indexed}
use Rattle.sw_race.proofs.index.RaceIndex.grow.Goals as goal

pub invariant_of-self : goal.invariant_of-self
invariant_of-self c =
    push_indexed c.self.inside.uses c.self.inside.clear c.self.inside.targets c.push.new.self
    c.push.result c.push.ensures.ok c.push.ensures.err c.self.invariant
