use Rattle.std.proofs.Common.{◌∙◌}
use Rattle.sw_race.proofs.IndexLemmas.{pop_indexed}
use Rattle.sw_race.proofs.index.RaceIndex.shrink.Goals as goal

pub invariant_of-self : goal.invariant_of-self
invariant_of-self c =
    pop_indexed c.self.inside.uses c.self.inside.clear c.self.inside.targets c.pop-last.new.self
    c.pop-last.result c.requires.0 (c.self.view_is ∙ c.requires.1) c.pop-last.ensures
    c.self.invariant
