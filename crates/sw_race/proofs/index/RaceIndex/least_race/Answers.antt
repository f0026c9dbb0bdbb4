use Rattle.std.proofs.Common.{◌∙◌}
use Rattle.sw_race.proofs.UpdateLemmas.{clear_no_race}
use Rattle.sw_race.proofs.index.RaceIndex.least_race.Goals as goal

pub returns-then-self : goal.returns-then-self
returns-then-self c =
    clear_no_race c.args.graph.now c.args.state.now c.self.inside.targets
    (c.self.view_is ∙ c.requires.stands) (c.self.invariant.is_clear c.if-self.true)
