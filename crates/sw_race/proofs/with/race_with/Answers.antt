use Rattle.std.proofs.Common.{sym, subst, ◌∙◌}
use Rattle.sw_race.specs.With.{IsLeastRaceOf}
use Rattle.sw_race.proofs.WithLemmas.{found_rival}
use Rattle.sw_race.proofs.with.race_with.Goals as goal

pub returns : goal.returns
returns c =
    subst (IsLeastRaceOf c.args.graph.now c.args.state.now c.args.job) (sym c.ordered.ensures)
    (found_rival c.args.graph.now c.args.state.now c.args.job c.in_ok-access.access
    c.in_ok-rival.rival (sym c.next_access.ensures ∙ c.in_ok-access.was)
    c.in_ok-rival.ensures.0 c.in_ok-rival.ensures.1)
