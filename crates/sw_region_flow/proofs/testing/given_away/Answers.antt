use Rattle.std.proofs.Common.{ℕ}
use Rattle.sw_partition.specs.Regions.{HasSomePair}
use Rattle.sw_region_flow.proofs.Tests.{given_none, given_some, none_has}
use Rattle.sw_region_flow.proofs.testing.given_away.Goals as goal

pub returns-in-Some-clause-breach : goal.returns-in-Some-clause-breach
returns-in-Some-clause-breach c =
    given_some c.args.x c.args.at c.args.state.now c.in-Some.site c.in-Some.ensures.least

pub returns-in-None-clause-breach : goal.returns-in-None-clause-breach
returns-in-None-clause-breach c = given_none c.args.x c.args.at c.args.state.now
    (none_has ℕ (HasSomePair c.args.state.now c.args.x) c.in-None.ensures.given)

pub returns-in-None-clause-none : goal.returns-in-None-clause-none
returns-in-None-clause-none c = λ e has.
    none_has ℕ (HasSomePair c.args.state.now c.args.x) c.in-None.ensures.given has
