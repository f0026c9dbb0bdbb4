use Rattle.sw_region_flow.proofs.Tests.{either_given, either_free}
use Rattle.sw_region_flow.proofs.testing.not_given.Goals as goal

pub returns-in-Some : goal.returns-in-Some
returns-in-Some c = either_given c.args.x c.args.at c.args.code c.args.state.now
    c.given_away.result c.in-Some.breach c.in-Some.is c.given_away.ensures.breach

pub returns-in-None : goal.returns-in-None
returns-in-None c = either_free c.args.x c.args.at c.args.code c.args.state.now c.not_free.result
    (c.given_away.ensures.none c.in-None.is) c.not_free.ensures
