use Rattle.std.proofs.lemmas.Result.{on_ok_weaker}
use Rattle.sw_region_flow.specs.Walks.{TestFails}
use Rattle.sw_region_flow.proofs.Visiting.{found_one, found_nothing}
use Rattle.sw_region_flow.proofs.walking.look.Goals as goal

pub returns-in-Some : goal.returns-in-Some
returns-in-Some c = on_ok_weaker c.push.result
    (λ e. found_one (TestFails c.args.op.now c.args.state.now) c.args.found.now c.push.new.self
    c.test.result c.in-Some.breach c.in-Some.is c.test.ensures e) c.push.ensures.ok

pub returns-in-None : goal.returns-in-None
returns-in-None c = found_nothing (TestFails c.args.op.now c.args.state.now) c.args.found.now
    c.test.result c.in-None.is c.test.ensures
