use Rattle.sw_region_flow.proofs.testing.test.Goals as goal

pub returns-in-Need : goal.returns-in-Need
returns-in-Need c = rw c.in-Need.is c.given_away.ensures.breach

pub returns-in-Free : goal.returns-in-Free
returns-in-Free c = rw c.in-Free.is c.not_given.ensures
