use Rattle.sw_value.specs.Job.{leave}
use Rattle.sw_value.proofs.BusyLemmas.{held_there, busy_changed}
use Rattle.sw_value.proofs.state.State.leave.Goals as goal

pub replace-requires : goal.replace-requires
replace-requires c = record {
  there = held_there c.self.inside.busy c.self.inside.jobs c.args.job c.at-there.result.now
      c.held-held.result c.self.invariant c.at-there.ensures c.held-held.ensures;
}

pub invariant_of-self-then-job-len : goal.invariant_of-self-then-job-len
invariant_of-self-then-job-len c =
    busy_changed (leave c.args.value) c.self.inside.busy c.replace.new.busy c.self.inside.jobs
    c.args.job c.at-there.result.now c.at_mut.result.now c.leave.new.self c.held-held.result
    c.held_left-later.result c.self.invariant c.at-there.ensures c.at_mut.ensures.value
    c.leave.ensures c.held-held.ensures (c.held_left-later.ensures c.args.value)
    c.in_ok-replace.ensures.ok
