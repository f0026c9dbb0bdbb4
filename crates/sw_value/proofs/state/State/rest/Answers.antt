use Rattle.std.proofs.Common.{sym}
use Rattle.std.proofs.Common.{None}
use Rattle.sw_value.specs.Job.{rest}
use Rattle.sw_value.proofs.BusyLemmas.{held_there, busy_changed, held_resting}
use Rattle.sw_value.proofs.state.State.rest.Goals as goal

pub release-requires : goal.release-requires
release-requires c = record {
  there = held_there c.self.inside.busy c.self.inside.jobs c.args.job c.at.result.now
      c.held-held.result c.self.invariant c.at.ensures c.held-held.ensures;
}

pub invariant_of-self : goal.invariant_of-self
invariant_of-self c =
    busy_changed (rest c.args.reg c.args.next) c.self.inside.busy c.release.new.busy
    c.self.inside.jobs c.args.job
    c.at.result.now c.at_mut.result.now c.rest.new.self c.held-held.result None c.self.invariant
    c.at.ensures c.at_mut.ensures.value c.rest.ensures c.held-held.ensures
    (sym (held_resting c.args.reg c.args.next c.at.result.now)) c.release.ensures
