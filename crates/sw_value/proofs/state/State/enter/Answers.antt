use Rattle.std.proofs.Common.{sym, subst}
use Rattle.sw_value.specs.Busy.{IsBusy}
use Rattle.sw_value.specs.Job.{enter}
use Rattle.sw_value.proofs.ListLemmas.{set_back}
use Rattle.sw_value.proofs.BusyLemmas.{held_there, out_there, busy_changed, busy_moved, busy_undone}
use Rattle.sw_value.proofs.state.State.enter.Goals as goal

pub release-requires : goal.release-requires
release-requires c = record {
  there = out_there c.held-held.result c.moved-out.result.0 c.self.inside.busy c.occupy.new.busy
      (held_there c.self.inside.busy c.self.inside.jobs c.args.job c.at-there.result.now
      c.held-held.result c.self.invariant c.at-there.ensures c.held-held.ensures)
      c.moved-out.ensures.out c.in_ok-occupy.ensures.more;
}

pub invariant_of-self-in-Ok : goal.invariant_of-self-in-Ok
invariant_of-self-in-Ok c =
    busy_changed (enter c.args.frame c.args.next) c.self.inside.busy c.release.new.busy
    c.self.inside.jobs c.args.job c.at-there.result.now c.at_mut.result.now c.enter.new.self
    c.held-held.result c.held_entered.result c.self.invariant c.at-there.ensures
    c.at_mut.ensures.value c.in-Ok.ensures.ok c.held-held.ensures
    (c.held_entered.ensures c.args.next)
    (busy_moved c.held-held.result c.held_entered.result c.moved-out.result.0
    c.moved-out.result.1 c.self.inside.busy c.occupy.new.busy c.release.new.busy
    c.moved-out.ensures.alike c.in_ok-occupy.ensures.ok c.release.ensures)

pub invariant_of-self-in-Err : goal.invariant_of-self-in-Err
invariant_of-self-in-Err c =
    subst (IsBusy c.release-in-Err.new.busy)
    (sym (set_back c.self.inside.jobs c.args.job c.at_mut.result.now c.enter.new.self
    c.at_mut.ensures.value c.in-Err.ensures.err))
    (busy_undone c.moved-out.result.1 c.self.inside.busy c.occupy.new.busy
    c.release-in-Err.new.busy c.self.inside.jobs c.in_ok-occupy.ensures.ok
    c.release-in-Err.ensures c.self.invariant)
