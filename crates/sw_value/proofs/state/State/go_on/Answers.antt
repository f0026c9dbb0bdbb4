use Rattle.sw_value.specs.Job.{in_top}
use Rattle.sw_value.specs.Frame.{go_on}
use Rattle.sw_value.proofs.BusyLemmas.{busy_kept, held_going}
use Rattle.sw_value.proofs.state.State.go_on.Goals as goal

pub invariant_of-self : goal.invariant_of-self
invariant_of-self c =
    busy_kept (in_top (go_on c.args.next)) c.self.inside.busy c.self.inside.jobs c.args.job
    c.at_mut.result.now c.go_on.new.self c.self.invariant c.at_mut.ensures.value c.go_on.ensures
    (held_going c.args.next c.at_mut.result.now)
