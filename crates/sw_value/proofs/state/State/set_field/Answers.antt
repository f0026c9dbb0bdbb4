use Rattle.sw_value.specs.Job.{in_top}
use Rattle.sw_value.specs.Frame.{set_field}
use Rattle.sw_value.proofs.BusyLemmas.{busy_kept, held_field}
use Rattle.sw_value.proofs.state.State.set_field.Goals as goal

pub invariant_of-self : goal.invariant_of-self
invariant_of-self c =
    busy_kept (in_top (set_field c.args.reg c.args.part c.args.value c.args.next))
    c.self.inside.busy c.self.inside.jobs c.args.job
    c.at_mut.result.now c.set_field.new.self c.self.invariant c.at_mut.ensures.value
    c.set_field.ensures
    (held_field c.args.reg c.args.part c.args.value c.args.next c.at_mut.result.now)
