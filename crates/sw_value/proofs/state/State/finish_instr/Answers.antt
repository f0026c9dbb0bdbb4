use Rattle.sw_value.specs.Job.{in_top}
use Rattle.sw_value.specs.Frame.{finish_instr}
use Rattle.sw_value.proofs.BusyLemmas.{busy_kept, held_finished}
use Rattle.sw_value.proofs.state.State.finish_instr.Goals as goal

pub invariant_of-self : goal.invariant_of-self
invariant_of-self c =
    busy_kept (in_top (finish_instr c.args.reg c.args.value c.args.next)) c.self.inside.busy
    c.self.inside.jobs c.args.job
    c.at_mut.result.now c.finish_instr.new.self c.self.invariant c.at_mut.ensures.value
    c.finish_instr.ensures (held_finished c.args.reg c.args.value c.args.next c.at_mut.result.now)
