use Rattle.std.proofs.Common.{ap, ◌∙◌}
use Rattle.std.specs.List.{list_any}
use Rattle.sw_value.specs.Machine.{Machine}
use Rattle.sw_value.specs.Job.{runs_on}
use Rattle.sw_value.proofs.BusyLemmas.{free_by_busy}
use Rattle.sw_value.proofs.state.State.is_taken.Goals as goal

pub returns : goal.returns
returns c =
    c.is_among.ensures
    ∙ free_by_busy c.self.inside.busy c.self.inside.jobs c.args.executor c.self.invariant c.requires
    ∙ ap (λ (m : Machine). list_any (runs_on c.args.executor) m.jobs) c.self.view_is
