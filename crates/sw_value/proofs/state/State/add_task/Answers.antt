use Rattle.std.proofs.Common.{◌∷◌, [], sym, subst, ap, ◌∙◌}
use Rattle.sw_value.specs.Busy.{held, IsBusy}
use Rattle.sw_value.proofs.BusyLemmas.{busy_more, held_new}
use Rattle.sw_value.proofs.state.State.add_task.Goals as goal

pub invariant_of-self-in-Ok : goal.invariant_of-self-in-Ok
invariant_of-self-in-Ok c =
    subst (IsBusy c.self.inside.busy) (sym c.in-Ok.ensures.ok)
    (busy_more c.self.inside.busy c.self.inside.jobs c.in_ok-made.made c.self.invariant
    (ap held c.in_ok-made.ensures ∙ held_new (c.args.frame ∷ [])))
