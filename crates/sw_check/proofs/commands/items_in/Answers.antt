use Rattle.std.proofs.lemmas.Result.{err_from_is_err_and}
use Rattle.std.proofs.Common.{subst}
use Rattle.sw_check_parts.specs.Leaves.{Decides}
use Rattle.sw_check_parts.proofs.Doing.{does_on, does_stop, does_alone}
use Rattle.sw_check.specs.Reply.{Scheduled}
use Rattle.sw_check.proofs.commands.items_in.Goals as goal

pub returns-in_err-text : goal.returns-in_err-text
returns-in_err-text g c =
    let p = err_from_is_err_and c.from_residual.result c.from_residual.ensures.1 in
    rw (p.1, p.2) (does_stop _ c.in_err-text.field-0.0 c.in_err-text.ensures.done)

pub returns : goal.returns
returns g c =
    does_on c.in_ok-text.ensures.done (does_alone (Scheduled c.in_ok-text.text) c.scheduled.result
    (subst (λ text. Decides (Scheduled text) c.scheduled.result) c.as_slice.ensures
    c.scheduled.ensures))
