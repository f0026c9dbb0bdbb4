use Rattle.sw_check.specs.Reply.{has_items}
use Rattle.sw_check.proofs.PartLemmas.{scheduled_refused}
use Rattle.sw_check.proofs.parts.scheduled.Goals as goal

pub returns-in-Ok : goal.returns-in-Ok
returns-in-Ok c = has_items c.in-Ok.schedule c.in-Ok.ensures.items

pub returns-in_ok-bad_schedule-in-Err : goal.returns-in_ok-bad_schedule-in-Err
returns-in_ok-bad_schedule-in-Err c =
    scheduled_refused c.args.text.now c.in-Err.fault c.in_ok-bad_schedule-in-Err.field-0
    c.in_ok-bad_schedule-in-Err.ensures.outcome c.in-Err.ensures.fault
