use Rattle.std.proofs.Common.{◌≡◌, ◌∙◌, sym, append-nil}
use Rattle.sw_step.proofs.StepLemmas.{event_act, event_nothing}
use Rattle.sw_see_events.proofs.HappeningLemmas.{happening_nothing}
use Rattle.sw_see_events.proofs.watching.Walk.take.Goals as goal

-- src/watching.rt:62:13
pub returns-in_default-clause-lines : goal.returns-in_default-clause-lines
returns-in_default-clause-lines c =
    rw (event_nothing _ _ _ (sym c.in_ok-act.ensures ∙ c.in_default.is)) (sym (append-nil _))

-- src/watching.rt:62:13
pub returns-in_default-clause-happenings : goal.returns-in_default-clause-happenings
returns-in_default-clause-happenings c =
    rw (happening_nothing _ _ _ (sym c.in_ok-act.ensures ∙ c.in_default.is)) (sym (append-nil _))

-- src/watching.rt:52:5
pub returns-clause-lines : goal.returns-clause-lines
returns-clause-lines c = rw (
  event_act _ _ _ _ (sym c.in_ok-act.ensures ∙ c.in-Some.is),
  sym c.in_ok-event.ensures.event,
) c.add_line.ensures
