use Rattle.std.proofs.Common.{◌≡◌, refl, sym, subst, ◌∙◌}
use Rattle.std.specs.Prelude.{IfOk}
use Rattle.sw_step.proofs.StepLemmas.{event_act, event_nothing}
use Rattle.sw_hb.proofs.ClockedLemmas.{clocked_still, idle_few}
use Rattle.sw_hb.proofs.JobLemmas.{step_none}
use Rattle.sw_hb.proofs.clocked.clock_step.Goals as goal

pub returns-in_ok-push-in-None-clause-steps : goal.returns-in_ok-push-in-None-clause-steps
returns-in_ok-push-in-None-clause-steps c =
    sym (step_none c.args.graph.now c.args.clocked.now.state c.args.item
    (sym c.in_ok-act_of.ensures ∙ c.in-None.is))

pub returns-in_ok-push-in-None-clause-event : goal.returns-in_ok-push-in-None-clause-event
returns-in_ok-push-in-None-clause-event c =
    sym (event_nothing c.args.graph.now c.args.clocked.now.state c.args.item
    (sym c.in_ok-act_of.ensures ∙ c.in-None.is))

pub returns-in_ok-push-in-None-clause-few : goal.returns-in_ok-push-in-None-clause-few
returns-in_ok-push-in-None-clause-few c =
    idle_few c.args.graph.now c.args.clocked.now c.args.item c.requires.clocked
    (sym c.in_ok-act_of.ensures ∙ c.in-None.is)

pub returns-in_ok-push-in-None-clause-clocked : goal.returns-in_ok-push-in-None-clause-clocked
returns-in_ok-push-in-None-clause-clocked c =
    clocked_still c.args.graph.now c.args.clocked.now _ c.args.item c.requires.clocked
    (sym c.in_ok-act_of.ensures ∙ c.in-None.is) refl c.in_ok-push-in-None.ensures.ok refl

pub returns-in-Some-clause-event : goal.returns-in-Some-clause-event
returns-in-Some-clause-event c =
    subst (λ e. IfOk c.take.result (λ event. event ≡ e))
    (sym (event_act c.args.graph.now c.args.clocked.now.state c.args.item c.in-Some.act
    (sym c.in_ok-act_of.ensures ∙ c.in-Some.is))) c.take.ensures.event
