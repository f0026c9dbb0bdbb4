use Rattle.std.proofs.Common.{sym, subst}
use Rattle.sw_value.specs.Reach.{Reached}
use Rattle.sw_value.proofs.ReachLemmas.{step_reached}
use Rattle.sw_step.proofs.EventLemmas.{nothing_says, trapped_says}
use Rattle.sw_step.proofs.stepping.step.Goals as goal

pub returns-clause-nothing : goal.returns-clause-nothing
returns-clause-nothing c =
    rw c.in_ok-event.ensures.event (nothing_says c.args.graph.now c.args.state.now c.args.item)

pub returns-clause-trapped : goal.returns-clause-trapped
returns-clause-trapped c = λ kind at.
    rw (c.in_ok-event.ensures.event, c.in_ok-event.ensures.steps)
    (trapped_says c.args.graph.now c.args.state.now c.args.item kind at)

pub returns-clause-reached : goal.returns-clause-reached
returns-clause-reached c = λ reached.
    subst (Reached c.args.graph.now) (sym c.in_ok-event.ensures.steps)
    (step_reached c.args.graph.now c.args.state.now c.args.item reached)
