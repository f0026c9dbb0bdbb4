-- Lemmas on the step of an item and its event.
use Rattle.std.proofs.Common.{◌≡◌, ℕ, Some, None, ap, ◌∙◌}
use Rattle.sw_graph.specs.declared.graph.Graph.{Graph}
use Rattle.sw_value.specs.declared.effect.Act.{Act}
use Rattle.sw_value.specs.declared.state.State.{State}
use Rattle.sw_value.specs.Act.{act_of}
use Rattle.sw_value.specs.Reach.{after_act, step_of}
use Rattle.sw_value.proofs.ReachLemmas.{after_acts, step_by_act}
use Rattle.sw_step.specs.declared.event.Event.TheVariants.{Nothing}
use Rattle.sw_step.specs.Event.{act_event, event_by, event_of}

-- nothing happens
pub step_nothing : (graph : Graph) (state : State) (item : ℕ) → act_of graph state item ≡ None
    → step_of graph state item ≡ state
step_nothing graph state item e = step_by_act graph state item ∙ ap (λ a. after_acts item a state) e

pub event_nothing : (graph : Graph) (state : State) (item : ℕ) → act_of graph state item ≡ None
    → event_of graph state item ≡ Nothing
unfolding event_of
event_nothing graph state item e = ap event_by e

-- the job does an act
pub step_act : (graph : Graph) (state : State) (item : ℕ) (act : Act)
    → act_of graph state item ≡ Some act → step_of graph state item ≡ after_act item act state
step_act graph state item act e = step_by_act graph state item ∙ ap (λ a. after_acts item a state) e

pub event_act : (graph : Graph) (state : State) (item : ℕ) (act : Act)
    → act_of graph state item ≡ Some act → event_of graph state item ≡ act_event act
unfolding event_of
event_act graph state item act e = ap event_by e

pub ruleset steps = (step_nothing, event_nothing, step_act, event_act)
