-- The event of an item: what it made its job do.
use Rattle.std.specs.Prelude.{ℕ, Option, Some, None}
use Rattle.sw_graph.specs.declared.graph.Graph.{Graph}
use Rattle.sw_value.specs.declared.state.State.{State}
use Rattle.sw_value.specs.declared.effect.Effect.{Effect}
use Rattle.sw_value.specs.declared.effect.Effect.TheVariants as effect
use Rattle.sw_value.specs.declared.effect.Act.{Act}
use Rattle.sw_value.specs.declared.effect.Act.TheVariants.{Dispatch, Wake, Execute}
use Rattle.sw_value.specs.Act.{act_of}
use Rattle.sw_step.specs.declared.event.Event.{Event}
use Rattle.sw_step.specs.declared.event.Event.TheVariants.{Nothing, Dispatched, Woken, Ran, Printed}
use Rattle.sw_step.specs.declared.event.Event.TheVariants.{Trapped}

-- a line that is printed and a trap have events of their own; an instruction that is stuck is not
-- executed
abbrev pub effect_event : Effect → Event
effect_event (effect.Print r line next) = Printed line
effect_event (effect.Halt kind at) = Trapped kind at
effect_event effect.Stuck = Nothing
effect_event _ = Ran

abbrev pub act_event : Act → Event
act_event Dispatch = Dispatched
act_event (Wake ended r v) = Woken ended
act_event (Execute e) = effect_event e

abbrev pub event_by : Option Act → Event
event_by None = Nothing
event_by (Some act) = act_event act

unfoldable pub event_of : Graph → State → ℕ → Event
event_of graph state item = event_by (act_of graph state item)
