-- The step of an item, and the states that items lead to.
use Rattle.std.specs.Prelude.{◌≡◌, ℕ, Option, Some, None, List, [], ◌∷◌, fold}
use Rattle.sw_graph.specs.declared.graph.Graph.{Graph}
use Rattle.sw_value.specs.declared.value.Value.TheVariants as value
use Rattle.sw_value.specs.declared.cell.HeapCell.TheVariants.{TaskOf}
use Rattle.sw_value.specs.declared.state.State.{State}
use Rattle.sw_value.specs.declared.effect.Effect.{Effect}
use Rattle.sw_value.specs.declared.effect.Effect.TheVariants as effect
use Rattle.sw_value.specs.declared.effect.Act.{Act}
use Rattle.sw_value.specs.declared.effect.Act.TheVariants.{Dispatch, Wake, Execute}
use Rattle.sw_value.specs.Cell.{with_slot}
use Rattle.sw_value.specs.Frame.{finish_instr, go_on, set_field}
use Rattle.sw_value.specs.Job.{in_top, dispatch, wake, enter, wait, rest, leave, new_job}
use Rattle.sw_value.specs.State.{in_job, add_job, add_cell, in_cell, set_global, halt}
use Rattle.sw_value.specs.Transition.{Transition, transition_of}
use Rattle.sw_value.specs.Start.{start_of}

-- job j executes an instruction with that effect
abbrev pub after_effect : ℕ → Effect → State → State
after_effect j (effect.Set r v next) state = in_job (in_top (finish_instr r v next)) j state
after_effect j (effect.SetField r i v next) state =
    in_job (in_top (set_field r i v next)) j state
after_effect j (effect.Print r line next) state =
    in_job (in_top (finish_instr r value.Unit next)) j state
after_effect j (effect.New r cell number next) state =
    in_job (in_top (finish_instr r (value.Cell number) next)) j (add_cell cell state)
after_effect j (effect.Write c slot v next) state =
    in_job (in_top (go_on next)) j (in_cell (with_slot slot v) c state)
after_effect j (effect.WriteGlobal g v next) state =
    in_job (in_top (go_on next)) j (set_global g v state)
after_effect j (effect.Goto next) state = in_job (in_top (go_on next)) j state
after_effect j (effect.Enter frame next) state = in_job (enter frame next) j state
after_effect j (effect.Wait on r next) state = in_job (wait on r next) j state
after_effect j (effect.Rest r next) state = in_job (rest r next) j state
after_effect j (effect.Spawn r frame job cell next) state =
    in_job (in_top (finish_instr r (value.Cell cell) next)) j
    (add_cell (TaskOf job) (add_job (new_job (frame ∷ [])) state))
after_effect j (effect.Leave v) state = in_job (leave v) j state
after_effect j (effect.Halt kind at) state = halt kind at state
after_effect j effect.Stuck state = state

abbrev pub after_act : ℕ → Act → State → State
after_act j Dispatch state = in_job dispatch j state
after_act j (Wake ended r v) state = in_job (wake r v) j state
after_act j (Execute e) state = after_effect j e state

abbrev pub after : Option Transition → State → State
after None state = state
after (Some t) state = after_act t.job t.act state

-- the state after one item
unfoldable pub step_of : Graph → State → ℕ → State
step_of graph state item = after (transition_of graph state item) state

-- the state after a list of items, of any length
unfoldable pub reach : Graph → List ℕ → State
reach graph items = fold (step_of graph) (start_of graph) items

-- some items lead to the state
pub record Reached (graph : Graph) (state : State) : Type 0 where
  pub items : List ℕ
  pub gives : reach graph items ≡ state
