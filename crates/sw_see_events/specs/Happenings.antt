-- What the events of items are, for people.
use Rattle.std.specs.Prelude.{ℕ, Bool, Option, Some, None, List, [], ◌∷◌, ◌++◌, option_map}
use Rattle.std.specs.Prelude.{option_and_then, option_to_list, slice_get, if◌then◌else◌}
use Rattle.sw_graph.specs.declared.graph.Graph.{Graph}
use Rattle.sw_value.specs.declared.effect.Act.{Act}
use Rattle.sw_value.specs.declared.effect.Act.TheVariants.{Dispatch, Execute, Wake}
use Rattle.sw_value.specs.declared.effect.Effect.{Effect}
use Rattle.sw_value.specs.declared.effect.Effect.TheVariants as effect
use Rattle.sw_value.specs.declared.executor.Executor.{Executor}
use Rattle.sw_value.specs.declared.frame.Frame.{Frame}
use Rattle.sw_value.specs.declared.race.Access.{Access}
use Rattle.sw_value.specs.declared.state.State.{State}
use Rattle.sw_value.specs.Reach.{step_of}
use Rattle.sw_value.specs.Start.{start_of}
use Rattle.sw_value.specs.Transition.{Transition, executor_of_top, transition_of}
use Rattle.sw_see_events.specs.Position.{stands_at}
use Rattle.sw_see_events.specs.declared.happening.Deed.{Deed}
use Rattle.sw_see_events.specs.declared.happening.Deed.TheVariants as deed
use Rattle.sw_see_events.specs.declared.happening.Happening.{Happening}

-- the executor to which a call crosses
abbrev pub called : Frame → Option Executor
called frame = if frame.crossing then Some frame.executor else None

-- What an effect does. An instruction that is stuck isn't executed.
abbrev pub effect_deed : Effect → Bool → Deed
effect_deed (effect.Set r v next) ends = deed.Computes
effect_deed (effect.SetField r i v next) ends = deed.Computes
effect_deed (effect.Print r line next) ends = deed.Prints line
effect_deed (effect.New r cell number next) ends = deed.Makes number
effect_deed (effect.Write c slot v next) ends = deed.Computes
effect_deed (effect.WriteGlobal g v next) ends = deed.Computes
effect_deed (effect.Goto next) ends = deed.Jumps
effect_deed (effect.Enter frame next) ends = deed.Calls (called frame)
effect_deed (effect.Spawn r frame job cell next) ends = deed.Starts job
effect_deed (effect.Wait on r next) ends = deed.Waits on
effect_deed (effect.Rest r next) ends = deed.Yields
effect_deed (effect.Leave v) ends = if ends then deed.Ends else deed.Returns
effect_deed (effect.Halt kind at) ends = deed.Traps kind
effect_deed effect.Stuck ends = deed.Computes

-- what an act does, by whether it ends its job
abbrev pub act_deed : Act → Bool → Deed
act_deed Dispatch ends = deed.Runs
act_deed (Wake ended r v) ends = deed.Resumes ended
act_deed (Execute e) ends = effect_deed e ends

-- the executor of the top call of a job
unfoldable pub executor_at : State → ℕ → Option Executor
executor_at state j = option_and_then executor_of_top (slice_get state.jobs j)

-- what a transition from a state is
abbrev pub happening_by : Graph → State → Transition → Happening
happening_by graph state t = record {
  job = t.job;
  at = stands_at graph state t.job;
  executor = executor_at state t.job;
  access = t.accesses;
  deed = act_deed t.act t.ends;
}

-- what an item is, if it changes something
unfoldable pub happening_of : Graph → State → ℕ → Option Happening
happening_of graph state item =
    option_map (happening_by graph state) (transition_of graph state item)

abbrev pub happenings_from : Graph → State → List ℕ → List Happening
happenings_from graph state [] = []
happenings_from graph state (item ∷ items) =
    option_to_list (happening_of graph state item)
    ++ happenings_from graph (step_of graph state item) items

-- what the items of a list are from the start on, in order: those that change something
unfoldable pub happenings : Graph → List ℕ → List Happening
happenings graph items = happenings_from graph (start_of graph) items

-- the job of an event and the access that it makes
pub record Noted : Type 0 where
  pub job : ℕ
  pub access : Option Access

abbrev pub noted : Happening → Noted
noted happening = record { job = happening.job; access = happening.access }

abbrev pub noted_of : Transition → Noted
noted_of t = record { job = t.job; access = t.accesses }
