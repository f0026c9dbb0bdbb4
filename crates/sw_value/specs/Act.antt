-- What an item of a schedule makes its job do.
use Rattle.std.specs.Prelude.{ℕ, Option, Some, None, slice_get, length, is_some, option_map}
use Rattle.std.specs.Prelude.{option_and_then, if◌then◌else◌}
use Rattle.sw_graph.specs.declared.graph.Graph.{Graph}
use Rattle.sw_value.specs.declared.frame.Frame.{Frame}
use Rattle.sw_value.specs.declared.job.Job.{Job}
use Rattle.sw_value.specs.declared.job.Status.{Status}
use Rattle.sw_value.specs.declared.job.Status.TheVariants.{Ready, Running, Waiting, Ended}
use Rattle.sw_value.specs.declared.state.State.{State}
use Rattle.sw_value.specs.declared.effect.Effect.{Effect}
use Rattle.sw_value.specs.declared.effect.Effect.TheVariants as effect
use Rattle.sw_value.specs.declared.effect.Act.{Act}
use Rattle.sw_value.specs.declared.effect.Act.TheVariants.{Dispatch, Wake, Execute}
use Rattle.sw_value.specs.Job.{top_frame}
use Rattle.sw_value.specs.State.{is_free, result_of}
use Rattle.sw_value.specs.Effect.{effect_of}

-- an instruction that is stuck is not executed
abbrev pub execution_of : Effect → Option Act
execution_of effect.Stuck = None
execution_of e = Some (Execute e)

-- a job that is ready begins to run if its executor is free
abbrev pub dispatch_of : State → Frame → Option Act
dispatch_of state frame = if is_free frame.executor state.jobs then Some Dispatch else None

-- one that waits goes on if what it waits for has ended, and one that runs executes its next
-- instruction
abbrev pub act_by : Graph → State → Job → Status → Option Act
act_by graph state job Ready = option_and_then (dispatch_of state) (top_frame job)
act_by graph state job (Waiting on r) = option_map (Wake on r) (result_of state on)
act_by graph state job Running =
    option_and_then (λ frame. execution_of (effect_of graph state (length job.frames) frame))
    (top_frame job)
act_by graph state job (Ended v) = None

-- What the item j makes job j do: nothing where the machine is halted or j is no job.
unfoldable pub act_of : Graph → State → ℕ → Option Act
act_of graph state j =
    if is_some state.halted then None
    else option_and_then (λ job. act_by graph state job job.status) (slice_get state.jobs j)
