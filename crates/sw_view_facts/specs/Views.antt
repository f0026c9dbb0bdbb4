-- The view of a coloured state: what is known of its jobs and frames, and which colours they hold.
use Rattle.std.specs.Prelude.{ℕ, zero, suc, Bool, true, false, not, ◌&&◌, ◌||◌, ◌==◌, Option, Some}
use Rattle.std.specs.Prelude.{None, List, [], length, slice_get, slice_index_or, if◌then◌else◌}
use Rattle.std.specs.Prelude.{option_and_then}
use Rattle.std.specs.Option.{option_map, option_map_or}
use Rattle.sw_types.specs.declared.isolation.Iso.{Iso}
use Rattle.sw_types.specs.declared.isolation.Iso.TheVariants as iso
use Rattle.sw_graph.specs.declared.function.Function.{Function}
use Rattle.sw_graph.specs.declared.graph.Graph.{Graph}
use Rattle.sw_graph.specs.Bodies.{is_own, is_actor_initialiser, makes_actor, makes_object}
use Rattle.sw_graph.specs.Points.{Point, End, point_in}
use Rattle.sw_graph.specs.declared.instr.Last.TheVariants.{Return}
use Rattle.sw_graph.specs.Sure.{point_before}
use Rattle.sw_value.specs.declared.executor.Executor.{Executor}
use Rattle.sw_value.specs.declared.executor.Executor.TheVariants as executor
use Rattle.sw_value.specs.declared.frame.Frame.{Frame}
use Rattle.sw_value.specs.declared.job.Job.{Job}
use Rattle.sw_value.specs.declared.state.State.{State}
use Rattle.sw_value.specs.declared.value.Value.{Value}
use Rattle.sw_value.specs.Job.{is_running}
use Rattle.sw_value.specs.Value.{value_at, reference_of}
use Rattle.sw_solve.specs.Annotation as annotation
use Rattle.sw_partition.specs.Regions.{Regions}
use Rattle.sw_region_ops.specs.Elements.{elements_of, element_at}
use Rattle.sw_owner_facts.specs.Colours.{Actor, Instance, GlobalActor, Colour, OfJob}
use Rattle.sw_owner_facts.specs.Colours as owned
use Rattle.sw_owner_facts.specs.View.{Element, FunctionIsolation, Nonisolated, IsolatedTo}
use Rattle.sw_owner_facts.specs.View.{MakesActor, FrameShape, View, above, Frame as Spot}
use Rattle.sw_region_facts.specs.FrameRegions.{region_in, live_in}
use Rattle.sw_reach_facts.specs.Reached.{colours_of}

-- the colours of the cells, and those of the frames' `Here`, by job, from the bottom
pub record Colours : Type 0 where
  pub cells : List (Option Colour)
  pub heres : List (List Colour)

-- ---- frames
abbrev pub frame_at : State → Spot → Option Frame
frame_at state p = option_and_then (λ (job : Job). slice_get job.frames p.depth)
    (slice_get state.jobs p.job)

abbrev pub frame_under : State → ℕ → ℕ → Option Frame
frame_under state job zero = None
frame_under state job (suc depth) = frame_at state (record { job = job; depth = depth })

abbrev pub function_of : Graph → Option Frame → Option Function
function_of graph frame =
    option_and_then (λ (f : Frame). slice_get graph.functions f.function) frame

-- ---- shapes
abbrev pub on_actor : Option ℕ → FunctionIsolation
on_actor (Some c) = IsolatedTo (Instance c)
on_actor None = Nonisolated

abbrev pub isolation_by : Iso → List (Option Value) → FunctionIsolation
isolation_by iso.Free regs = Nonisolated
isolation_by iso.Caller regs = Nonisolated
isolation_by (iso.Global g) regs = IsolatedTo (GlobalActor g)
isolation_by iso.Own regs = on_actor (option_and_then reference_of (value_at regs 0))

abbrev pub isolation_in : Function → List (Option Value) → FunctionIsolation
isolation_in function regs =
    if is_actor_initialiser function then MakesActor else isolation_by function.iso regs

abbrev pub stands_on : Executor → owned.Executor
stands_on executor.Generic = owned.Generic
stands_on (executor.ActorOf c) = owned.On (Instance c)
stands_on (executor.Global g) = owned.On (GlobalActor g)

abbrev pub makes_itself : Graph → Function → Point → Bool
makes_itself graph function point =
    (is_own function.iso && makes_actor function.result point)
    || makes_object graph.shapes function point

abbrev pub is_return : Option Point → Bool
is_return (Some (End (Return s))) = true
is_return _ = false

-- The frame stands at a return, directly after the instruction that makes the actor, or the object
-- of a class with a global actor, of which its function is the initialiser.
abbrev pub closes : Graph → Function → Option Point → Option Point → Bool
closes graph function here None = false
closes graph function here (Some before) = is_return here && makes_itself graph function before

-- the same of the frame's point
abbrev pub closes_at : Graph → Function → ℕ → Bool
closes_at graph function p = closes graph function (point_in function p) (point_before function p)

-- register r of a function, if it is tracked
abbrev pub tracked_in : Graph → ℕ → Function → Option ℕ
tracked_in graph r function =
    option_map (λ _. r) (element_at (elements_of graph.shapes function.regs) r)

abbrev pub result_in : Graph → Option Function → Frame → Function → Option ℕ
result_in graph under frame function =
    if function.sends then None else option_and_then (tracked_in graph frame.result) under

abbrev pub no_shape : FrameShape
no_shape = record {
  isolation = Nonisolated;
  executor = owned.Generic;
  crossing = true;
  closing = false;
  result = None;
}

abbrev pub shape_with : Graph → Option Function → Frame → Option Function → FrameShape
shape_with graph under frame None = no_shape
shape_with graph under frame (Some function) = record {
  isolation = isolation_in function frame.regs;
  executor = stands_on frame.executor;
  crossing = frame.crossing;
  closing = closes_at graph function frame.point;
  result = result_in graph under frame function;
}

abbrev pub shape_by : Graph → Option Function → Option Frame → FrameShape
shape_by graph under None = no_shape
shape_by graph under (Some frame) =
    shape_with graph under frame (slice_get graph.functions frame.function)

-- ---- regions
abbrev pub elements_with : Graph → Option Function → List (Option ℕ)
elements_with graph None = []
elements_with graph (Some function) = elements_of graph.shapes function.regs

-- the elements of the registers of a frame
abbrev pub elements_in : Graph → Option Frame → List (Option ℕ)
elements_in graph frame = elements_with graph (function_of graph frame)

abbrev pub region_by : List (Option ℕ) → Option Regions → Element → ℕ
region_by elements None x = 0
region_by elements (Some state) x = region_in elements state x

-- whether the register waits for the result of the frame above
abbrev pub waits : Option ℕ → ℕ → Bool
waits None r = false
waits (Some result) r = r == result

abbrev pub live_with : List (Option ℕ) → Option Regions → ℕ → Bool
live_with elements None r = false
live_with elements (Some state) r = live_in elements state r

abbrev pub live_by : List (Option ℕ) → Option ℕ → Option Regions → ℕ → Bool
live_by elements awaits state r = not (waits awaits r) && live_with elements state r

-- ---- colours
abbrev pub colours_by : State → Colours → Option Frame → ℕ → List Colour
colours_by state colours None r = []
colours_by state colours (Some frame) r =
    option_map_or (colours_of state.cells colours.cells) (value_at frame.regs r) []

abbrev pub here_at : Colours → Spot → Colour
here_at colours p =
    slice_index_or (slice_index_or colours.heres p.job []) p.depth (OfJob p.job 0)

-- the register in which a frame waits for a result
abbrev pub awaited_by : State → Spot → Option ℕ
awaited_by state p = option_map (λ (f : Frame). f.result) (frame_at state (above p))

-- The view of a coloured state, where `regions` says which region state a frame is in.
abbrev pub view_of : Graph → (Spot → Option Regions) → State → Colours → View
view_of graph regions state colours = record {
  running = λ j. option_map_or is_running (slice_get state.jobs j) false;
  height = λ j. option_map_or (λ (job : Job). length job.frames) (slice_get state.jobs j) 0;
  shape = λ p. shape_by graph (function_of graph (frame_under state p.job p.depth))
      (frame_at state p);
  here = here_at colours;
  live = λ p r. live_by (elements_in graph (frame_at state p)) (awaited_by state p) (regions p) r;
  region = λ p x. region_by (elements_in graph (frame_at state p)) (regions p) x;
  colours = λ p r. colours_by state colours (frame_at state p) r;
}

-- the region state of a frame in an annotation: that at its point
abbrev pub state_with : (ℕ → List (Option Regions)) → Option Frame → Option Regions
state_with states None = None
state_with states (Some frame) = annotation.value_at (states frame.function) frame.point

abbrev pub annotated : (ℕ → List (Option Regions)) → State → Spot → Option Regions
annotated states state p = state_with states (frame_at state p)

-- the view in which each frame is in the region state of its point
abbrev pub view_at : Graph → (ℕ → List (Option Regions)) → State → Colours → View
view_at graph states state colours = view_of graph (annotated states state) state colours

-- frame q is in this state, and each other one where it was
abbrev pub over : (Spot → Option Regions) → Spot → Regions → Spot → Option Regions
over regions q state p =
    if (p.job == q.job) && (p.depth == q.depth) then Some state else regions p
