-- Late colours: the coloured machine in which what a job hands over to an actor stays the job's until
-- the job is dispatched on that actor. What a job hands over where it runs itself is the actor's at
-- once.
use Rattle.std.specs.Prelude.{ℕ, ◌==◌, Bool, Option, Some, None, List, [], ◌∷◌, ◌++◌, map, flat_map, fold, slice_get}
use Rattle.std.specs.Prelude.{false, filter, not, option_and_then, if◌then◌else◌}
use Rattle.std.specs.Option.{option_map_or}
use Rattle.sw_graph.specs.declared.graph.Graph.{Graph}
use Rattle.sw_graph.specs.Points.{Point}
use Rattle.sw_value.specs.declared.executor.Executor.{Executor}
use Rattle.sw_value.specs.declared.executor.Executor.TheVariants as executor
use Rattle.sw_value.specs.declared.frame.Frame.{Frame}
use Rattle.sw_value.specs.declared.state.State.{State}
use Rattle.sw_value.specs.declared.effect.Effect.{Effect}
use Rattle.sw_value.specs.declared.effect.Effect.TheVariants as effect
use Rattle.sw_value.specs.declared.effect.Act.{Act}
use Rattle.sw_value.specs.declared.effect.Act.TheVariants.{Dispatch, Execute}
use Rattle.sw_value.specs.Act.{act_of}
use Rattle.sw_value.specs.Executor.{is_same}
use Rattle.sw_value.specs.Frame.{point_at}
use Rattle.sw_value.specs.Job.{top_frame}
use Rattle.sw_value.specs.Reach.{step_of}
use Rattle.sw_value.specs.Start.{start_of}
use Rattle.sw_color_rules.specs.declared.colors.Colors.{Colors}
use Rattle.sw_color_rules.specs.declared.plan.Plan.{Plan}
use Rattle.sw_color_rules.specs.Changes.{Change, Merge, HandOver, after_changes}
use Rattle.sw_color_rules.specs.Plans.{makings, merges, number_on, called_number, plan_of}
use Rattle.sw_color_rules.specs.Machine.{start_colors}

-- what a job takes to an actor: colours that become the actor's when the job is dispatched
pub record Cargo : Type 0 where
  pub job : ℕ
  -- the actor's colour
  pub actor : ℕ
  pub colors : List ℕ

pub record Late : Type 0 where
  pub state : State
  pub colors : Colors
  pub cargo : List Cargo

-- ---- calls and tasks
-- Whether a task runs where the job that makes it doesn't: on an actor that isn't that job's.
abbrev pub goes_away : Executor → Executor → Bool
goes_away own executor.Generic = false
goes_away own other = not (is_same own other)

-- The colour of the actor or global actor on which a frame begins before its job is there. The top
-- frame is that of the job that calls or makes a task.
abbrev pub destination_by : Colors → Frame → Point → Effect → Option ℕ
destination_by colors top point (effect.Enter frame next) =
    if frame.crossing then called_number colors point frame else None
destination_by colors top point (effect.Spawn r frame made cell next) =
    if goes_away top.executor frame.executor then number_on colors frame.executor else None
destination_by colors top point _ = None

abbrev pub destination_at : Graph → Colors → Effect → Frame → Option ℕ
destination_at graph colors e top =
    option_and_then (λ point. destination_by colors top point e) (point_at graph top)

abbrev pub destination : Graph → State → Colors → ℕ → Act → Option ℕ
destination graph state colors job (Execute e) =
    option_and_then (destination_at graph colors e)
    (option_and_then top_frame (slice_get state.jobs job))
destination graph state colors job _ = None

-- the colours that a plan merges with the first one
abbrev pub later_of : List ℕ → List ℕ
later_of [] = []
later_of (n ∷ ns) = ns

-- what a task takes becomes the new job's
abbrev pub givings : Option ℕ → List ℕ → List Change
givings None ns = []
givings (Some heir) ns = map (λ n. HandOver n heir) ns

-- Colours merge, unless they go to an actor first.
abbrev pub merges_here : Option ℕ → List ℕ → List Change
merges_here None ns = merges ns
merges_here (Some actor) ns = []

abbrev pub late_by : ℕ → Plan → Option ℕ → List Change
late_by job plan to =
    makings job plan ++ (givings plan.heir (later_of plan.joined) ++ merges_here to plan.joined)

-- the job that takes them: the new one of a task, or the one that calls
abbrev pub carrier : ℕ → Option ℕ → ℕ
carrier job None = job
carrier job (Some heir) = heir

abbrev pub cargo_by : ℕ → Plan → Option ℕ → List Cargo
cargo_by job plan None = []
cargo_by job plan (Some actor) = record {
  job = carrier job plan.heir;
  actor = actor;
  colors = later_of plan.joined;
} ∷ []

-- ---- dispatch
abbrev pub is_of : ℕ → Cargo → Bool
is_of job cargo = cargo.job == job

abbrev pub is_left : ℕ → Cargo → Bool
is_left job cargo = not (is_of job cargo)

-- what was taken to an actor becomes the actor's
abbrev pub delivery : Cargo → List Change
delivery cargo = map (Merge cargo.actor) cargo.colors

abbrev pub deliveries : List Cargo → List Change
deliveries cargo = flat_map delivery cargo

-- ---- the machine
-- the changes of an act, one after the other
abbrev pub late_changes : Graph → Late → ℕ → Act → List Change
late_changes graph late job Dispatch = deliveries (filter (is_of job) late.cargo)
late_changes graph late job act =
    late_by job (plan_of graph late.state late.colors job act)
    (destination graph late.state late.colors job act)

-- and what jobs take to actors after it
abbrev pub late_cargo : Graph → Late → ℕ → Act → List Cargo
late_cargo graph late job Dispatch = filter (is_left job) late.cargo
late_cargo graph late job act = late.cargo
    ++ cargo_by job (plan_of graph late.state late.colors job act)
    (destination graph late.state late.colors job act)

abbrev pub late_start : Graph → Late
late_start graph = record { state = start_of graph; colors = start_colors graph; cargo = [] }

-- the state after one item
unfoldable pub late_step : Graph → Late → ℕ → Late
late_step graph late j = record {
  state = step_of graph late.state j;
  colors = after_changes
      (option_map_or (late_changes graph late j) (act_of graph late.state j) []) late.colors;
  cargo = option_map_or (late_cargo graph late j) (act_of graph late.state j) late.cargo;
}

-- and after a list of items, of any length
unfoldable pub late_reach : Graph → List ℕ → Late
late_reach graph items = fold (late_step graph) (late_start graph) items
