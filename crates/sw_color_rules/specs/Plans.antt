-- What each act does to colours: the plan of an act, and the changes that it stands for.
use Rattle.std.specs.Prelude.{ℕ, ◌-◌, Bool, true, false, Option, Some, None, List, [], ◌∷◌, ◌++◌, length}
use Rattle.std.specs.Prelude.{map, nat_lt, slice_get, option_map, option_and_then, if◌then◌else◌}
use Rattle.std.specs.Option.{option_map_or, option_to_list}
use Rattle.sw_types.specs.declared.isolation.CallKind.{CallKind}
use Rattle.sw_types.specs.declared.isolation.CallKind.TheVariants as kind
use Rattle.sw_types.specs.declared.isolation.Iso.{Iso}
use Rattle.sw_types.specs.declared.isolation.Iso.TheVariants as iso
use Rattle.sw_types.specs.Sendable.{sends_at}
use Rattle.sw_graph.specs.declared.graph.Graph.{Graph}
use Rattle.sw_graph.specs.declared.instr.Instr.TheVariants as instr
use Rattle.sw_graph.specs.Points.{Point, Middle}
use Rattle.sw_value.specs.declared.value.Value.{Value}
use Rattle.sw_value.specs.declared.cell.HeapCell.{HeapCell}
use Rattle.sw_value.specs.declared.cell.HeapCell.TheVariants.{Object, Actor, BoxOf, Closure, TaskOf}
use Rattle.sw_value.specs.declared.executor.Executor.{Executor}
use Rattle.sw_value.specs.declared.executor.Executor.TheVariants as executor
use Rattle.sw_value.specs.declared.frame.Frame.{Frame}
use Rattle.sw_value.specs.declared.state.State.{State}
use Rattle.sw_value.specs.declared.effect.Effect.{Effect}
use Rattle.sw_value.specs.declared.effect.Effect.TheVariants as effect
use Rattle.sw_value.specs.declared.effect.Act.{Act}
use Rattle.sw_value.specs.declared.effect.Act.TheVariants.{Execute}
use Rattle.sw_value.specs.Value.{value_at, reference_at}
use Rattle.sw_value.specs.Frame.{point_at}
use Rattle.sw_value.specs.Job.{top_frame}
use Rattle.sw_color_rules.specs.declared.colors.Owner.{Owner}
use Rattle.sw_color_rules.specs.declared.colors.Owner.TheVariants as owner
use Rattle.sw_color_rules.specs.declared.colors.Tint.{Tint}
use Rattle.sw_color_rules.specs.declared.colors.Tint.TheVariants.{Bare, Colored, Owns, Holds}
use Rattle.sw_color_rules.specs.declared.colors.Colors.{Colors}
use Rattle.sw_color_rules.specs.declared.plan.Plan.{Plan}
use Rattle.sw_color_rules.specs.declared.plan.FrameChange.{FrameChange}
use Rattle.sw_color_rules.specs.declared.plan.FrameChange.TheVariants.{Stays, Pushed, Begun, Popped}
use Rattle.sw_color_rules.specs.Tints.{held, color_number, owned_number, colors_in, colors_of, slot_colors}
use Rattle.sw_color_rules.specs.Tints.{in_order}
use Rattle.sw_color_rules.specs.Changes.{Change, Fresh, Mark, Push, Begin, Pop, Merge, HandOver}

-- ---- from a plan to changes
abbrev pub frame_changes : ℕ → FrameChange → List Change
frame_changes job Stays = []
frame_changes job (Pushed n) = Push job n ∷ []
frame_changes job (Begun n) = Begin n ∷ []
frame_changes job Popped = Pop job ∷ []

-- these colours become one
abbrev pub merges : List ℕ → List Change
merges [] = []
merges (a ∷ ns) = map (Merge a) ns

-- the first of these colours is handed over
abbrev pub handing : List ℕ → Option ℕ → List Change
handing (a ∷ ns) (Some job) = HandOver a job ∷ []
handing _ _ = []

-- what is made
abbrev pub makings : ℕ → Plan → List Change
makings job plan = option_to_list (option_map Fresh plan.fresh)
    ++ (option_to_list (option_map Mark plan.tint) ++ frame_changes job plan.frame)

-- and then what is merged and handed over
abbrev pub changes_by : ℕ → Plan → List Change
changes_by job plan = makings job plan ++ (merges plan.joined ++ handing plan.joined plan.heir)

-- ---- plans
abbrev pub no_plan : Plan
no_plan = record { fresh = None; tint = None; frame = Stays; joined = []; heir = None }

-- these colours become one
abbrev pub joining : List ℕ → Plan
joining ns = record no_plan { joined = ns }

-- the colour that is made next
abbrev pub next_color : Colors → ℕ
next_color colors = length colors.palette.names

abbrev pub last_of : List ℕ → Option ℕ
last_of ns = slice_get ns (length ns - 1)

-- the colour of the `Here` of a job's top frame, if it has one
unfoldable pub top_here : Colors → ℕ → List ℕ
top_here colors job =
    option_to_list (option_and_then last_of (slice_get colors.heres job))

-- the colour of a global actor: the one with its number
abbrev pub global_number : Colors → ℕ → Option ℕ
global_number colors g = if nat_lt g (next_color colors) then Some g else None

-- the colour of the actor or global actor that an executor is
abbrev pub number_on : Colors → Executor → Option ℕ
number_on colors executor.Generic = None
number_on colors (executor.ActorOf c) = owned_number colors.cells c
number_on colors (executor.Global g) = global_number colors g

-- ---- cells that are made
-- A coloured cell is made: its colour is a new one, which merges with these.
abbrev pub colored_cell : ℕ → ℕ → List ℕ → Plan
colored_cell job n ns = record (joining (n ∷ ns)) {
  fresh = Some (owner.Job job);
  tint = Some (Colored n);
}

-- a cell without colour is made, and these colours become one
abbrev pub bare_cell : List ℕ → Plan
bare_cell ns = record (joining ns) { tint = Some Bare }

-- an actor is made: its colour is a new one, which merges with these
abbrev pub new_actor : ℕ → ℕ → List ℕ → Plan
new_actor cell n ns = record (joining (n ∷ ns)) {
  fresh = Some (owner.ActorOf cell);
  tint = Some (Owns n);
}

abbrev pub is_isolated_to : Iso → Bool
is_isolated_to iso.Free = false
is_isolated_to iso.Own = true
is_isolated_to (iso.Global g) = true
is_isolated_to iso.Caller = false

-- whether a function is isolated to an actor or a global actor
abbrev pub is_isolated : Graph → ℕ → Bool
is_isolated graph f =
    option_map_or (λ function. is_isolated_to function.iso) (slice_get graph.functions f) false

-- A closure is made: an isolated one is a coloured cell and is with `Here`; another has the colours
-- of its captures.
abbrev pub new_closure : Colors → Bool → ℕ → List ℕ → Plan
new_closure colors true job ns =
    colored_cell job (next_color colors) (top_here colors job ++ ns)
new_closure colors false job ns =
    record no_plan { tint = Some (Holds (in_order ns)) }

-- The cell with the number c is made. What is stored in an object of a class that is Sendable is with
-- `Here`.
abbrev pub new_cell : Graph → Colors → ℕ → ℕ → HeapCell → Plan
new_cell graph colors job c (Object k parts) =
    if sends_at graph.shapes k then bare_cell (top_here colors job ++ colors_of colors.cells parts)
    else colored_cell job (next_color colors) (colors_of colors.cells parts)
new_cell graph colors job c (Actor k parts) =
    new_actor c (next_color colors) (top_here colors job ++ colors_of colors.cells parts)
new_cell graph colors job c (BoxOf v) =
    colored_cell job (next_color colors) (colors_in colors.cells v)
new_cell graph colors job c (Closure f captures) =
    new_closure colors (is_isolated graph f) job (colors_of colors.cells captures)
new_cell graph colors job c (TaskOf j) = bare_cell []

-- ---- stores
-- What a store merges the value's colours with: the colour of a coloured cell; for an actor, an object
-- of an annotated class or a global, `Here`.
abbrev pub store_color : Colors → ℕ → Option ℕ → List ℕ
store_color colors job None = top_here colors job
store_color colors job (Some n) = n ∷ []

-- ---- calls and tasks
-- A frame begins. Its `Here` is the colour of its actor or global actor, if there is one, or a new
-- colour; and these merge with it.
abbrev pub begun_with : Option ℕ → Owner → (ℕ → FrameChange) → ℕ → List ℕ → Plan
begun_with (Some a) owner begins n ns = record (joining (a ∷ ns)) { frame = begins a }
begun_with None owner begins n ns =
    record (joining (n ∷ ns)) { fresh = Some owner; frame = begins n }

-- The colours of what a frame has in its first registers, up to the first without value, but for
-- those that are `sending`.
abbrev pub passed : List Tint → List Bool → List (Option Value) → List ℕ
passed tints sending [] = []
passed tints sending (None ∷ regs) = []
passed tints [] (Some v ∷ regs) = colors_in tints v ++ passed tints [] regs
passed tints (sends ∷ sending) (Some v ∷ regs) =
    (if sends then [] else colors_in tints v) ++ passed tints sending regs

-- which registers that a function takes are `sending`
abbrev pub sending_of : Graph → ℕ → List Bool
sending_of graph f = option_map_or (λ function. function.sending) (slice_get graph.functions f) []

-- whether a call of this kind is of a function that is isolated to an actor or a global actor
abbrev pub is_to_actor : CallKind → Bool
is_to_actor kind.Plain = false
is_to_actor kind.Same = true
is_to_actor kind.Weak = false
is_to_actor kind.Strong = true
is_to_actor kind.Make = false

-- the colour of the actor that is called
abbrev pub called_number : Colors → Point → Frame → Option ℕ
called_number colors (Middle (instr.Call at dst kind f args)) frame =
    if is_to_actor kind then number_on colors frame.executor else None
called_number colors _ frame = None

-- the colours of the closure that is called
abbrev pub called_closure : Colors → Point → Frame → List ℕ
called_closure colors (Middle (instr.CallClosure at dst c args)) caller =
    option_map_or (held colors.cells) (reference_at caller.regs c) []
called_closure colors _ caller = []

-- a call puts a frame on top of the job's
abbrev pub entered : Graph → Colors → ℕ → Frame → Point → Frame → Plan
entered graph colors job top point frame =
    begun_with (called_number colors point frame) (owner.Job job) Pushed (next_color colors)
    (called_closure colors point top
    ++ passed colors.cells (sending_of graph frame.function) frame.regs)

-- A job is made with one frame, whose `Here` is the actor's, the global actor's or that job's.
abbrev pub spawned : Colors → ℕ → Frame → Plan
spawned colors made frame =
    record (begun_with (number_on colors frame.executor) (owner.Job made) Begun (next_color colors)
    (passed colors.cells [] frame.regs)) { tint = Some Bare; heir = Some made }

-- ---- the plan of an act
-- whether a value is made of parts
abbrev pub is_make : Point → Bool
is_make (Middle (instr.Make at dst shape tag args)) = true
is_make _ = false

-- what a job does whose top frame stands at this point, where the effect is this
abbrev pub effect_plan : Graph → Colors → ℕ → Frame → Point → Effect → Plan
effect_plan graph colors job top point (effect.Set r v next) =
    if is_make point then joining (colors_in colors.cells v) else no_plan
effect_plan graph colors job top point (effect.SetField r i v next) =
    joining (slot_colors colors.cells (value_at top.regs r) ++ colors_in colors.cells v)
effect_plan graph colors job top point (effect.Print r line next) = no_plan
effect_plan graph colors job top point (effect.New r cell c next) =
    new_cell graph colors job c cell
effect_plan graph colors job top point (effect.Write c slot v next) =
    joining (store_color colors job (color_number colors.cells c) ++ colors_in colors.cells v)
effect_plan graph colors job top point (effect.WriteGlobal g v next) =
    joining (store_color colors job None ++ colors_in colors.cells v)
effect_plan graph colors job top point (effect.Goto next) = no_plan
effect_plan graph colors job top point (effect.Enter frame next) =
    entered graph colors job top point frame
effect_plan graph colors job top point (effect.Spawn r frame made cell next) =
    spawned colors made frame
effect_plan graph colors job top point (effect.Wait on r next) = no_plan
effect_plan graph colors job top point (effect.Rest r next) = no_plan
effect_plan graph colors job top point (effect.Leave v) = record no_plan { frame = Popped }
effect_plan graph colors job top point (effect.Halt kind at) = no_plan
effect_plan graph colors job top point effect.Stuck = no_plan

abbrev pub plan_at : Graph → Colors → ℕ → Effect → Frame → Plan
plan_at graph colors job e top =
    option_map_or (λ point. effect_plan graph colors job top point e) (point_at graph top) no_plan

-- what an act of a job does
abbrev pub plan_of : Graph → State → Colors → ℕ → Act → Plan
plan_of graph state colors job (Execute e) =
    option_map_or (plan_at graph colors job e)
    (option_and_then top_frame (slice_get state.jobs job)) no_plan
plan_of graph state colors job _ = no_plan
