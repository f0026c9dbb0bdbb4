-- What a step does to colours, by the effect that it has: a colour is made, a frame gets the colour
-- of its `Here`, and colours become one. What is passed to another actor, by a call or by a task,
-- stays a job's.
use Rattle.std.specs.Prelude.{◌≡◌, ◌⊎◌, ◌-◌, ℕ, Bool, ◌&&◌, is_some, Option, Some, None}
use Rattle.std.specs.Prelude.{List, [], ◌∷◌, ◌++◌, length, take, flat_map, Contains}
use Rattle.std.specs.Prelude.{slice_index_or, unwrap_or, if◌then◌else◌}
use Rattle.sw_types.specs.Sendable.{sends_at}
use Rattle.sw_graph.specs.declared.graph.Graph.{Graph}
use Rattle.sw_graph.specs.declared.instr.Instr.TheVariants as instr
use Rattle.sw_graph.specs.Points.{Point, Middle}
use Rattle.sw_value.specs.declared.cell.HeapCell.{HeapCell}
use Rattle.sw_value.specs.declared.cell.HeapCell.TheVariants.{Object, Actor, BoxOf, Closure, TaskOf}
use Rattle.sw_value.specs.declared.effect.Effect.{Effect}
use Rattle.sw_value.specs.declared.effect.Effect.TheVariants as effect
use Rattle.sw_value.specs.declared.executor.Executor.{Executor}
use Rattle.sw_value.specs.declared.executor.Executor.TheVariants as executor
use Rattle.sw_value.specs.declared.frame.Frame.{Frame}
use Rattle.sw_value.specs.declared.state.State.{State}
use Rattle.sw_value.specs.declared.value.Value.{Value}
use Rattle.sw_value.specs.Lists.{changed_at}
use Rattle.sw_color_rules.specs.Plans.{is_make, is_to_actor, sending_of}
use Rattle.sw_late_facts.specs.Late.{goes_away}
use Rattle.sw_owner_facts.specs.Colours.{Actor as Owner, Colour, OfJob, OfActor, Instance}
use Rattle.sw_owner_facts.specs.Colours.{GlobalActor}
use Rattle.sw_owner_facts.specs.View.{Frame as Spot}
use Rattle.sw_reach_facts.specs.Coloured.{may_have_colour, runs_isolated}
use Rattle.sw_reach_facts.specs.Reached.{colours_of}
use Rattle.sw_view_facts.specs.Memory.{coloured_more}
use Rattle.sw_view_facts.specs.Renaming.{AllButOne, recoloured_by, renames, united}
use Rattle.sw_view_facts.specs.Views.{Colours, colours_by, here_at}

-- ---- colours of frames
-- a frame more on top of a job's, one less, and a job more with one frame
abbrev pub with_here : ℕ → Colour → Colours → Colours
with_here job here colours =
    record colours { heres = changed_at (λ row. row ++ here ∷ []) job colours.heres }

abbrev pub without_here : ℕ → Colours → Colours
without_here job colours =
    record colours { heres = changed_at (λ row. take (length row - 1) row) job colours.heres }

abbrev pub with_job : Colour → Colours → Colours
with_job here colours = record colours { heres = colours.heres ++ (here ∷ []) ∷ [] }

-- the actor that an executor is
abbrev pub actor_on : Executor → Option Owner
actor_on executor.Generic = None
actor_on (executor.ActorOf c) = Some (Instance c)
actor_on (executor.Global g) = Some (GlobalActor g)

-- the actor on which a call's frame begins, if the call is of a function that is isolated
abbrev pub called_on : Point → Frame → Option Owner
called_on (Middle (instr.Call at dst kind f args)) frame =
    if is_to_actor kind then actor_on frame.executor else None
called_on _ frame = None

-- the colour of the `Here` of a frame that begins: its actor's, or a new one of its job
abbrev pub begun_here : Option Owner → ℕ → ℕ → Colour
begun_here (Some actor) job number = OfActor actor
begun_here None job number = OfJob job number

-- ---- what is made
-- the colour of a cell that is made: a new one of the job, if it may have one
abbrev pub cell_colour : Graph → ℕ → ℕ → HeapCell → Option Colour
cell_colour graph job number cell =
    if may_have_colour graph cell then Some (OfJob job number) else None

-- the colours with what the effect makes, before any of them become one
abbrev pub made_by : Graph → Colours → ℕ → ℕ → Point → Effect → Colours
made_by graph colours job number point (effect.New r cell c next) =
    coloured_more (cell_colour graph job number cell) colours
made_by graph colours job number point (effect.Enter frame next) =
    with_here job (begun_here (called_on point frame) job number) colours
made_by graph colours job number point (effect.Spawn r frame made cell next) =
    with_job (begun_here (actor_on frame.executor) made number) (coloured_more None colours)
made_by graph colours job number point (effect.Leave v) = without_here job colours
made_by graph colours job number point _ = colours

-- ---- what becomes one
abbrev pub reached_by_all : State → Colours → List Value → List Colour
reached_by_all state colours vs = flat_map (colours_of state.cells colours.cells) vs

-- What is stored in a cell is with the cell's colour, or with `Here` if it has none.
abbrev pub stored_colour : Colours → Spot → ℕ → Colour
stored_colour colours q c = unwrap_or (slice_index_or colours.cells c None) (here_at colours q)

-- the colours that become one when the frame q makes the cell with the number c
abbrev pub joined_in_cell : Graph → State → Colours → Spot → ℕ → ℕ → HeapCell → List Colour
joined_in_cell graph state colours q number c (Object k parts) =
    (if sends_at graph.shapes k then here_at colours q else OfJob q.job number)
    ∷ reached_by_all state colours parts
joined_in_cell graph state colours q number c (Actor k parts) =
    OfActor (Instance c) ∷ here_at colours q ∷ reached_by_all state colours parts
joined_in_cell graph state colours q number c (BoxOf v) =
    OfJob q.job number ∷ colours_of state.cells colours.cells v
joined_in_cell graph state colours q number c (Closure f captures) =
    if runs_isolated graph f
    then OfJob q.job number ∷ here_at colours q ∷ reached_by_all state colours captures else []
joined_in_cell graph state colours q number c (TaskOf j) = []

-- The colours of what a frame that begins has in its first registers, up to the first without value,
-- but for those that are `sending`.
abbrev pub passed : State → Colours → List Bool → List (Option Value) → List Colour
passed state colours sending [] = []
passed state colours sending (None ∷ regs) = []
passed state colours [] (Some v ∷ regs) =
    colours_of state.cells colours.cells v ++ passed state colours [] regs
passed state colours (sends ∷ sending) (Some v ∷ regs) =
    (if sends then [] else colours_of state.cells colours.cells v)
    ++ passed state colours sending regs

-- the colours of the closure that the frame calls
abbrev pub called_closure : State → Colours → Frame → Point → List Colour
called_closure state colours f (Middle (instr.CallClosure at dst closure args)) =
    colours_by state colours (Some f) closure.reg
called_closure state colours f _ = []

-- Whether the job takes what it passes along: it becomes the actor's only when the job runs there.
abbrev pub takes_along : Point → Frame → Bool
takes_along point frame = frame.crossing && is_some (called_on point frame)

abbrev pub joined_by_call : Graph → State → Colours → Spot → ℕ → Frame → Point → Frame → List Colour
joined_by_call graph state colours q number f point frame =
    if takes_along point frame then []
    else begun_here (called_on point frame) q.job number ∷ called_closure state colours f point
    ++ passed state colours (sending_of graph frame.function) frame.regs

-- the colours that become one by an effect of frame f at q
abbrev pub joined_by : Graph → State → Colours → Spot → ℕ → Frame → Point → Effect → List Colour
joined_by graph state colours q number f point (effect.Set r v next) =
    if is_make point then colours_of state.cells colours.cells v else []
joined_by graph state colours q number f point (effect.SetField r i v next) =
    colours_by state colours (Some f) r ++ colours_of state.cells colours.cells v
joined_by graph state colours q number f point (effect.New r cell c next) =
    joined_in_cell graph state colours q number c cell
joined_by graph state colours q number f point (effect.Write c slot v next) =
    stored_colour colours q c ∷ colours_of state.cells colours.cells v
joined_by graph state colours q number f point (effect.WriteGlobal g v next) =
    here_at colours q ∷ colours_of state.cells colours.cells v
joined_by graph state colours q number f point (effect.Enter frame next) =
    joined_by_call graph state colours q number f point frame
joined_by graph state colours q number f point _ = []

-- ---- colours that become one
-- These colours, of which all but one at most are the job's, have become that one.
pub record Unites (job : ℕ) (joined : List Colour) (colours after : Colours) : Type 0 where
  pub kept : Colour
  pub numbers : List ℕ
  pub is : after ≡ united job numbers kept colours
  pub among : (c : Colour) → Contains joined c → Contains joined kept
  pub others : (c : Colour) → Contains joined c
      → (c ≡ kept) ⊎ ((n : ℕ) × Contains numbers n × (c ≡ OfJob job n))
  pub only : (n : ℕ) → Contains numbers n → Contains joined (OfJob job n)

-- an actor's colour, or one of the job of q
abbrev pub IsOwn : Spot → Colour → Type 0
IsOwn q colour = ((a : Owner) × (colour ≡ OfActor a)) ⊎ ((n : ℕ) × (colour ≡ OfJob q.job n))

-- There are no colours, or one of them can be kept, an actor's or the job's, such that each of the
-- others is the job's.
abbrev pub MayUnite : Spot → List Colour → Type 0
MayUnite q joined = (joined ≡ [])
    ⊎ ((kept : Colour) × Contains joined kept × AllButOne q kept joined × IsOwn q kept)

-- ---- tasks
-- colours of one job become another's
abbrev pub handed : ℕ → ℕ → List ℕ → Colours → Colours
handed job heir [] colours = colours
handed job heir (n ∷ numbers) colours =
    handed job heir numbers (recoloured_by (renames job n (OfJob heir n)) colours)

-- The colours that a new job's frame was given become one with its `Here`, unless it goes away: then
-- only when it runs there.
abbrev pub joined_by_task : State → Colours → ℕ → ℕ → Frame → Frame → List Colour
joined_by_task state colours made number f frame =
    if goes_away f.executor frame.executor then []
    else begun_here (actor_on frame.executor) made number ∷ passed state colours [] frame.regs

-- What the frame f of a job gives to the new job `made`, which begins with this frame, becomes that
-- job's.
pub record PaintsTask (state : State) (colours : Colours) (job made number : ℕ) (f frame : Frame)
    (base after : Colours) : Type 0 where
  pub given : List ℕ
  -- what is given is the job's, or an actor's
  pub gives : (c : Colour) → Contains (passed state colours [] frame.regs) c
      → ((a : Owner) × (c ≡ OfActor a)) ⊎ ((n : ℕ) × Contains given n × (c ≡ OfJob job n))
  pub only : (n : ℕ) → Contains given n
      → Contains (passed state colours [] frame.regs) (OfJob job n)
  pub unites : Unites made
      (joined_by_task state (handed job made given colours) made number f frame)
      (handed job made given base) after

-- ---- effects
-- What an effect of frame f at q, which stands at the point, makes of the colours of a state. The
-- colours of jobs that it makes have this number.
abbrev pub Paints : Graph → State → Colours → Spot → ℕ → Frame → Point → Effect → Colours → Type 0
Paints graph state colours q number f point (effect.Spawn r frame made cell next) after =
    PaintsTask state colours q.job made number f frame
    (made_by graph colours q.job number point (effect.Spawn r frame made cell next)) after
Paints graph state colours q number f point e after =
    Unites q.job (joined_by graph state colours q number f point e)
    (made_by graph colours q.job number point e) after
