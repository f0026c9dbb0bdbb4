-- When the memory of a state of the coloured machine is owned as it should be (SE-0306, SE-0316,
-- SE-0414).
use Rattle.std.specs.Prelude.{◌≡◌, ◌⊎◌, ◌<◌, ℕ, Bool, true, not, ◌&&◌, IsSome, Option, Some, None}
use Rattle.std.specs.Prelude.{List, [], map, slice_get, Contains}
use Rattle.sw_graph.specs.declared.function.Function.{Function}
use Rattle.sw_graph.specs.declared.function.GlobalKind.{GlobalKind}
use Rattle.sw_graph.specs.declared.function.RegKind.{RegKind}
use Rattle.sw_graph.specs.declared.graph.Graph.{Graph}
use Rattle.sw_graph.specs.Bodies.{actor_of, is_actor_initialiser}
use Rattle.sw_graph.specs.Clean.{is_untracked}
use Rattle.sw_value.specs.declared.cell.HeapCell.{HeapCell}
use Rattle.sw_value.specs.declared.cell.HeapCell.TheVariants as cell
use Rattle.sw_value.specs.declared.executor.Executor.{Executor}
use Rattle.sw_value.specs.declared.executor.Executor.TheVariants as executor
use Rattle.sw_value.specs.declared.frame.Frame.{Frame}
use Rattle.sw_value.specs.declared.job.Job.{Job}
use Rattle.sw_value.specs.declared.job.Status.TheVariants.{Ended}
use Rattle.sw_value.specs.declared.value.Value.{Value}
use Rattle.sw_value.specs.Busy.{is_exclusive}
use Rattle.sw_value.specs.Executor.{executor_of}
use Rattle.sw_value.specs.Job.{runs_on}
use Rattle.sw_value.specs.Value.{value_at}
use Rattle.sw_color_rules.specs.declared.colored.Colored.{Colored}
use Rattle.sw_color_rules.specs.declared.colors.Owner.{Owner}
use Rattle.sw_color_rules.specs.declared.colors.Owner.TheVariants as owner
use Rattle.sw_color_rules.specs.Machine.{global_count}
use Rattle.sw_color_rules.specs.Tints.{color_number, colors_in}
use Rattle.sw_partition.specs.Regions.{Regions}
use Rattle.sw_region_ops.specs.Calls.{is_isolated}
use Rattle.sw_region_ops.specs.Elements.{element_at}
use Rattle.sw_machine_kind_facts.specs.Kinded.{StateFits}
use Rattle.sw_machine_kind_facts.specs.Kinds.{HasKind, Referents}
use Rattle.sw_owner_facts.specs.View.{Element, IsLowerFrame, Frame as Spot}
use Rattle.sw_reach_facts.specs.Coloured.{may_have_colour}
use Rattle.sw_reach_facts.specs.Named.{values_in}
use Rattle.sw_view_facts.specs.Views.{elements_in, frame_at}
use Rattle.sw_owned_facts.specs.Holding.{AreInOneRegion, HasLive, colour_with, colours_in}
use Rattle.sw_owned_facts.specs.Holding.{here_colour, owner_by}

-- ---- actors as executors and as owners
abbrev pub owner_on : Executor → Option Owner
owner_on executor.Generic = None
owner_on (executor.ActorOf c) = Some (owner.ActorOf c)
owner_on (executor.Global g) = Some (owner.Global g)

-- Whether a function runs on the actor or the global actor that it is isolated to. The initialiser
-- of an actor doesn't: its actor isn't there yet.
abbrev pub runs_at_home : Function → Bool
runs_at_home function = is_isolated function.iso && not (is_actor_initialiser function)

-- the colour is the job's of the frame, or that of `Here`, which the actor owns on which it stands
abbrev pub IsOwnColour : Colored → Spot → Executor → ℕ → Type 0
IsOwnColour colored p on colour = (owner_by colored colour ≡ Some (owner.Job p.job))
    ⊎ ((actor : Owner) × (owner_by colored colour ≡ Some actor) × (owner_on on ≡ Some actor)
    × (here_colour colored p ≡ Some colour))

-- ---- memory
-- Each of the value's colours is this one's.
abbrev pub HasOnlyOf : Colored → Value → Owner → Type 0
HasOnlyOf colored v one = (colour : ℕ) → Contains (colours_in colored v) colour
    → owner_by colored colour ≡ Some one

-- What cells and globals hold is their own.
pub record HoldTheirOwn (graph : Graph) (colored : Colored) : Type 0 where
  -- objects of classes that aren't Sendable, boxes and isolated closures are coloured
  pub coloured : (c : ℕ) (cell : HeapCell) → slice_get colored.state.cells c ≡ Some cell
      → may_have_colour graph cell ≡ true → IsSome (color_number colored.colors.cells c)
  -- what a coloured cell holds has the cell's colour alone
  pub inside : (c n : ℕ) (cell : HeapCell) (v : Value) (colour : ℕ)
      → slice_get colored.state.cells c ≡ Some cell → color_number colored.colors.cells c ≡ Some n
      → Contains (values_in cell) v → Contains (colours_in colored v) colour
      → colour ≡ colour_with colored n
  -- what an actor holds has the actor's colour alone
  pub actors : (c k : ℕ) (parts : List Value) (v : Value)
      → slice_get colored.state.cells c ≡ Some (cell.Actor k parts) → Contains parts v
      → HasOnlyOf colored v (owner.ActorOf c)
  -- what an object of a class with a global actor holds has that global actor's
  pub objects : (c k g : ℕ) (parts : List Value) (v : Value)
      → slice_get colored.state.cells c ≡ Some (cell.Object k parts)
      → actor_of graph.shapes k ≡ Some g → Contains parts v
      → HasOnlyOf colored v (owner.Global g)
  -- and so has a global with a global actor; any other has no colour
  pub globals : (g : ℕ) (kind : GlobalKind) (v : Value) (colour : ℕ)
      → slice_get graph.globals g ≡ Some kind → value_at colored.state.globals g ≡ Some v
      → Contains (colours_in colored v) colour
      → (actor : ℕ) × (kind.actor ≡ Some actor)
      × (owner_by colored colour ≡ Some (owner.Global actor))

-- An isolated closure has the colour of the actor on which it runs: of a global actor, or of the
-- `self` that it captured first.
pub record HasActorsColour (colored : Colored) (c : ℕ) (captures : List Value)
    (function : Function) : Type 0 where
  pub number : ℕ
  pub is : color_number colored.colors.cells c ≡ Some number
  pub on : Executor
  pub runs : executor_of function.iso (map Some captures) ≡ Some on
  pub owned : owner_by colored number ≡ owner_on on

-- the value has no colour
abbrev pub HasNoColour : Colored → Value → Type 0
HasNoColour colored v = colors_in colored.colors.cells v ≡ []

-- What may cross between isolations has no colour (SE-0302).
pub record CrossWithoutColour (graph : Graph) (colored : Colored) : Type 0 where
  -- what is in registers that aren't tracked
  pub registers : (p : Spot) (frame : Frame) (r : ℕ) (v : Value)
      → frame_at colored.state p ≡ Some frame
      → element_at (elements_in graph (Some frame)) r ≡ None → value_at frame.regs r ≡ Some v
      → HasNoColour colored v
  -- values of Sendable kinds, whatever kinds are given to the cells
  pub values : (world : Referents) → StateFits graph world colored.state → (v : Value)
      (kind : RegKind) → HasKind graph.shapes world.cells v kind
      → is_untracked graph (Some kind) ≡ true → HasNoColour colored v
  -- results of tasks
  pub results : (c j : ℕ) (job : Job) (v : Value)
      → slice_get colored.state.cells c ≡ Some (cell.TaskOf j)
      → slice_get colored.state.jobs j ≡ Some job → job.status ≡ Ended v → HasNoColour colored v

-- ---- actors
-- it owns one colour and no other
abbrev pub OwnsOne : Colored → Owner → Type 0
OwnsOne colored one = (colour : ℕ) × (owner_by colored colour ≡ Some one)
    × ((n : ℕ) → owner_by colored n ≡ Some one → colour_with colored n ≡ colour)

-- Each actor has one colour, and frames that run on it have that as the colour of their `Here`.
pub record ActorsHaveOne (graph : Graph) (colored : Colored) : Type 0 where
  pub actors : (c k : ℕ) (parts : List Value)
      → slice_get colored.state.cells c ≡ Some (cell.Actor k parts)
      → OwnsOne colored (owner.ActorOf c)
  -- each of the global actors that functions are isolated to
  pub globals : (g : ℕ) → g < global_count graph.functions → OwnsOne colored (owner.Global g)
  pub heres : (p : Spot) (frame : Frame) (function : Function)
      → frame_at colored.state p ≡ Some frame
      → slice_get graph.functions frame.function ≡ Some function
      → (colour : ℕ) × (here_colour colored p ≡ Some colour)
      × (runs_at_home function ≡ true → owner_by colored colour ≡ owner_on frame.executor)

-- ---- the whole
-- The memory of a coloured state is owned, where `states` are annotations of the graph's functions.
pub record Owned (graph : Graph) (states : ℕ → List (Option Regions)) (colored : Colored) : Type 0
  where
    -- one running job at most stands on an actor or a global actor with its top frame
    pub exclusive : (i j : ℕ) (one other : Job) (on : Executor) → is_exclusive on ≡ true
        → slice_get colored.state.jobs i ≡ Some one → slice_get colored.state.jobs j ≡ Some other
        → runs_on on one ≡ true → runs_on on other ≡ true → i ≡ j
    -- a frame of an isolated function stands on its actor, but for an actor's initialiser
    pub stands : (p : Spot) (frame : Frame) (function : Function)
        → frame_at colored.state p ≡ Some frame
        → slice_get graph.functions frame.function ≡ Some function
        → runs_at_home function ≡ true
        → executor_of function.iso frame.regs ≡ Some frame.executor
    -- live elements of a frame that share a colour are in one region
    pub together : (p : Spot) (x y : Element) (colour : ℕ) → HasLive graph states colored p x colour
        → HasLive graph states colored p y colour → AreInOneRegion graph states colored.state p x y
    -- a colour of a live element is its job's, or that of the frame's `Here` and owned by the actor
    -- on which the frame stands
    pub owned : (p : Spot) (x : Element) (colour : ℕ)
        → (has : HasLive graph states colored p x colour)
        → IsOwnColour colored p has.frame.executor colour
    -- what live elements of two frames of a job share is the colour of the later frame's `Here`
    pub apart : (p q : Spot) (x y : Element) (colour : ℕ) → IsLowerFrame p q
        → HasLive graph states colored p x colour → HasLive graph states colored q y colour
        → here_colour colored q ≡ Some colour
    -- what cells and globals hold is their own
    pub contents : HoldTheirOwn graph colored
    -- an isolated closure has its actor's colour
    pub closures : (c f : ℕ) (captures : List Value) (function : Function)
        → slice_get colored.state.cells c ≡ Some (cell.Closure f captures)
        → slice_get graph.functions f ≡ Some function → is_isolated function.iso ≡ true
        → HasActorsColour colored c captures function
    -- what may cross between isolations has no colour
    pub crossing : CrossWithoutColour graph colored
    -- each actor has one colour, and that is the colour of `Here` where a frame runs on it
    pub actors : ActorsHaveOne graph colored
