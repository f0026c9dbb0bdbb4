-- What the cells and globals of a coloured state hold: each what is its own.
use Rattle.std.specs.Prelude.{◌≡◌, ℕ, true, Option, Some, None, ◌∷◌, List, length, slice_get}
use Rattle.std.specs.Prelude.{slice_index_or, Contains}
use Rattle.std.specs.Option.{option_map}
use Rattle.sw_types.specs.declared.isolation.Iso.TheVariants.{Own, Global}
use Rattle.sw_graph.specs.declared.function.GlobalKind.{GlobalKind}
use Rattle.sw_graph.specs.declared.graph.Graph.{Graph}
use Rattle.sw_graph.specs.Bodies.{actor_of}
use Rattle.sw_graph.specs.Placed.{FunctionAt}
use Rattle.sw_value.specs.declared.cell.HeapCell.{HeapCell}
use Rattle.sw_value.specs.declared.cell.HeapCell.TheVariants.{Object, Actor, BoxOf, Closure, TaskOf}
use Rattle.sw_value.specs.declared.state.State.{State}
use Rattle.sw_value.specs.declared.value.Value.{Value}
use Rattle.sw_value.specs.Value.{value_at, reference_of}
use Rattle.sw_owner_facts.specs.Colours.{Actor as Owner, Colour, OfActor, Instance, GlobalActor}
use Rattle.sw_reach_facts.specs.Coloured.{CaptureEarlier, may_have_colour}
use Rattle.sw_reach_facts.specs.Named.{values_in}
use Rattle.sw_reach_facts.specs.Reached.{colours_of}
use Rattle.sw_view_facts.specs.Views.{Colours}

-- Whose the contents of a cell are that has no colour of its own: of an actor its own, of an object
-- its class's global actor's. What any other holds is nobody's.
abbrev pub keeper : Graph → ℕ → HeapCell → Option Owner
keeper graph c (Actor k parts) = Some (Instance c)
keeper graph c (Object k parts) = option_map GlobalActor (actor_of graph.shapes k)
keeper graph c (BoxOf v) = None
keeper graph c (Closure f captures) = None
keeper graph c (TaskOf j) = None

-- the value reaches this colour, if any
abbrev pub ReachesOnly : State → Colours → Value → Colour → Type 0
ReachesOnly state colours v colour = (other : Colour)
    → Contains (colours_of state.cells colours.cells v) other → other ≡ colour

-- The cells and globals of a state hold what is their own.
pub record OwnsMemory (graph : Graph) (state : State) (colours : Colours) : Type 0 where
  -- each cell has a colour or none
  pub count : length colours.cells ≡ length state.cells
  -- each cell that may have a colour has one
  pub marked : (c : ℕ) (cell : HeapCell) → slice_get state.cells c ≡ Some cell
      → may_have_colour graph cell ≡ true
      → (colour : Colour) × (slice_index_or colours.cells c None ≡ Some colour)
  -- what a cell with a colour holds reaches that colour alone
  pub inside : (c : ℕ) (cell : HeapCell) (own : Colour) (v : Value)
      → slice_get state.cells c ≡ Some cell → slice_index_or colours.cells c None ≡ Some own
      → Contains (values_in cell) v → ReachesOnly state colours v own
  -- what an actor or an object of a class with a global actor holds is its actor's
  pub kept : (c : ℕ) (cell : HeapCell) (owner : Owner) (v : Value)
      → slice_get state.cells c ≡ Some cell → keeper graph c cell ≡ Some owner
      → Contains (values_in cell) v → ReachesOnly state colours v (OfActor owner)
  -- what a global has is its global actor's, and reaches nothing if it has none
  pub globals : (g : ℕ) (kind : GlobalKind) (v : Value) (other : Colour)
      → slice_get graph.globals g ≡ Some kind → value_at state.globals g ≡ Some v
      → Contains (colours_of state.cells colours.cells v) other
      → (actor : ℕ) × (kind.actor ≡ Some actor) × (other ≡ OfActor (GlobalActor actor))
  -- an isolated closure has its actor's colour: a global actor's, or that of the `self` which it
  -- captured first
  pub global_closures : (c f actor : ℕ) (captures : List Value) (colour : Colour)
      → slice_get state.cells c ≡ Some (Closure f captures)
      → FunctionAt graph f (λ function. function.iso ≡ Global actor)
      → slice_index_or colours.cells c None ≡ Some colour → colour ≡ OfActor (GlobalActor actor)
  pub own_closures : (c f : ℕ) (self : Value) (captures : List Value) (colour : Colour)
      → slice_get state.cells c ≡ Some (Closure f (self ∷ captures))
      → FunctionAt graph f (λ function. function.iso ≡ Own)
      → slice_index_or colours.cells c None ≡ Some colour
      → (actor : ℕ) × (reference_of self ≡ Some actor) × (colour ≡ OfActor (Instance actor))
  pub earlier : CaptureEarlier state.cells
