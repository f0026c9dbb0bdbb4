-- Coloured states of a clean graph whose views are sound.
use Rattle.std.specs.Prelude.{◌≡◌, ℕ, Option, Some, List, slice_get, [], ◌∷◌, ◌⊎◌, None}
use Rattle.std.specs.Prelude.{slice_index_or, Contains}
use Rattle.sw_graph.specs.declared.function.Function.{Function}
use Rattle.sw_graph.specs.declared.graph.Graph.{Graph}
use Rattle.sw_graph.specs.Clean.{IsClean}
use Rattle.sw_graph.specs.Supplied.{IsSupplied}
use Rattle.sw_graph.specs.declared.instr.Operand.{Operand}
use Rattle.sw_value.specs.declared.state.State.{State}
use Rattle.sw_value.specs.declared.cell.Slot.{Slot}
use Rattle.sw_value.specs.declared.frame.Frame.{Frame}
use Rattle.sw_value.specs.declared.value.Value.{Value}
use Rattle.sw_value.specs.Effect.{loaded}
use Rattle.sw_value.specs.Value.{reference_at}
use Rattle.sw_partition.specs.Regions.{Regions}
use Rattle.sw_machine_kind_facts.specs.Kinded.{Kinded}
use Rattle.sw_owner_facts.specs.Owned.{IsSound}
use Rattle.sw_owner_facts.specs.Colours.{OfJob, Colour}
use Rattle.sw_owner_facts.specs.View.{Element, Here, IsFrame, Frame as Spot}
use Rattle.sw_region_facts.specs.Moves.{tracked}
use Rattle.sw_region_facts.specs.Annotated.{Annotates}
use Rattle.sw_reach_facts.specs.Coloured.{HaveColours}
use Rattle.sw_reach_facts.specs.Reached.{colours_of}
use Rattle.sw_view_facts.specs.Changes.{HoldsIn}
use Rattle.sw_view_facts.specs.Renaming.{HasHere}
use Rattle.sw_view_facts.specs.Views.{here_at, Colours, annotated, view_of}

-- The view of a state by the annotations of the graph's functions is sound.
abbrev pub HasSoundView : Graph → (ℕ → List (Option Regions)) → State → Colours → Type 0
HasSoundView graph states state colours =
    IsSound (view_of graph (annotated states state) state colours)

-- The graph is clean and supplied, each of its functions is annotated, the state is kinded, only
-- cells that may have a colour have one, and the view is sound.
pub record IsColoured (graph : Graph) (states : ℕ → List (Option Regions)) (state : State)
    (colours : Colours) : Type 0 where
  pub clean : IsClean graph
  pub supplied : IsSupplied graph
  pub annotates : (n : ℕ) (body : Function) → slice_get graph.functions n ≡ Some body
      → Annotates graph body (states n)
  pub kinded : Kinded graph state
  pub have : HaveColours graph state.cells colours.cells
  pub sound : HasSoundView graph states state colours

-- The cell that the operand refers to has a colour, and what it has in the slot reaches that colour
-- alone.
pub record HasSlotColour (state : State) (colours : Colours) (f : Frame) (cell : Operand)
    (slot : Slot) : Type 0 where
  pub colour : Colour
  pub coloured : (c : ℕ) → reference_at f.regs cell ≡ Some c
      → slice_index_or colours.cells c None ≡ Some colour
  pub one : (v : Value) (other : Colour) → loaded state f cell slot ≡ Some v
      → Contains (colours_of state.cells colours.cells v) other → other ≡ colour

-- One of the elements xs of the top frame at q holds the colour that is kept. Each of the others,
-- which are colours of its job, is that one, or is held by one of xs.
pub record MayBecomeOne (state : State) (colours : Colours) (q : Spot) (f : Frame)
    (xs : List Element) (kept : Colour) (numbers : List ℕ) : Type 0 where
  pub holder : Element
  pub among : Contains xs holder
  pub holds : HoldsIn state colours f (here_at colours q) holder kept
  pub others : (n : ℕ) → Contains numbers n → (kept ≡ OfJob q.job n)
      ⊎ ((x : Element) × Contains xs x
      × HoldsIn state colours f (here_at colours q) x (OfJob q.job n))

-- each frame has a colour for its `Here`
abbrev pub HaveHeres : Graph → (ℕ → List (Option Regions)) → State → Colours → Type 0
HaveHeres graph states state colours = (p : Spot)
    → IsFrame (view_of graph (annotated states state) state colours) p → HasHere colours p

-- What comes together where a part of a cell is stored: the cell and what is stored, or, if the cell
-- isn't tracked, `Here` and what is stored. `number` is that of the cell's register.
abbrev pub stored_with : List (Option ℕ) → Option ℕ → Operand → Operand → List Element
stored_with elements (Some number) cell src = tracked elements (cell ∷ src ∷ [])
stored_with elements None cell src = Here ∷ tracked elements (src ∷ [])

-- The value reaches the colour of the `Here` of q alone, or nothing.
abbrev pub IsOfHere : State → Colours → Spot → Value → Type 0
IsOfHere state colours q v = (c : Colour) → Contains (colours_of state.cells colours.cells v) c
    → here_at colours q ≡ c
