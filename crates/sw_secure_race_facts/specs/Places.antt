-- Whose a place is: that of a cell with a colour, or an actor's.
use Rattle.std.specs.Prelude.{◌≡◌, ℕ, Option, Some, None, slice_get, slice_index_or}
use Rattle.sw_graph.specs.declared.function.GlobalKind.{GlobalKind}
use Rattle.sw_graph.specs.declared.graph.Graph.{Graph}
use Rattle.sw_value.specs.declared.cell.HeapCell.{HeapCell}
use Rattle.sw_value.specs.declared.race.Place.{Place}
use Rattle.sw_value.specs.declared.race.Place.TheVariants.{Prop, Global, BoxOf}
use Rattle.sw_value.specs.declared.state.State.{State}
use Rattle.sw_owner_facts.specs.Colours.{Actor, Colour, GlobalActor}
use Rattle.sw_view_facts.specs.Views.{Colours}
use Rattle.sw_secure_facts.specs.Memory.{keeper}

-- the cell in which the place lies
abbrev pub cell_in : Place → Option ℕ
cell_in (Prop c i) = Some c
cell_in (BoxOf c) = Some c
cell_in (Global g) = None

-- the cell in which the place lies has this colour
pub record HasColour (colours : Colours) (place : Place) (colour : Colour) : Type 0 where
  pub number : ℕ
  pub inside : cell_in place ≡ Some number
  pub is : slice_index_or colours.cells number None ≡ Some colour

-- The place is this actor's: a part of a cell without a colour, whose keeper it is, or a global of
-- that global actor.
abbrev pub IsKept : Graph → State → Colours → Place → Actor → Type 0
IsKept graph state colours (Prop c i) actor = (slice_index_or colours.cells c None ≡ None)
    × ((cell : HeapCell) × (slice_get state.cells c ≡ Some cell)
    × (keeper graph c cell ≡ Some actor))
IsKept graph state colours (BoxOf c) actor = ⊥
IsKept graph state colours (Global g) actor = (kind : GlobalKind) × (number : ℕ)
    × (slice_get graph.globals g ≡ Some kind) × (kind.actor ≡ Some number)
    × (actor ≡ GlobalActor number)
