-- Locations, and what they have.
use Rattle.std.specs.Prelude.{◌≡◌, ℕ, IsTrue, Option, Some, slice_get, option_and_then}
use Rattle.sw_types.specs.declared.shape.Part.{Part}
use Rattle.sw_types.specs.declared.shape.Shape.{Shape}
use Rattle.sw_graph.specs.declared.graph.Graph.{Graph}
use Rattle.sw_value.specs.declared.cell.Slot.TheVariants as slot
use Rattle.sw_value.specs.declared.race.Place.{Place}
use Rattle.sw_value.specs.declared.race.Place.TheVariants.{Prop, Global, BoxOf}
use Rattle.sw_value.specs.declared.state.State.{State}
use Rattle.sw_value.specs.declared.value.Value.{Value}
use Rattle.sw_value.specs.Access.{box_at, part_at, global_at}
use Rattle.sw_value.specs.Cell.{slot_of, with_slot}
use Rattle.sw_value.specs.State.{in_cell, set_global}
use Rattle.sw_value.specs.Value.{value_at}

-- the place itself, if it is a location
abbrev pub location_at : Graph → State → Place → Option Place
location_at graph state (Prop c i) = part_at graph state i c
location_at graph state (Global g) = global_at graph g
location_at graph state (BoxOf c) = box_at state c

-- The place is one that accesses name: a `var` part of an object or an actor that is there, a
-- global `var`, or a box that is there.
abbrev pub IsLocation : Graph → State → Place → Type 0
IsLocation graph state place = location_at graph state place ≡ Some place

-- part i of shape k is a `var`
pub record IsVar (graph : Graph) (k i : ℕ) : Type 0 where
  pub shape : Shape
  pub part : Part
  pub shape_is : slice_get graph.shapes k ≡ Some shape
  pub part_is : slice_get shape.parts i ≡ Some part
  pub mutable : IsTrue part.mutable

-- the value that stands at a place now, if there is one
abbrev pub content_of : State → Place → Option Value
content_of state (Prop c i) = option_and_then (slot_of (slot.Part i)) (slice_get state.cells c)
content_of state (Global g) = value_at state.globals g
content_of state (BoxOf c) = option_and_then (slot_of slot.Content) (slice_get state.cells c)

-- the state with another value at a place
abbrev pub with_content : Place → Value → State → State
with_content (Prop c i) value state = in_cell (with_slot (slot.Part i) value) c state
with_content (Global g) value state = set_global g value state
with_content (BoxOf c) value state = in_cell (with_slot slot.Content value) c state
