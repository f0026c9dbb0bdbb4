-- What locations have after each change of a state.
use Rattle.std.proofs.Common.{◌≡◌, ℕ, Option, Some, None, length}
use Rattle.std.proofs.Common.{refl, ap}
use Rattle.std.specs.Prelude.{option_and_then, IsSome}
use Rattle.std.specs.List.{slice_get, slice_set}
use Rattle.sw_graph.specs.declared.graph.Graph.{Graph}
use Rattle.sw_value.specs.declared.cell.HeapCell.{HeapCell}
use Rattle.sw_value.specs.declared.cell.Slot.{Slot}
use Rattle.sw_value.specs.declared.cell.Slot.TheVariants.{Part, Content}
use Rattle.sw_value.specs.declared.race.Place.{Place}
use Rattle.sw_value.specs.declared.race.Place.TheVariants.{Prop, Global, BoxOf}
use Rattle.sw_value.specs.declared.state.State.{State}
use Rattle.sw_value.specs.declared.value.Value.{Value}
use Rattle.sw_value.specs.Access.{box_in, part_in}
use Rattle.sw_value.specs.Cell.{slot_of, with_slot}
use Rattle.sw_value.specs.State.{add_cell, in_cell, set_global}
use Rattle.sw_value.specs.Value.{value_at}
use Rattle.sw_value.proofs.ListLemmas.{set_there, length-changed_at}
use Rattle.sw_machine_access_facts.specs.Location.{location_at, IsLocation, content_of, with_content}
use Rattle.sw_machine_access_facts.proofs.CellLemmas.{IsOfForm, form_kept, box_form, part_form, added_after}
use Rattle.sw_machine_access_facts.proofs.CellLemmas.{slot_place, slot_kept, slot_changed, set_other}

-- what a slot has is the content of its place
pub slot_content : (c : ℕ) (slot : Slot) (state : State)
    → content_of state (slot_place c slot)
    ≡ option_and_then (slot_of slot) (slice_get state.cells c)
slot_content c (Part i) state = refl
slot_content c Content state = refl

-- another place than the one that gets a value
pub content_kept : (state : State) (place other : Place) (v : Value) → (other ≡ place → ⊥)
    → content_of (with_content place v state) other ≡ content_of state other
unfolding in_cell set_global
content_kept state (Prop d k) (Prop c i) v apart =
    slot_kept (Part i) (Part k) v d state.cells c apart
content_kept state (Prop d k) (Global g) v apart = refl
content_kept state (Prop d k) (BoxOf c) v apart =
    slot_kept Content (Part k) v d state.cells c apart
content_kept state (Global h) (Prop c i) v apart = refl
content_kept state (Global h) (Global g) v apart =
    ap (option_and_then (λ w. w)) (set_other state.globals h g (Some v) (λ e. apart (ap Global e)))
content_kept state (Global h) (BoxOf c) v apart = refl
content_kept state (BoxOf d) (Prop c i) v apart =
    slot_kept (Part i) Content v d state.cells c apart
content_kept state (BoxOf d) (Global g) v apart = refl
content_kept state (BoxOf d) (BoxOf c) v apart =
    slot_kept Content Content v d state.cells c apart

some_there : {A : Type 0} (o : Option A) → IsSome o → (x : A) × (o ≡ Some x)
some_there None e = cc
some_there (Some x) e = (x, refl)

-- the place that gets a value, where it has one
pub content_changed : (state : State) (place : Place) (v : Value) → IsSome (content_of state place)
    → content_of (with_content place v state) place ≡ Some v
unfolding in_cell set_global
content_changed state (Prop c i) v has =
    let old = some_there (content_of state (Prop c i)) has in
    slot_changed (Part i) v old.0 state.cells c old.1
content_changed state (Global g) v has = by (slice_get state.globals g) refl has where
  by : (o : Option (Option Value)) → slice_get state.globals g ≡ o
      → IsSome (option_and_then (λ w. w) o)
      → value_at (slice_set state.globals g (Some v)) g ≡ Some v
  by None e has = cc
  by (Some w) e has = ap (option_and_then (λ w. w)) (set_there state.globals g w (Some v) e)
content_changed state (BoxOf c) v has =
    let old = some_there (content_of state (BoxOf c)) has in
    slot_changed Content v old.0 state.cells c old.1

-- places of states with the same cells and globals
pub content_same : (state after : State) → after.cells ≡ state.cells
    → after.globals ≡ state.globals → (place : Place)
    → content_of after place ≡ content_of state place
content_same state after cells globals (Prop c i) =
    ap (λ l. option_and_then (slot_of (Part i)) (slice_get l c)) cells
content_same state after cells globals (Global g) = ap (λ l. value_at l g) globals
content_same state after cells globals (BoxOf c) =
    ap (λ l. option_and_then (slot_of Content) (slice_get l c)) cells

pub location_same : (graph : Graph) (state after : State) → after.cells ≡ state.cells
    → (place : Place) → location_at graph after place ≡ location_at graph state place
location_same graph state after cells (Prop c i) =
    ap (λ l. option_and_then (part_in graph c i) (slice_get l c)) cells
location_same graph state after cells (Global g) = refl
location_same graph state after cells (BoxOf c) =
    ap (λ l. option_and_then (box_in c) (slice_get l c)) cells

-- a location where a cell is added
pub content_added : (graph : Graph) (state : State) (h : HeapCell) (place : Place)
    → IsLocation graph state place
    → content_of (add_cell h state) place ≡ content_of state place
unfolding add_cell
content_added graph state h (Prop c i) is =
    added_after (part_in graph c i) (slot_of (Part i)) h state.cells c (Prop c i) is
content_added graph state h (Global g) is = refl
content_added graph state h (BoxOf c) is =
    added_after (box_in c) (slot_of Content) h state.cells c (BoxOf c) is

pub location_added : (graph : Graph) (state : State) (h : HeapCell) (place : Place)
    → IsLocation graph state place
    → location_at graph (add_cell h state) place ≡ location_at graph state place
unfolding add_cell
location_added graph state h (Prop c i) is =
    added_after (part_in graph c i) (part_in graph c i) h state.cells c (Prop c i) is
location_added graph state h (Global g) is = refl
location_added graph state h (BoxOf c) is =
    added_after (box_in c) (box_in c) h state.cells c (BoxOf c) is

-- what is said of cells whatever their slots have
pub form_same : {B : Type 0} (f : HeapCell → Option B) → IsOfForm f → (place : Place) (v : Value)
    (state : State) (c : ℕ) → option_and_then f (slice_get (with_content place v state).cells c)
    ≡ option_and_then f (slice_get state.cells c)
unfolding in_cell set_global
form_same f form (Prop d k) v state c = form_kept f form (Part k) v d state.cells c
form_same f form (Global g) v state c = refl
form_same f form (BoxOf d) v state c = form_kept f form Content v d state.cells c

pub location_kept : (graph : Graph) (state : State) (place other : Place) (v : Value)
    → location_at graph (with_content place v state) other ≡ location_at graph state other
location_kept graph state place (Prop c i) v =
    form_same (part_in graph c i) (part_form graph c i) place v state c
location_kept graph state place (Global g) v = refl
location_kept graph state place (BoxOf c) v = form_same (box_in c) (box_form c) place v state c

-- the number of cells, the jobs and the trap stay
pub count_same : (place : Place) (v : Value) (state : State)
    → length (with_content place v state).cells ≡ length state.cells
unfolding in_cell set_global
count_same (Prop c i) v state = length-changed_at (with_slot (Part i) v) c state.cells
count_same (Global g) v state = refl
count_same (BoxOf c) v state = length-changed_at (with_slot Content v) c state.cells

pub jobs_same : (place : Place) (v : Value) (state : State)
    → (with_content place v state).jobs ≡ state.jobs
unfolding in_cell set_global
jobs_same (Prop c i) v state = refl
jobs_same (Global g) v state = refl
jobs_same (BoxOf c) v state = refl

pub halted_same : (place : Place) (v : Value) (state : State)
    → (with_content place v state).halted ≡ state.halted
unfolding in_cell set_global
halted_same (Prop c i) v state = refl
halted_same (Global g) v state = refl
halted_same (BoxOf c) v state = refl
