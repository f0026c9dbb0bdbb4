-- What is stored becomes one with the colour of the place.
use Rattle.std.proofs.Common.{◌≡◌, ℕ, Some, None, List, ◌∷◌, Contains, sym, subst, ap}
use Rattle.std.proofs.Common.{◌∙◌}
use Rattle.std.specs.List.{slice_get, slice_index_or}
use Rattle.std.specs.Option.{unwrap_or}
use Rattle.sw_list.proofs.Members.{first_in, later_in}
use Rattle.sw_graph.specs.declared.function.GlobalKind.{GlobalKind}
use Rattle.sw_graph.specs.declared.graph.Graph.{Graph}
use Rattle.sw_value.specs.declared.cell.HeapCell.{HeapCell}
use Rattle.sw_value.specs.declared.cell.Slot.{Slot}
use Rattle.sw_value.specs.declared.state.State.{State}
use Rattle.sw_value.specs.declared.value.Value.{Value}
use Rattle.sw_value.specs.Cell.{with_slot}
use Rattle.sw_value.specs.State.{in_cell, set_global}
use Rattle.sw_owner_facts.specs.Colours.{Actor as Owner, Colour, GlobalActor, OfActor}
use Rattle.sw_owner_facts.specs.View.{Frame as Spot}
use Rattle.sw_reach_facts.specs.Coloured.{HaveColours}
use Rattle.sw_reach_facts.specs.Reached.{colours_of}
use Rattle.sw_view_facts.specs.Renaming.{recoloured_by}
use Rattle.sw_view_facts.specs.Views.{Colours, here_at}
use Rattle.sw_secure_facts.specs.Memory.{OwnsMemory, ReachesOnly, keeper}
use Rattle.sw_secure_facts.specs.Painting.{Unites, stored_colour}
use Rattle.sw_secure_facts.proofs.Recoloured.{colour_was, have_recoloured, memory_recoloured}
use Rattle.sw_secure_facts.proofs.Recoloured.{reached_was}
use Rattle.sw_secure_facts.proofs.Uniting.{actors_stay, joined_become, united_colour, united_is}
use Rattle.sw_secure_value_facts.proofs.Written.{have_written, memory_global, memory_written}

module _ (graph : Graph) (state : State) (colours after : Colours) (q : Spot) (v : Value)
    (place : Colour)
    (u : Unites q.job (place ∷ colours_of state.cells colours.cells v) colours after) where
  abbrev joined : List Colour
  joined = place ∷ colours_of state.cells colours.cells v

  abbrev becomes : Colour → Colour
  becomes = united_colour q.job u.numbers u.kept

  abbrev renamed : Colours
  renamed = recoloured_by becomes colours

  renamed_is : after ≡ renamed
  renamed_is = u.is ∙ united_is q.job u.numbers u.kept colours

  stay : (a : Owner) → becomes (OfActor a) ≡ OfActor a
  stay a = actors_stay q.job u.numbers u.kept a

  place_becomes : becomes place ≡ u.kept
  place_becomes = joined_become q.job joined colours after u place
      (first_in place (colours_of state.cells colours.cells v))

  -- an actor's place is kept
  actor_kept : (a : Owner) → place ≡ OfActor a → u.kept ≡ OfActor a
  actor_kept a is = sym place_becomes ∙ ap becomes is ∙ stay a

  one_kept : (other : Colour) → Contains (colours_of state.cells renamed.cells v) other
      → other ≡ u.kept
  one_kept other has =
      let was = reached_was graph state becomes colours stay v other has in
      sym was.2 ∙ joined_become q.job joined colours after u was.0
      (later_in place (colours_of state.cells colours.cells v) was.0 was.1)

  module _ (memory : OwnsMemory graph state colours) where
    memory_renamed : OwnsMemory graph state renamed
    memory_renamed = memory_recoloured graph state becomes colours stay memory

    -- a global of that actor, or of none, is written
    pub memory_stored_global : (g : ℕ)
        → ((kind : GlobalKind) (other : Colour) → slice_get graph.globals g ≡ Some kind
        → Contains (colours_of state.cells colours.cells v) other
        → (actor : ℕ) × (kind.actor ≡ Some actor) × (place ≡ OfActor (GlobalActor actor)))
        → OwnsMemory graph (set_global g v state) after
    memory_stored_global g own =
        subst (OwnsMemory graph (set_global g v state)) (sym renamed_is)
        (memory_global graph state renamed memory_renamed g v (λ kind other at has.
        let was = reached_was graph state becomes colours stay v other has in
        let mine = own kind was.0 at was.1 in
        (mine.0, mine.1, one_kept other has ∙ actor_kept (GlobalActor mine.0) mine.2)))

module _ (graph : Graph) (state : State) (colours after : Colours) (q : Spot) (v : Value) (c : ℕ)
    (u : Unites q.job (stored_colour colours q c ∷ colours_of state.cells colours.cells v) colours
    after) (memory : OwnsMemory graph state colours) (slot : Slot)
    (keeps : (h : HeapCell) (owner : Owner) → slice_get state.cells c ≡ Some h
    → keeper graph c h ≡ Some owner → stored_colour colours q c ≡ OfActor owner) where
  abbrev changes : Colour → Colour
  changes = united_colour q.job u.numbers u.kept

  abbrev changed : Colours
  changed = recoloured_by changes colours

  changed_is : after ≡ changed
  changed_is = renamed_is graph state colours after q v (stored_colour colours q c) u

  own : (colour : Colour) → slice_index_or changed.cells c None ≡ Some colour
      → ReachesOnly state changed v colour
  own colour is other has =
      let was = colour_was graph state changes colours
      (stay graph state colours after q v (stored_colour colours q c) u) c colour is in
      one_kept graph state colours after q v (stored_colour colours q c) u other has
      ∙ sym (place_becomes graph state colours after q v (stored_colour colours q c) u)
      ∙ ap changes (ap (λ o. unwrap_or o (here_at colours q)) was.1) ∙ was.2

  kept : (h : HeapCell) (owner : Owner) → slice_get state.cells c ≡ Some h
      → keeper graph c h ≡ Some owner → ReachesOnly state changed v (OfActor owner)
  kept h owner at is other has =
      one_kept graph state colours after q v (stored_colour colours q c) u other has
      ∙ actor_kept graph state colours after q v (stored_colour colours q c) u owner
      (keeps h owner at is)

  before : OwnsMemory graph state changed
  before = memory_renamed graph state colours after q v (stored_colour colours q c) u memory

  -- a slot of the cell is written
  pub memory_stored : OwnsMemory graph (in_cell (with_slot slot v) c state) after
  memory_stored = subst (OwnsMemory graph (in_cell (with_slot slot v) c state)) (sym changed_is)
      (memory_written graph state changed before c slot v own kept)

  pub have_stored : HaveColours graph state.cells colours.cells
      → HaveColours graph (in_cell (with_slot slot v) c state).cells after.cells
  have_stored have = subst
      (λ (cs : Colours). HaveColours graph (in_cell (with_slot slot v) c state).cells cs.cells)
      (sym changed_is) (have_written graph state changed before c slot v own kept
      (have_recoloured graph state changes colours
      (stay graph state colours after q v (stored_colour colours q c) u) have))
