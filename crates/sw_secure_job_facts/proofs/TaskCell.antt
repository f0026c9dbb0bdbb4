-- The cell of a task more, which has no colour and holds nothing.
use Rattle.std.specs.List.{slice_get, slice_index_or}
use Rattle.std.proofs.Common.{◌≡◌, ◌⊎◌, ◌≤◌, ℕ, true, false, Option, Some, None, List, [], ◌∷◌}
use Rattle.std.proofs.Common.{◌++◌}
use Rattle.std.proofs.Common.{length, Contains, sym, subst, ap, ◌∙◌, arith, inl, inr}
use Rattle.std.proofs.lemmas.Bool.{cases_lt}
use Rattle.std.proofs.lemmas.List.{get_or_past, length-append}
use Rattle.std.proofs.lemmas.Option.{get_or_from_slice_get, slice_get_within}
use Rattle.sw_list.proofs.Members.{none_in}
use Rattle.sw_list.proofs.ListLemmas.{slice_get_first}
use Rattle.sw_graph.specs.declared.graph.Graph.{Graph}
use Rattle.sw_value.specs.declared.cell.HeapCell.{HeapCell}
use Rattle.sw_value.specs.declared.cell.HeapCell.TheVariants.{Closure, TaskOf}
use Rattle.sw_value.specs.declared.state.State.{State}
use Rattle.sw_value.specs.declared.value.Value.{Value}
use Rattle.sw_value.specs.State.{add_cell}
use Rattle.sw_machine_kind_facts.specs.Kinded.{Kinded}
use Rattle.sw_machine_kind_facts.proofs.ItemLemmas.{at_end, found_within}
use Rattle.sw_owner_facts.specs.Colours.{Colour}
use Rattle.sw_reach_facts.specs.Coloured.{HaveColours, may_have_colour}
use Rattle.sw_reach_facts.specs.Named.{NamesCells, values_in}
use Rattle.sw_reach_facts.specs.Reached.{colours_of}
use Rattle.sw_reach_facts.proofs.ChangeLemmas.{colours_before}
use Rattle.sw_reach_facts.proofs.NamedLemmas.{contents_named, globals_named}
use Rattle.sw_view_facts.specs.Memory.{coloured_more}
use Rattle.sw_view_facts.specs.Views.{Colours}
use Rattle.sw_secure_facts.specs.Memory.{OwnsMemory}

-- a colour of a cell among one cell more without a colour
colour_was : (colours : List (Option Colour)) (c : ℕ) (own : Colour)
    → slice_index_or (colours ++ None ∷ []) c None ≡ Some own
    → slice_index_or colours c None ≡ Some own
colour_was colours c own is = elim (cases_lt c (length colours)) [
  | inl inside ↦
      let found = found_within colours c inside in
      get_or_from_slice_get colours c found.0 None found.1
      ∙ sym (get_or_from_slice_get (colours ++ None ∷ []) c found.0 None
      (slice_get_first colours (None ∷ []) c inside ∙ found.1)) ∙ is
  | inr past ↦
      let clash : None ≡ Some own = sym (none past) ∙ is in absurd (let z : ⊥ = cc in z)
]
  where
    at_last : (o : Option Colour) → slice_get (colours ++ None ∷ []) c ≡ Some o
        → length colours ≤ c → o ≡ None
    at_last o at past = elim (at_end colours None o c at) [
      | inl before ↦ absurd (let low = slice_get_within colours c o before in
          omega (arith, low, past))
      | inr (place, same) ↦ same
    ]

    none : length colours ≤ c → slice_index_or (colours ++ None ∷ []) c None ≡ None
    none past = elim (cases_lt c (length (colours ++ None ∷ []))) [
      | inl inside ↦
          let found = found_within (colours ++ None ∷ []) c inside in
          get_or_from_slice_get (colours ++ None ∷ []) c found.0 None found.1
          ∙ at_last found.0 found.1 past
      | inr out ↦ get_or_past (colours ++ None ∷ []) c None out
    ]

colour_still : (colours : List (Option Colour)) (c : ℕ) (own : Colour)
    → slice_index_or colours c None ≡ Some own
    → slice_index_or (colours ++ None ∷ []) c None ≡ Some own
colour_still colours c own is = elim (cases_lt c (length colours)) [
  | inl inside ↦
      let found = found_within colours c inside in
      get_or_from_slice_get (colours ++ None ∷ []) c found.0 None
      (slice_get_first colours (None ∷ []) c inside ∙ found.1)
      ∙ sym (get_or_from_slice_get colours c found.0 None found.1) ∙ is
  | inr past ↦
      let clash : None ≡ Some own = sym (get_or_past colours c None past) ∙ is in
      absurd (let z : ⊥ = cc in z)
]

module _ (graph : Graph) (state : State) (kinded : Kinded graph state) (colours : Colours) (j : ℕ)
  where
    abbrev pub more_cells : State
    more_cells = add_cell (TaskOf j) state

    pub have_task : HaveColours graph state.cells colours.cells
        → HaveColours graph more_cells.cells (coloured_more None colours).cells
    unfolding add_cell
    have_task have c colour is =
        let old = have c colour (colour_was colours.cells c colour is) in (
          old.0,
          slice_get_first state.cells (TaskOf j ∷ []) c (slice_get_within state.cells c old.0 old.1)
              ∙ old.1,
          old.2,
        )

    -- a cell was there, or is the task's
    was : (c : ℕ) (cell : HeapCell) → slice_get more_cells.cells c ≡ Some cell
        → (slice_get state.cells c ≡ Some cell) ⊎ (cell ≡ TaskOf j)
    unfolding add_cell
    was c cell at = elim (at_end state.cells (TaskOf j) cell c at) [
      | inl before ↦ inl before
      | inr (place, is) ↦ inr is
    ]

    reached_was : (v : Value) → length colours.cells ≡ length state.cells
        → NamesCells state.cells v → (other : Colour)
        → Contains (colours_of more_cells.cells (coloured_more None colours).cells v) other
        → Contains (colours_of state.cells colours.cells v) other
    unfolding add_cell
    reached_was v count named other has = subst (λ l. Contains l other)
        (colours_before state.cells colours.cells (TaskOf j) None v count named) has

    no_closure : (f : ℕ) (captures : List Value) → Closure f captures ≡ TaskOf j → ⊥
    no_closure f captures is = cc

    pub memory_task : OwnsMemory graph state colours
        → OwnsMemory graph more_cells (coloured_more None colours)
    unfolding add_cell
    memory_task memory = record {
      count = (let one = length-append colours.cells (None ∷ []) in
          let two = length-append state.cells (TaskOf j ∷ []) in
          let count = memory.count in omega (arith, one, two, count));
      marked = λ c cell at may. elim (was c cell at) [
        | inl before ↦
            let old = memory.marked c cell before may in
            (old.0, colour_still colours.cells c old.0 old.1)
        | inr is ↦ absurd (let clash : true ≡ false = sym may ∙ ap (may_have_colour graph) is in
            let z : ⊥ = cc in z)
      ];
      inside = λ c cell own v at is has other reached. elim (was c cell at) [
        | inl before ↦ memory.inside c cell own v before (colour_was colours.cells c own is) has
            other
            (reached_was v memory.count (contents_named graph state kinded c cell v before has)
            other
            reached)
        | inr task ↦ absurd (none_in v (subst (λ x. Contains (values_in x) v) task has))
      ];
      kept = λ c cell owner v at is has other reached. elim (was c cell at) [
        | inl before ↦ memory.kept c cell owner v before is has other
            (reached_was v memory.count (contents_named graph state kinded c cell v before has)
            other
            reached)
        | inr task ↦ absurd (none_in v (subst (λ x. Contains (values_in x) v) task has))
      ];
      globals = λ g kind v other at is reached. memory.globals g kind v other at is
          (reached_was v memory.count (globals_named graph state kinded g v is) other reached);
      global_closures = λ c f actor captures colour at iso is.
          elim (was c (Closure f captures) at) [
            | inl before ↦ memory.global_closures c f actor captures colour before iso
                (colour_was colours.cells c colour is)
            | inr task ↦ absurd (no_closure f captures task)
          ];
      own_closures = λ c f self captures colour at iso is.
          elim (was c (Closure f (self ∷ captures)) at) [
            | inl before ↦ memory.own_closures c f self captures colour before iso
                (colour_was colours.cells c colour is)
            | inr task ↦ absurd (no_closure f (self ∷ captures) task)
          ];
      earlier = λ c f captures v d at has refers. elim (was c (Closure f captures) at) [
        | inl before ↦ memory.earlier c f captures v d before has refers
        | inr task ↦ absurd (no_closure f captures task)
      ];
    }
