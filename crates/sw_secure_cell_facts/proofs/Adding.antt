-- Cells and globals hold what is their own where a cell is added that does.
use Rattle.std.proofs.Common.{◌≡◌, ◌⊎◌, ℕ, zero, suc, true, Option, Some, None, List, [], ◌∷◌, ◌++◌}
use Rattle.std.proofs.Common.{length}
use Rattle.std.proofs.Common.{Contains, refl, sym, subst, ap, ◌∙◌, arith, inl, inr, length-append}
use Rattle.std.specs.Option.{option_map}
use Rattle.std.specs.List.{slice_get, slice_index_or}
use Rattle.std.proofs.Math.Seq.{get_or-append_seam}
use Rattle.std.proofs.lemmas.List.{get_or_append_left, map-append}
use Rattle.std.proofs.lemmas.Option.{slice_get_within}
use Rattle.sw_types.specs.declared.isolation.Iso.TheVariants.{Own, Global}
use Rattle.sw_graph.specs.declared.graph.Graph.{Graph}
use Rattle.sw_graph.specs.Placed.{FunctionAt}
use Rattle.sw_value.specs.declared.cell.HeapCell.{HeapCell}
use Rattle.sw_value.specs.declared.cell.HeapCell.TheVariants.{Closure}
use Rattle.sw_value.specs.declared.state.State.{State}
use Rattle.sw_value.specs.declared.value.Value.{Value}
use Rattle.sw_value.specs.Value.{reference_of, value_at}
use Rattle.sw_list.proofs.ListLemmas.{slice_get_before}
use Rattle.sw_value.proofs.ListLemmas.{slice_get_end}
use Rattle.sw_machine_kind_facts.specs.Kinded.{Kinded}
use Rattle.sw_machine_kind_facts.proofs.ItemLemmas.{at_end}
use Rattle.sw_owner_facts.specs.Colours.{Actor as Owner, Colour, OfActor, Instance, GlobalActor}
use Rattle.sw_reach_facts.specs.Coloured.{HaveColours, may_have_colour}
use Rattle.sw_reach_facts.specs.Named.{NamesCells, values_in}
use Rattle.sw_reach_facts.specs.Reached.{colours_of}
use Rattle.sw_reach_facts.proofs.ChangeLemmas.{colours_before}
use Rattle.sw_reach_facts.proofs.NamedLemmas.{contents_named, globals_named}
use Rattle.sw_view_facts.specs.Memory.{coloured_more}
use Rattle.sw_view_facts.specs.Renaming.{recoloured_by, united}
use Rattle.sw_view_facts.specs.Views.{Colours}
use Rattle.sw_secure_facts.specs.Memory.{OwnsMemory, ReachesOnly, keeper}
use Rattle.sw_secure_facts.specs.Painting.{Unites}
use Rattle.sw_secure_facts.proofs.Recoloured.{reached_was}
use Rattle.sw_secure_facts.proofs.Uniting.{actors_stay, joined_become, united_colour, united_is}

-- A cell that isn't there yet would hold its own, with this colour or without one: it has one if it
-- may, what it holds is there and reaches what the cell is of alone, and an isolated closure has
-- its actor's colour.
pub record HoldsItsOwn (graph : Graph) (state : State) (colours : Colours) (cell : HeapCell)
    (colour : Option Colour) : Type 0 where
  pub marked : may_have_colour graph cell ≡ true → (own : Colour) × (colour ≡ Some own)
  pub may : (own : Colour) → colour ≡ Some own → may_have_colour graph cell ≡ true
  pub named : (v : Value) → Contains (values_in cell) v → NamesCells state.cells v
  pub inside : (own : Colour) (v : Value) → colour ≡ Some own → Contains (values_in cell) v
      → ReachesOnly state colours v own
  pub kept : (owner : Owner) (v : Value) → keeper graph (length state.cells) cell ≡ Some owner
      → Contains (values_in cell) v → ReachesOnly state colours v (OfActor owner)
  pub global_closures : (f actor : ℕ) (captures : List Value) (own : Colour)
      → cell ≡ Closure f captures → FunctionAt graph f (λ function. function.iso ≡ Global actor)
      → colour ≡ Some own → own ≡ OfActor (GlobalActor actor)
  pub own_closures : (f : ℕ) (self : Value) (captures : List Value) (own : Colour)
      → cell ≡ Closure f (self ∷ captures) → FunctionAt graph f (λ function. function.iso ≡ Own)
      → colour ≡ Some own
      → (actor : ℕ) × (reference_of self ≡ Some actor) × (own ≡ OfActor (Instance actor))

-- a colour of a list with one more at the end
pub colour_at_end : (colours : List (Option Colour)) (o : Option Colour) (c : ℕ) (own : Colour)
    → slice_index_or (colours ++ o ∷ []) c None ≡ Some own
    → (slice_index_or colours c None ≡ Some own) ⊎ ((c ≡ length colours) × (o ≡ Some own))
colour_at_end [] o zero own is = inr (refl, is)
colour_at_end [] o (suc c) own is = inl is
colour_at_end (first ∷ colours) o zero own is = inl is
colour_at_end (first ∷ colours) o (suc c) own is = elim (colour_at_end colours o c own is) [
  | inl before ↦ inl before
  | inr both ↦ inr (ap (λ n. suc n) both.0, both.1)
]

module _ (graph : Graph) (state next : State) (colours : Colours) (cell : HeapCell)
    (colour : Option Colour) (count : length colours.cells ≡ length state.cells)
    (cells_now : next.cells ≡ state.cells ++ cell ∷ []) where
  abbrev more : Colours
  more = coloured_more colour colours

  -- a cell is one that was there, or the new one
  was : (c : ℕ) (x : HeapCell) → slice_get next.cells c ≡ Some x
      → (slice_get state.cells c ≡ Some x) ⊎ ((c ≡ length state.cells) × (x ≡ cell))
  was c x at = at_end state.cells cell x c (sym (ap (λ l. slice_get l c) cells_now) ∙ at)

  index_old : (c : ℕ) (x : HeapCell) → slice_get state.cells c ≡ Some x
      → slice_index_or more.cells c None ≡ slice_index_or colours.cells c None
  index_old c x at =
      let inside = slice_get_within state.cells c x at in
      get_or_append_left colours.cells (colour ∷ []) None c (omega (arith, inside, count))

  -- the new cell has this colour
  pub index_new : (c : ℕ) → c ≡ length state.cells → slice_index_or more.cells c None ≡ colour
  index_new c same =
      ap (λ k. slice_index_or more.cells k None)
      (let e : c ≡ length colours.cells = same ∙ sym count in e)
      ∙ get_or-append_seam colours.cells colour [] None

  pub reach : (v : Value) → NamesCells state.cells v
      → colours_of next.cells more.cells v ≡ colours_of state.cells colours.cells v
  reach v named = ap (λ cells. colours_of cells more.cells v) cells_now
      ∙ colours_before state.cells colours.cells cell colour v count named

  pub have_added : HaveColours graph state.cells colours.cells
      → ((own : Colour) → colour ≡ Some own → may_have_colour graph cell ≡ true)
      → HaveColours graph next.cells more.cells
  have_added have may c own is = elim (colour_at_end colours.cells colour c own is) [
    | inl before ↦ let old = have c own before in (
      old.0,
      ap (λ l. slice_get l c) cells_now ∙ slice_get_before state.cells (cell ∷ []) c old.0 old.1,
      old.2,
    )
    | inr (same, new) ↦ (
      cell,
      ap (λ l. slice_get l c) cells_now
          ∙ ap (slice_get (state.cells ++ cell ∷ [])) (same ∙ count)
          ∙ slice_get_end state.cells cell,
      may own new,
    )
  ]

  module _ (memory : OwnsMemory graph state colours) (kinded : Kinded graph state)
      (globals_now : next.globals ≡ state.globals)
      (holds : HoldsItsOwn graph state colours cell colour) where
    only : (v : Value) (own : Colour) → NamesCells state.cells v → ReachesOnly state colours v own
        → ReachesOnly next more v own
    only v own named alone other reached =
        alone other (subst (λ l. Contains l other) (reach v named) reached)

    new_colour : (c : ℕ) (own : Colour) → c ≡ length state.cells
        → slice_index_or more.cells c None ≡ Some own → colour ≡ Some own
    new_colour c own same is = sym (index_new c same) ∙ is

    pub memory_added : OwnsMemory graph next more
    memory_added = record {
      count = (let a = length-append colours.cells (colour ∷ []) in
          let b = length-append state.cells (cell ∷ []) in
          let same = ap (λ (l : List HeapCell). length l) cells_now in
          omega (arith, a, b, same, count));
      marked = λ c x at may. elim (was c x at) [
        | inl old ↦ let found = memory.marked c x old may in
            (found.0, index_old c x old ∙ found.1)
        | inr (same, is) ↦ let own = holds.marked (sym (ap (may_have_colour graph) is) ∙ may) in
            (own.0, index_new c same ∙ own.1)
      ];
      inside = λ c x own v at is has. elim (was c x at) [
        | inl old ↦ only v own (contents_named graph state kinded c x v old has)
            (memory.inside c x own v old (sym (index_old c x old) ∙ is) has)
        | inr (same, new) ↦
            let among = subst (λ h. Contains (values_in h) v) new has in
            only v own (holds.named v among)
            (holds.inside own v (new_colour c own same is) among)
      ];
      kept = λ c x owner v at is has. elim (was c x at) [
        | inl old ↦ only v (OfActor owner) (contents_named graph state kinded c x v old has)
            (memory.kept c x owner v old is has)
        | inr (same, new) ↦
            let among = subst (λ h. Contains (values_in h) v) new has in
            only v (OfActor owner) (holds.named v among)
            (holds.kept owner v (ap (λ n. keeper graph n cell) (sym same)
            ∙ sym (ap (keeper graph c) new) ∙ is) among)
      ];
      globals = λ g kind v other at is reached.
          let before = sym (ap (λ l. value_at l g) globals_now) ∙ is in
          memory.globals g kind v other at before
          (subst (λ l. Contains l other) (reach v (globals_named graph state kinded g v before))
          reached);
      global_closures = λ c f actor captures own at iso is. elim (was c (Closure f captures) at) [
        | inl old ↦ memory.global_closures c f actor captures own old iso
            (sym (index_old c (Closure f captures) old) ∙ is)
        | inr (same, new) ↦ holds.global_closures f actor captures own (sym new) iso
            (new_colour c own same is)
      ];
      own_closures = λ c f self captures own at iso is.
          elim (was c (Closure f (self ∷ captures)) at) [
            | inl old ↦ memory.own_closures c f self captures own old iso
                (sym (index_old c (Closure f (self ∷ captures)) old) ∙ is)
            | inr (same, new) ↦ holds.own_closures f self captures own (sym new) iso
                (new_colour c own same is)
          ];
      earlier = λ c f captures v d at has refers. elim (was c (Closure f captures) at) [
        | inl old ↦ memory.earlier c f captures v d old has refers
        | inr (same, new) ↦
            let there = holds.named v (subst (λ h. Contains (values_in h) v) new has) d refers in
            omega (arith, there, same)
      ];
    }

-- where colours become one, the colour of the new cell is renamed with the others
pub united_more : (job : ℕ) (numbers : List ℕ) (kept : Colour) (colour : Option Colour)
    (colours : Colours)
    → united job numbers kept (coloured_more colour colours)
    ≡ coloured_more (option_map (united_colour job numbers kept) colour)
    (united job numbers kept colours)
united_more job numbers kept colour colours =
    united_is job numbers kept (coloured_more colour colours)
    ∙ ap (λ (cs : List (Option Colour)). record {
      cells = cs;
      heres = (recoloured_by (united_colour job numbers kept) colours).heres;
    }) (map-append (option_map (united_colour job numbers kept)) colours.cells (colour ∷ []))
    ∙ ap (coloured_more (option_map (united_colour job numbers kept) colour))
    (sym (united_is job numbers kept colours))

-- What reaches joined colours alone reaches the one that is kept.
pub reaches_kept : (graph : Graph) (state : State) (colours base after : Colours) (job : ℕ)
    (joined : List Colour) (unites : Unites job joined base after) (v : Value)
    → ((c : Colour) → Contains (colours_of state.cells colours.cells v) c → Contains joined c)
    → ReachesOnly state (united job unites.numbers unites.kept colours) v unites.kept
reaches_kept graph state colours base after job joined unites v among other reached =
    let was = reached_was graph state (united_colour job unites.numbers unites.kept) colours
    (actors_stay job unites.numbers unites.kept) v other
    (subst (λ (cs : Colours). Contains (colours_of state.cells cs.cells v) other)
    (united_is job unites.numbers unites.kept colours) reached) in
    sym was.2 ∙ joined_become job joined base after unites was.0 (among was.0 was.1)

-- An actor's colour that is joined is the one that is kept.
pub kept_is : (job : ℕ) (joined : List Colour) (base after : Colours)
    (unites : Unites job joined base after) (c : Colour) (actor : Owner) → Contains joined c
    → c ≡ OfActor actor → unites.kept ≡ OfActor actor
kept_is job joined base after unites c actor among is =
    sym (joined_become job joined base after unites c among)
    ∙ ap (united_colour job unites.numbers unites.kept) is
    ∙ actors_stay job unites.numbers unites.kept actor
