-- What cells and globals hold after a slot of a cell, or a global, is written.
use Rattle.std.proofs.Common.{◌≡◌, ◌≢◌, ◌⊎◌, ℕ, zero, suc, Option, Some, None, List, [], ◌∷◌}
use Rattle.std.proofs.Common.{Contains, refl, sym, subst, ap, ◌∙◌, inl, inr}
use Rattle.std.specs.Option.{option_and_then}
use Rattle.std.specs.List.{slice_get, slice_index_or, slice_set}
use Rattle.std.proofs.lemmas.Bool.{cases_eq}
use Rattle.std.proofs.lemmas.List.Elements.{All-contains, All-contains_itself, All-set, All-weaker}
use Rattle.sw_list.proofs.ListLemmas.{some_injective}
use Rattle.sw_list.proofs.Members.{one_in}
use Rattle.sw_graph.specs.declared.function.GlobalKind.{GlobalKind}
use Rattle.sw_graph.specs.declared.graph.Graph.{Graph}
use Rattle.sw_value.specs.declared.cell.HeapCell.{HeapCell}
use Rattle.sw_value.specs.declared.cell.HeapCell.TheVariants as cell
use Rattle.sw_value.specs.declared.cell.Slot.{Slot}
use Rattle.sw_value.specs.declared.cell.Slot.TheVariants.{Part, Content}
use Rattle.sw_value.specs.declared.state.State.{State}
use Rattle.sw_value.specs.declared.value.Value.{Value}
use Rattle.sw_value.specs.Cell.{with_slot}
use Rattle.sw_value.specs.Lists.{changed_at}
use Rattle.sw_value.specs.State.{in_cell, set_global}
use Rattle.sw_value.specs.Value.{value_at}
use Rattle.sw_value.proofs.ListLemmas.{changed_at_found, changed_at_none, length-changed_at}
use Rattle.sw_machine_kind_facts.proofs.ItemLemmas.{changed_other, set_other}
use Rattle.sw_owner_facts.specs.Colours.{Actor as Owner, Colour, GlobalActor, OfActor}
use Rattle.sw_reach_facts.specs.Coloured.{HaveColours, may_have_colour}
use Rattle.sw_reach_facts.specs.Named.{values_in}
use Rattle.sw_reach_facts.specs.Reached.{colours_of}
use Rattle.sw_reach_facts.proofs.ChangeLemmas.{colours_written}
use Rattle.sw_view_facts.specs.Views.{Colours}
use Rattle.sw_secure_facts.specs.Memory.{OwnsMemory, ReachesOnly, keeper}

-- what is put into a list is in it, beside what was there
in_set : {X : Type 0} (xs : List X) (i : ℕ) (w x : X) → Contains (slice_set xs i w) x
    → Contains xs x ⊎ (w ≡ x)
in_set xs i w x has =
    All-contains (λ y. Contains xs y ⊎ (w ≡ y)) (slice_set xs i w) x
    (All-set (λ y. Contains xs y ⊎ (w ≡ y)) xs i w (inr refl)
    (All-weaker (Contains xs) (λ y. Contains xs y ⊎ (w ≡ y)) (λ y is. inl is) xs
    (All-contains_itself xs))) has

-- ---- a cell with another value in a slot
-- it holds that value, and what it held
slot_holds : (slot : Slot) (v : Value) (h : HeapCell) (w : Value)
    → Contains (values_in (with_slot slot v h)) w → Contains (values_in h) w ⊎ (v ≡ w)
slot_holds (Part i) v (cell.Object k vs) w has = in_set vs i v w has
slot_holds (Part i) v (cell.Actor k vs) w has = in_set vs i v w has
slot_holds (Part i) v (cell.BoxOf x) w has = inl has
slot_holds (Part i) v (cell.Closure f vs) w has = inl has
slot_holds (Part i) v (cell.TaskOf j) w has = inl has
slot_holds Content v (cell.BoxOf x) w has = inr (one_in v w has)
slot_holds Content v (cell.Object k vs) w has = inl has
slot_holds Content v (cell.Actor k vs) w has = inl has
slot_holds Content v (cell.Closure f vs) w has = inl has
slot_holds Content v (cell.TaskOf j) w has = inl has

slot_keeper : (graph : Graph) (c : ℕ) (slot : Slot) (v : Value) (h : HeapCell)
    → keeper graph c (with_slot slot v h) ≡ keeper graph c h
slot_keeper graph c (Part i) v (cell.Object k vs) = refl
slot_keeper graph c (Part i) v (cell.Actor k vs) = refl
slot_keeper graph c (Part i) v (cell.BoxOf x) = refl
slot_keeper graph c (Part i) v (cell.Closure f vs) = refl
slot_keeper graph c (Part i) v (cell.TaskOf j) = refl
slot_keeper graph c Content v (cell.Object k vs) = refl
slot_keeper graph c Content v (cell.Actor k vs) = refl
slot_keeper graph c Content v (cell.BoxOf x) = refl
slot_keeper graph c Content v (cell.Closure f vs) = refl
slot_keeper graph c Content v (cell.TaskOf j) = refl

slot_marks : (graph : Graph) (slot : Slot) (v : Value) (h : HeapCell)
    → may_have_colour graph (with_slot slot v h) ≡ may_have_colour graph h
slot_marks graph (Part i) v (cell.Object k vs) = refl
slot_marks graph (Part i) v (cell.Actor k vs) = refl
slot_marks graph (Part i) v (cell.BoxOf x) = refl
slot_marks graph (Part i) v (cell.Closure f vs) = refl
slot_marks graph (Part i) v (cell.TaskOf j) = refl
slot_marks graph Content v (cell.Object k vs) = refl
slot_marks graph Content v (cell.Actor k vs) = refl
slot_marks graph Content v (cell.BoxOf x) = refl
slot_marks graph Content v (cell.Closure f vs) = refl
slot_marks graph Content v (cell.TaskOf j) = refl

-- a closure has no slot
slot_closure : (slot : Slot) (v : Value) (h : HeapCell) (f : ℕ) (vs : List Value)
    → with_slot slot v h ≡ cell.Closure f vs → h ≡ cell.Closure f vs
slot_closure (Part i) v (cell.Object k ws) f vs e = cc
slot_closure (Part i) v (cell.Actor k ws) f vs e = cc
slot_closure (Part i) v (cell.BoxOf x) f vs e = e
slot_closure (Part i) v (cell.Closure g ws) f vs e = e
slot_closure (Part i) v (cell.TaskOf j) f vs e = e
slot_closure Content v (cell.Object k ws) f vs e = e
slot_closure Content v (cell.Actor k ws) f vs e = e
slot_closure Content v (cell.BoxOf x) f vs e = cc
slot_closure Content v (cell.Closure g ws) f vs e = e
slot_closure Content v (cell.TaskOf j) f vs e = e

-- a cell after the write, and what it was
record WasCell (cells : List HeapCell) (n : ℕ) (slot : Slot) (v : Value) (c : ℕ)
    (now : HeapCell) : Type 0 where
  old : HeapCell
  at : slice_get cells c ≡ Some old
  is : (now ≡ old) ⊎ ((c ≡ n) × (now ≡ with_slot slot v old))

was_cell : (cells : List HeapCell) (n : ℕ) (slot : Slot) (v : Value) (c : ℕ) (now : HeapCell)
    → slice_get (changed_at (with_slot slot v) n cells) c ≡ Some now → WasCell cells n slot v c now
was_cell cells n slot v c now e = elim (cases_eq c n) [
  | inr differ ↦ record {
    old = now;
    at = sym (changed_other (with_slot slot v) n c cells differ) ∙ e;
    is = inl refl;
  }
  | inl same ↦ by (slice_get cells c) refl same
]
  where
    by : (o : Option HeapCell) → slice_get cells c ≡ o → c ≡ n → WasCell cells n slot v c now
    by None is same =
        let gone = changed_at_none (with_slot slot v) n cells (ap (slice_get cells) (sym same) ∙ is)
        in
        let clash : None ≡ Some now = sym is ∙ sym (ap (λ l. slice_get l c) gone) ∙ e in
        absurd (let z : ⊥ = cc in z)
    by (Some h) is same = record {
      old = h;
      at = is;
      is = inr (
        same,
        some_injective (sym e ∙ ap (slice_get (changed_at (with_slot slot v) n cells)) same
            ∙ changed_at_found (with_slot slot v) n cells h
            (ap (slice_get cells) (sym same) ∙ is)),
      );
    }

-- ---- a slot is written with a value that reaches the cell's colour, or its actor's
module _ (graph : Graph) (state : State) (colours : Colours)
    (memory : OwnsMemory graph state colours) (n : ℕ) (slot : Slot) (v : Value)
    (own : (colour : Colour) → slice_index_or colours.cells n None ≡ Some colour
    → ReachesOnly state colours v colour)
    (kept : (h : HeapCell) (owner : Owner) → slice_get state.cells n ≡ Some h
    → keeper graph n h ≡ Some owner → ReachesOnly state colours v (OfActor owner)) where
  abbrev written : State
  written = in_cell (with_slot slot v) n state

  reached_was : (w : Value) (other : Colour)
      → Contains (colours_of written.cells colours.cells w) other
      → Contains (colours_of state.cells colours.cells w) other
  unfolding in_cell
  reached_was w other has = subst (λ (l : List Colour). Contains l other)
      (colours_written state.cells colours.cells n slot v w) has

  cell_was : (c : ℕ) (h : HeapCell) → slice_get written.cells c ≡ Some h
      → WasCell state.cells n slot v c h
  unfolding in_cell
  cell_was c h e = was_cell state.cells n slot v c h e

  closure_was : (c g : ℕ) (vs : List Value) → slice_get written.cells c ≡ Some (cell.Closure g vs)
      → slice_get state.cells c ≡ Some (cell.Closure g vs)
  closure_was c g vs e =
      let old = cell_was c (cell.Closure g vs) e in
      elim old.is [
        | inl same ↦ old.at ∙ ap Some (sym same)
        | inr both ↦ old.at ∙ ap Some (slot_closure slot v old.old g vs (sym both.1))
      ]

  marks : (c : ℕ) (h : HeapCell) (old : WasCell state.cells n slot v c h)
      → may_have_colour graph h ≡ may_have_colour graph old.old
  marks c h old = elim old.is [
    | inl same ↦ ap (may_have_colour graph) same
    | inr both ↦ ap (may_have_colour graph) both.1 ∙ slot_marks graph slot v old.old
  ]

  -- what such a cell holds
  holds : (P : Value → Type 0) (c : ℕ) (h : HeapCell) (old : WasCell state.cells n slot v c h)
      → ((w : Value) → Contains (values_in old.old) w → P w) → (c ≡ n → P v) → (w : Value)
      → Contains (values_in h) w → P w
  holds P c h old before new w has = elim old.is [
    | inl same ↦ before w (subst (λ k. Contains (values_in k) w) same has)
    | inr both ↦ elim (slot_holds slot v old.old w
        (subst (λ k. Contains (values_in k) w) both.1 has)) [
          | inl there ↦ before w there
          | inr is ↦ subst P is (new both.0)
        ]
  ]

  keeper_was : (c : ℕ) (h : HeapCell) (old : WasCell state.cells n slot v c h)
      → keeper graph c h ≡ keeper graph c old.old
  keeper_was c h old = elim old.is [
    | inl same ↦ ap (keeper graph c) same
    | inr both ↦ ap (keeper graph c) both.1 ∙ slot_keeper graph c slot v old.old
  ]

  pub memory_written : OwnsMemory graph written colours
  unfolding in_cell
  memory_written = record {
    count = memory.count ∙ sym (length-changed_at (with_slot slot v) n state.cells);
    marked = λ c h at may.
        let old = cell_was c h at in memory.marked c old.old old.at (sym (marks c h old) ∙ may);
    inside = λ c h colour w at is has other reached.
        let old = cell_was c h at in
        holds (λ u. ReachesOnly state colours u colour) c h old
        (λ u there. memory.inside c old.old colour u old.at is there)
        (λ same. own colour (ap (λ k. slice_index_or colours.cells k None) (sym same) ∙ is)) w has
        other (reached_was w other reached);
    kept = λ c h owner w at is has other reached.
        let old = cell_was c h at in
        let keeps = sym (keeper_was c h old) ∙ is in
        holds (λ u. ReachesOnly state colours u (OfActor owner)) c h old
        (λ u there. memory.kept c old.old owner u old.at keeps there)
        (λ same. kept old.old owner (ap (slice_get state.cells) (sym same) ∙ old.at)
        (ap (λ k. keeper graph k old.old) (sym same) ∙ keeps)) w has other (reached_was w other
        reached);
    globals = λ g kind w other at is reached.
        memory.globals g kind w other at is (reached_was w other reached);
    global_closures = λ c g actor vs colour at.
        memory.global_closures c g actor vs colour (closure_was c g vs at);
    own_closures = λ c g self vs colour at.
        memory.own_closures c g self vs colour (closure_was c g (self ∷ vs) at);
    earlier = λ c g vs w d at. memory.earlier c g vs w d (closure_was c g vs at);
  }

  pub have_written : HaveColours graph state.cells colours.cells
      → HaveColours graph written.cells colours.cells
  unfolding in_cell
  have_written have c colour is =
      let there = have c colour is in
      elim (cases_eq c n) [
        | inr differ ↦ (
          there.0,
          changed_other (with_slot slot v) n c state.cells differ ∙ there.1,
          there.2,
        )
        | inl same ↦ (
          with_slot slot v there.0,
          ap (slice_get (changed_at (with_slot slot v) n state.cells)) same
              ∙ changed_at_found (with_slot slot v) n state.cells there.0
              (ap (slice_get state.cells) (sym same) ∙ there.1),
          slot_marks graph slot v there.0 ∙ there.2,
        )
      ]

-- ---- a global is written with a value that reaches its actor's colour
module _ (graph : Graph) (state : State) (colours : Colours)
    (memory : OwnsMemory graph state colours) (n : ℕ) (v : Value)
    (own : (kind : GlobalKind) (other : Colour) → slice_get graph.globals n ≡ Some kind
    → Contains (colours_of state.cells colours.cells v) other
    → (actor : ℕ) × (kind.actor ≡ Some actor) × (other ≡ OfActor (GlobalActor actor))) where
  set_there : (globals : List (Option Value)) (k : ℕ) (w : Value)
      → value_at (slice_set globals k (Some v)) k ≡ Some w → v ≡ w
  set_there [] k w e = cc
  set_there (z ∷ zs) zero w e = some_injective e
  set_there (z ∷ zs) (suc k) w e = set_there zs k w e

  pub memory_global : OwnsMemory graph (set_global n v state) colours
  unfolding set_global
  memory_global = record {
    count = memory.count;
    marked = memory.marked;
    inside = memory.inside;
    kept = memory.kept;
    globals = λ g kind w other at is reached. by g kind w other at is reached (cases_eq g n);
    global_closures = memory.global_closures;
    own_closures = memory.own_closures;
    earlier = memory.earlier;
  }
    where
      by : (g : ℕ) (kind : GlobalKind) (w : Value) (other : Colour)
          → slice_get graph.globals g ≡ Some kind
          → value_at (slice_set state.globals n (Some v)) g ≡ Some w
          → Contains (colours_of state.cells colours.cells w) other
          → (g ≡ n) ⊎ (g ≢ n)
          → (actor : ℕ) × (kind.actor ≡ Some actor) × (other ≡ OfActor (GlobalActor actor))
      by g kind w other at is reached (inr differ) = memory.globals g kind w other at
          (sym (ap (option_and_then (λ (o : Option Value). o))
          (set_other state.globals n g (Some v) differ)) ∙ is) reached
      by g kind w other at is reached (inl same) =
          own kind other (ap (slice_get graph.globals) (sym same) ∙ at)
          (subst (λ u. Contains (colours_of state.cells colours.cells u) other)
          (sym (set_there state.globals n w
          (ap (value_at (slice_set state.globals n (Some v))) (sym same) ∙ is))) reached)
