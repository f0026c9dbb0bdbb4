-- What stands at a place after an act stood there before, or the act gives it.
use Rattle.std.proofs.Common.{◌≡◌, ◌⊎◌, inl, inr, ℕ, zero, suc, Some, List, [], ◌∷◌}
use Rattle.std.proofs.Common.{length, Contains, refl, ap, sym, ◌∙◌, subst}
use Rattle.std.specs.Prelude.{IsSome, is_some, option_and_then}
use Rattle.std.specs.List.{slice_get, slice_set}
use Rattle.sw_list.proofs.ListLemmas.{some_injective}
use Rattle.sw_list.proofs.Members.{none_in, in_one, member_at}
use Rattle.sw_value.specs.declared.cell.HeapCell.{HeapCell}
use Rattle.sw_value.specs.declared.cell.HeapCell.TheVariants as cell
use Rattle.sw_value.specs.declared.cell.Slot.{Slot}
use Rattle.sw_value.specs.declared.cell.Slot.TheVariants.{Part, Content}
use Rattle.sw_value.specs.declared.effect.Act.{Act}
use Rattle.sw_value.specs.declared.effect.Act.TheVariants.{Execute}
use Rattle.sw_value.specs.declared.effect.Effect.TheVariants as effect
use Rattle.sw_value.specs.declared.race.Place.{Place}
use Rattle.sw_value.specs.declared.race.Place.TheVariants.{Prop, BoxOf, Global}
use Rattle.sw_value.specs.declared.state.State.{State}
use Rattle.sw_value.specs.declared.value.Value.{Value}
use Rattle.sw_value.specs.Cell.{slot_of, with_slot}
use Rattle.sw_value.specs.Reach.{after_act}
use Rattle.sw_value.specs.State.{in_job, add_job, add_cell, in_cell, set_global, halt}
use Rattle.sw_value.specs.Value.{value_at}
use Rattle.sw_machine_access_facts.specs.Location.{content_of}
use Rattle.sw_machine_access_facts.proofs.CellLemmas.{slot_place}
use Rattle.sw_machine_access_facts.proofs.ContentLemmas.{slot_content}
use Rattle.sw_machine_let_facts.specs.Lets.{IsInCell}
use Rattle.sw_reach_facts.specs.Named.{values_in}
use Rattle.sw_reach_facts.specs.Reached.{references}
use Rattle.sw_machine_name_facts.specs.Given.{ActGives, LiesIn, made_cell}
use Rattle.sw_machine_name_facts.specs.Names.{PlaceNames}
use Rattle.sw_machine_name_facts.proofs.Cells.{CellAfter, stays, written, added, new_cell, cell_after}
use Rattle.sw_machine_name_facts.proofs.Items.{of_set}
use Rattle.sw_machine_name_facts.proofs.Needs.{of_and_then}

-- where a place is that gets a value: in a cell, where it has one already, or among the globals, or
-- in a cell that is made
pub data Gets (state : State) (act : Act) (place : Place) : Type 0 where
  has_one : IsInCell place → IsSome (content_of state place) → Gets state act place
  is_global : (g : ℕ) → place ≡ Global g → Gets state act place
  in_new : (c : ℕ) → made_cell act ≡ Some c → LiesIn place c → Gets state act place

-- ---- cells that are made
slot_within : (t : Slot) (h : HeapCell) (v : Value) → slot_of t h ≡ Some v
    → Contains (values_in h) v
slot_within (Part i) (cell.Object k parts) v has = member_at parts i v has
slot_within (Part i) (cell.Actor k parts) v has = member_at parts i v has
slot_within Content (cell.BoxOf w) v has =
    subst (λ u. Contains (values_in (cell.BoxOf u)) v) (sym (some_injective has)) (in_one v)
slot_within t h v has = cc

-- what is in such a cell, the act gives
pub new_gives : (act : Act) (h : HeapCell) (v : Value) (k : ℕ) → new_cell act ≡ Some h
    → Contains (values_in h) v → Contains (references v) k → ActGives act k
new_gives (Execute (effect.New r new number next)) h v k is has names =
    (v, subst (λ c. Contains (values_in c) v) (sym (some_injective is)) has, names)
new_gives (Execute (effect.Spawn r frame task number next)) h v k is has names =
    absurd (none_in v (subst (λ c. Contains (values_in c) v) (sym (some_injective is)) has))
new_gives act h v k is has names = cc

pub new_number : (act : Act) (h : HeapCell) → new_cell act ≡ Some h
    → (c : ℕ) × (made_cell act ≡ Some c)
new_number (Execute (effect.New r new number next)) h is = (number, refl)
new_number (Execute (effect.Spawn r frame task number next)) h is = (number, refl)
new_number act h is = cc

-- ---- places in cells
-- an item that is put where there was one
part_after : (parts : List Value) (i n : ℕ) (w v : Value) → slice_get (slice_set parts n w) i ≡ Some v
    → (slice_get parts i ≡ Some v) ⊎ ((w ≡ v) × IsSome (slice_get parts i))
part_after parts i n w v has = elim (of_set parts n i w v has) [
  | inl was ↦ inl was
  | inr (here, same) ↦ inr (same, still parts i n w v has)
] where
  still : (parts : List Value) (i n : ℕ) (w v : Value) → slice_get (slice_set parts n w) i ≡ Some v
      → IsSome (slice_get parts i)
  still [] i n w v has = cc
  still (p ∷ ps) zero n w v has = refl
  still (p ∷ ps) (suc i) zero w v has = ap is_some has
  still (p ∷ ps) (suc i) (suc n) w v has = still ps i n w v has

-- a slot after a value is put into one
slot_after : (t slot : Slot) (w v : Value) (h : HeapCell) → slot_of t (with_slot slot w h) ≡ Some v
    → (slot_of t h ≡ Some v) ⊎ ((w ≡ v) × IsSome (slot_of t h))
slot_after (Part i) (Part n) w v (cell.Object k parts) has = part_after parts i n w v has
slot_after (Part i) (Part n) w v (cell.Actor k parts) has = part_after parts i n w v has
slot_after Content Content w v (cell.BoxOf held) has = inr (some_injective has, refl)
slot_after (Part i) Content w v (cell.BoxOf held) has = cc
slot_after Content (Part n) w v (cell.Object k parts) has = cc
slot_after t slot w v h has = inl has

-- the value of a slot of cell c
slot_named : (state : State) (c : ℕ) (t : Slot) (h : HeapCell) (v : Value) (k : ℕ)
    → slice_get state.cells c ≡ Some h → slot_of t h ≡ Some v → Contains (references v) k
    → PlaceNames state (slot_place c t) k
slot_named state c t h v k at has names = record {
  value = v;
  has = slot_content c t state ∙ ap (option_and_then (slot_of t)) at ∙ has;
  names = names;
}

inside : (c : ℕ) (t : Slot) → IsInCell (slot_place c t)
inside c (Part i) = tt
inside c Content = tt

lies : (c : ℕ) (t : Slot) → LiesIn (slot_place c t) c
lies c (Part i) = refl
lies c Content = refl

slot_found : (j : ℕ) (act : Act) (state : State)
    → ((c : ℕ) → made_cell act ≡ Some c → c ≡ length state.cells) → (c : ℕ) (t : Slot) (k : ℕ)
    → PlaceNames (after_act j act state) (slot_place c t) k
    → PlaceNames state (slot_place c t) k ⊎ (ActGives act k × Gets state act (slot_place c t))
slot_found j act state next_is c t k n =
    let cells = (after_act j act state).cells in
    let found = of_and_then (slot_of t) (slice_get cells c) n.value
    (sym (slot_content c t (after_act j act state)) ∙ n.has) in
    by found.0 (cell_after j act state c found.0 found.1) found.2 where
      by : (h : HeapCell) → CellAfter state act c h → slot_of t h ≡ Some n.value
          → PlaceNames state (slot_place c t) k
          ⊎ (ActGives act k × Gets state act (slot_place c t))
      by h (stays was) has = inl (slot_named state c t h n.value k was has n.names)
      by h (written slot w next is old was same) has =
          elim (slot_after t slot w n.value old (ap (slot_of t) same ∙ has)) [
            | inl before ↦ inl (slot_named state c t old n.value k was before n.names)
            | inr (value, some) ↦ inr (
              subst (λ a. ActGives a k) (sym is)
                  (subst (λ u. Contains (references u) k) (sym value) n.names),
              has_one (inside c t)
                  (subst IsSome (sym (slot_content c t state
                  ∙ ap (option_and_then (slot_of t)) was)) some),
            )
          ]
      by h (added here is) has =
          let number = new_number act h is in inr (
            new_gives act h n.value k is (slot_within t h n.value has) n.names,
            in_new c (number.1 ∙ ap Some (next_is number.0 number.1 ∙ sym here)) (lies c t),
          )

-- ---- globals
global_found : (j : ℕ) (act : Act) (state : State) (g : ℕ) (v : Value) (k : ℕ)
    → value_at (after_act j act state).globals g ≡ Some v → Contains (references v) k
    → (value_at state.globals g ≡ Some v) ⊎ ActGives act k
unfolding in_job add_job add_cell in_cell set_global halt
global_found j (Execute (effect.WriteGlobal h w next)) state g v k has names =
    let found = of_and_then (λ o. o) (slice_get (slice_set state.globals h (Some w)) g) v has in
    elim (of_set state.globals h g (Some w) found.0 found.1) [
      | inl was ↦ inl (ap (option_and_then (λ o. o)) was ∙ found.2)
      | inr (here, same) ↦
          inr (subst (λ u. Contains (references u) k) (sym (some_injective (same ∙ found.2))) names)
    ]
global_found j act state g v k has names = inl has

pub place_found : (j : ℕ) (act : Act) (state : State)
    → ((c : ℕ) → made_cell act ≡ Some c → c ≡ length state.cells) → (place : Place) (k : ℕ)
    → PlaceNames (after_act j act state) place k
    → PlaceNames state place k ⊎ (ActGives act k × Gets state act place)
place_found j act state next_is (Prop c i) k n = slot_found j act state next_is c (Part i) k n
place_found j act state next_is (BoxOf c) k n = slot_found j act state next_is c Content k n
place_found j act state next_is (Global g) k n =
    elim (global_found j act state g n.value k n.has n.names) [
      | inl was ↦ inl (record { value = n.value; has = was; names = n.names })
      | inr gives ↦ inr (gives, is_global g refl)
    ]
