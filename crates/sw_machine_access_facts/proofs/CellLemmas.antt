-- What stays of a list of cells where a slot of one gets another value, or a cell is added.
use Rattle.std.proofs.Common.{◌≡◌, ℕ, zero, suc, inl, inr, Option, Some, None, List, [], ◌∷◌, ◌++◌}
use Rattle.std.proofs.Common.{refl, ap, sym, subst, ◌∙◌, cond}
use Rattle.std.specs.Prelude.{option_and_then}
use Rattle.std.specs.List.{slice_get, slice_set}
use Rattle.std.proofs.lemmas.Bool.{cases_eq}
use Rattle.sw_graph.specs.declared.graph.Graph.{Graph}
use Rattle.sw_value.specs.declared.cell.HeapCell.{HeapCell}
use Rattle.sw_value.specs.declared.cell.HeapCell.TheVariants as cell
use Rattle.sw_value.specs.declared.cell.Slot.{Slot}
use Rattle.sw_value.specs.declared.cell.Slot.TheVariants.{Part, Content}
use Rattle.sw_value.specs.declared.frame.Frame.{Frame}
use Rattle.sw_value.specs.declared.race.Place.{Place}
use Rattle.sw_value.specs.declared.race.Place.TheVariants.{Prop, BoxOf}
use Rattle.sw_value.specs.declared.value.Value.{Value}
use Rattle.sw_value.specs.Access.{box_in, is_var_part, part_in}
use Rattle.sw_value.specs.Call.{closure_frame}
use Rattle.sw_value.specs.Cell.{slot_of, with_slot, task_of}
use Rattle.sw_value.specs.Lists.{changed_by, changed_at}
use Rattle.sw_value.proofs.ListLemmas.{changed_at_found, changed_at_none, set_there}

-- an item other than the one that is put or changed
pub set_other : {A : Type 0} (xs : List A) (j k : ℕ) (y : A) → (k ≡ j → ⊥)
    → slice_get (slice_set xs j y) k ≡ slice_get xs k
set_other [] j k y apart = refl
set_other (x ∷ xs) zero zero y apart = absurd (apart refl)
set_other (x ∷ xs) zero (suc k) y apart = refl
set_other (x ∷ xs) (suc j) zero y apart = refl
set_other (x ∷ xs) (suc j) (suc k) y apart = set_other xs j k y (λ e. apart (ap suc e))

pub changed_other : {A : Type 0} (g : A → A) (j k : ℕ) (xs : List A) → (k ≡ j → ⊥)
    → slice_get (changed_at g j xs) k ≡ slice_get xs k
unfolding changed_at
changed_other {A} g j k xs apart = by (slice_get xs j) where
  by : (o : Option A) → slice_get (changed_by o g j xs) k ≡ slice_get xs k
  by None = refl
  by (Some x) = set_other xs j k (g x) apart

-- a list with another item has the same places
pub set_same : {A B : Type 0} (o : Option B) (xs : List A) (n i : ℕ) (x : A)
    → option_and_then (λ _. o) (slice_get (slice_set xs n x) i)
    ≡ option_and_then (λ _. o) (slice_get xs i)
set_same o [] n i x = refl
set_same o (y ∷ xs) zero zero x = refl
set_same o (y ∷ xs) zero (suc i) x = refl
set_same o (y ∷ xs) (suc n) zero x = refl
set_same o (y ∷ xs) (suc n) (suc i) x = set_same o xs n i x

-- an item that is there stays where another is added
pub added_after : {A B C : Type 0} (f : A → Option B) (g : A → Option C) (x : A) (xs : List A)
    (k : ℕ) (y : B) → option_and_then f (slice_get xs k) ≡ Some y
    → option_and_then g (slice_get (xs ++ x ∷ []) k) ≡ option_and_then g (slice_get xs k)
added_after f g x [] k y e = cc
added_after f g x (z ∷ xs) zero y e = refl
added_after f g x (z ∷ xs) (suc k) y e = added_after f g x xs k y e

-- something that is said of a cell, whatever its slots have
pub record IsOfForm {B : Type 0} (f : HeapCell → Option B) : Type 0 where
  pub keeps : (slot : Slot) (v : Value) (h : HeapCell) → f (with_slot slot v h) ≡ f h

pub form_kept : {B : Type 0} (f : HeapCell → Option B) → IsOfForm f → (slot : Slot) (v : Value)
    (d : ℕ) (cells : List HeapCell) (c : ℕ)
    → option_and_then f (slice_get (changed_at (with_slot slot v) d cells) c)
    ≡ option_and_then f (slice_get cells c)
form_kept f form slot v d cells c = elim (cases_eq c d) [
  | inl e ↦
      subst
      (λ n. option_and_then f (slice_get (changed_at (with_slot slot v) n cells) c)
      ≡ option_and_then f (slice_get cells c)) e (by (slice_get cells c) refl)
  | inr apart ↦ ap (option_and_then f) (changed_other (with_slot slot v) d c cells apart)
] where
  by : (o : Option HeapCell) → slice_get cells c ≡ o
      → option_and_then f (slice_get (changed_at (with_slot slot v) c cells) c)
      ≡ option_and_then f (slice_get cells c)
  by None e =
      ap (λ l. option_and_then f (slice_get l c)) (changed_at_none (with_slot slot v) c cells e)
  by (Some h) e =
      ap (option_and_then f) (changed_at_found (with_slot slot v) c cells h e)
      ∙ form.keeps slot v h ∙ sym (ap (option_and_then f) e)

pub box_form : (c : ℕ) → IsOfForm (box_in c)
box_form c = record { keeps = by } where
  by : (slot : Slot) (v : Value) (h : HeapCell) → box_in c (with_slot slot v h) ≡ box_in c h
  by (Part i) v (cell.Object k parts) = refl
  by (Part i) v (cell.Actor k parts) = refl
  by Content v (cell.BoxOf held) = refl
  by slot v h = refl

pub part_form : (graph : Graph) (c i : ℕ) → IsOfForm (part_in graph c i)
part_form graph c i = record { keeps = by } where
  by : (slot : Slot) (v : Value) (h : HeapCell)
      → part_in graph c i (with_slot slot v h) ≡ part_in graph c i h
  by (Part n) v (cell.Object k parts) =
      set_same (cond (is_var_part graph.shapes k i) (Some (Prop c i)) None) parts n i v
  by (Part n) v (cell.Actor k parts) =
      set_same (cond (is_var_part graph.shapes k i) (Some (Prop c i)) None) parts n i v
  by Content v (cell.BoxOf held) = refl
  by slot v h = refl

pub task_form : IsOfForm task_of
task_form = record { keeps = by } where
  by : (slot : Slot) (v : Value) (h : HeapCell) → task_of (with_slot slot v h) ≡ task_of h
  by (Part i) v (cell.Object k parts) = refl
  by (Part i) v (cell.Actor k parts) = refl
  by Content v (cell.BoxOf held) = refl
  by slot v h = refl

pub closure_form : (graph : Graph) (caller : Frame) (r : ℕ) (values : List Value)
    → IsOfForm (closure_frame graph caller r values)
closure_form graph caller r values = record { keeps = by } where
  by : (slot : Slot) (v : Value) (h : HeapCell)
      → closure_frame graph caller r values (with_slot slot v h)
      ≡ closure_frame graph caller r values h
  by (Part i) v (cell.Object k parts) = refl
  by (Part i) v (cell.Actor k parts) = refl
  by Content v (cell.BoxOf held) = refl
  by slot v h = refl

-- whether a cell has a slot
pub slot_form : {B : Type 0} (o : Option B) (t : Slot)
    → IsOfForm (λ h. option_and_then (λ _. o) (slot_of t h))
slot_form o t = record { keeps = λ slot v h. by t slot v h } where
  by : (t slot : Slot) (v : Value) (h : HeapCell)
      → option_and_then (λ _. o) (slot_of t (with_slot slot v h))
      ≡ option_and_then (λ _. o) (slot_of t h)
  by (Part i) (Part n) v (cell.Object k parts) = set_same o parts n i v
  by (Part i) (Part n) v (cell.Actor k parts) = set_same o parts n i v
  by (Part i) Content v (cell.BoxOf held) = refl
  by Content (Part n) v (cell.Object k parts) = refl
  by Content Content v (cell.BoxOf held) = refl
  by t slot v h = refl

-- the place that a slot of cell c is
abbrev pub slot_place : ℕ → Slot → Place
slot_place c (Part i) = Prop c i
slot_place c Content = BoxOf c

-- a slot other than the one that gets a value
other_slot : (c : ℕ) (t slot : Slot) (v : Value) (h : HeapCell)
    → (slot_place c t ≡ slot_place c slot → ⊥) → slot_of t (with_slot slot v h) ≡ slot_of t h
other_slot c (Part i) (Part n) v (cell.Object k parts) apart =
    set_other parts n i v (λ e. apart (ap (Prop c) e))
other_slot c (Part i) (Part n) v (cell.Actor k parts) apart =
    set_other parts n i v (λ e. apart (ap (Prop c) e))
other_slot c (Part i) Content v (cell.BoxOf held) apart = refl
other_slot c Content (Part n) v (cell.Object k parts) apart = refl
other_slot c Content Content v h apart = absurd (apart refl)
other_slot c t slot v h apart = refl

pub slot_kept : (t slot : Slot) (v : Value) (d : ℕ) (cells : List HeapCell) (c : ℕ)
    → (slot_place c t ≡ slot_place d slot → ⊥)
    → option_and_then (slot_of t) (slice_get (changed_at (with_slot slot v) d cells) c)
    ≡ option_and_then (slot_of t) (slice_get cells c)
slot_kept t slot v d cells c apart = elim (cases_eq c d) [
  | inl e ↦
      subst
      (λ n. option_and_then (slot_of t) (slice_get (changed_at (with_slot slot v) n cells) c)
      ≡ option_and_then (slot_of t) (slice_get cells c)) e
      (by (λ same. apart (same ∙ ap (λ n. slot_place n slot) e)) (slice_get cells c) refl)
  | inr other ↦ ap (option_and_then (slot_of t)) (changed_other (with_slot slot v) d c cells other)
] where
  by : (slot_place c t ≡ slot_place c slot → ⊥) → (o : Option HeapCell) → slice_get cells c ≡ o
      → option_and_then (slot_of t) (slice_get (changed_at (with_slot slot v) c cells) c)
      ≡ option_and_then (slot_of t) (slice_get cells c)
  by apart None e =
      ap (λ l. option_and_then (slot_of t) (slice_get l c))
      (changed_at_none (with_slot slot v) c cells e)
  by apart (Some h) e =
      ap (option_and_then (slot_of t)) (changed_at_found (with_slot slot v) c cells h e)
      ∙ other_slot c t slot v h apart ∙ sym (ap (option_and_then (slot_of t)) e)

-- the slot that gets a value has it
same_slot : (slot : Slot) (v w : Value) (h : HeapCell) → slot_of slot h ≡ Some w
    → slot_of slot (with_slot slot v h) ≡ Some v
same_slot (Part i) v w (cell.Object k parts) has = set_there parts i w v has
same_slot (Part i) v w (cell.Actor k parts) has = set_there parts i w v has
same_slot Content v w (cell.BoxOf held) has = refl
same_slot slot v w h has = cc

pub slot_changed : (slot : Slot) (v w : Value) (cells : List HeapCell) (c : ℕ)
    → option_and_then (slot_of slot) (slice_get cells c) ≡ Some w
    → option_and_then (slot_of slot) (slice_get (changed_at (with_slot slot v) c cells) c) ≡ Some v
slot_changed slot v w cells c = by (slice_get cells c) refl where
  by : (o : Option HeapCell) → slice_get cells c ≡ o
      → option_and_then (slot_of slot) o ≡ Some w
      → option_and_then (slot_of slot) (slice_get (changed_at (with_slot slot v) c cells) c)
      ≡ Some v
  by None e has = cc
  by (Some h) e has =
      ap (option_and_then (slot_of slot)) (changed_at_found (with_slot slot v) c cells h e)
      ∙ same_slot slot v w h has
