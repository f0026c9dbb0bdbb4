-- A cell more, and a slot that is written, change nothing of what values reach.
use Rattle.std.specs.List.{slice_get, slice_index_or}
use Rattle.std.proofs.Common.{◌≡◌, ℕ, suc, ◌<◌, Option, Some, None, List, [], ◌∷◌, ◌++◌, length}
use Rattle.std.proofs.Common.{flat_map, refl, sym, subst, ap, ◌∙◌, arith, inl, inr}
use Rattle.std.proofs.lemmas.Bool.{cases_eq}
use Rattle.std.proofs.lemmas.List.{get_or_append_left, length-append}
use Rattle.sw_list.proofs.Members.{flat_map_same}
use Rattle.sw_list.proofs.ListLemmas.{slice_get_before}
use Rattle.sw_value.specs.declared.cell.HeapCell.{HeapCell}
use Rattle.sw_value.specs.declared.cell.HeapCell.TheVariants as cell
use Rattle.sw_value.specs.declared.cell.Slot.{Slot}
use Rattle.sw_value.specs.declared.cell.Slot.TheVariants.{Part, Content}
use Rattle.sw_value.specs.declared.value.Value.{Value}
use Rattle.sw_value.specs.Cell.{with_slot}
use Rattle.sw_value.specs.Lists.{changed_at}
use Rattle.sw_value.proofs.ListLemmas.{changed_at_found, length-changed_at, changed_at_none}
use Rattle.sw_machine_kind_facts.proofs.ItemLemmas.{changed_other, found_within}
use Rattle.sw_reach_facts.specs.Named.{NamesCells}
use Rattle.sw_reach_facts.specs.Reached.{references, shown, shown_below, colours_of}
use Rattle.sw_reach_facts.proofs.CellLemmas.{shown_same, shown_next}

module _ {C : Type 0} where
  -- a cell more
  pub colours_before : (cells : List HeapCell) (colours : List (Option C)) (cell : HeapCell)
      (colour : Option C) (v : Value) → length colours ≡ length cells
      → NamesCells cells v
      → colours_of (cells ++ cell ∷ []) (colours ++ colour ∷ []) v ≡ colours_of cells colours v
  unfolding colours_of
  colours_before cells colours cell colour v count named =
      flat_map_same (shown_below (cells ++ cell ∷ []) (colours ++ colour ∷ [])
      (length (cells ++ cell ∷ []))) (shown_below cells colours (length cells)) (references v)
      (λ c has. by c (named c has)) where
        more : length (cells ++ cell ∷ []) ≡ suc (length cells)
        more = let e = length-append cells (cell ∷ []) in omega (arith, e)

        same : (k : ℕ) → k < length cells → (below : ℕ → List C)
            → shown below (slice_index_or (colours ++ colour ∷ []) k None)
            (slice_get (cells ++ cell ∷ []) k)
            ≡ shown below (slice_index_or colours k None) (slice_get cells k)
        same k lt below =
            let found = found_within cells k lt in
            ap (λ o. shown below o (slice_get (cells ++ cell ∷ []) k))
            (get_or_append_left colours (colour ∷ []) None k (subst (λ n. k < n) (sym count) lt))
            ∙ ap (shown below (slice_index_or colours k None))
            (slice_get_before cells (cell ∷ []) k found.0 found.1 ∙ sym found.1)

        by : (c : ℕ) → c < length cells
            → shown_below (cells ++ cell ∷ []) (colours ++ colour ∷ [])
            (length (cells ++ cell ∷ [])) c ≡ shown_below cells colours (length cells) c
        by c lt =
            ap (λ n. shown_below (cells ++ cell ∷ []) (colours ++ colour ∷ []) n c) more
            ∙ shown_next (cells ++ cell ∷ []) (colours ++ colour ∷ []) (length cells) c lt
            ∙ shown_same (cells ++ cell ∷ []) cells (colours ++ colour ∷ []) colours (length cells)
            same c

  -- a slot that is written
  slot_shows : (below : ℕ → List C) (o : Option C) (slot : Slot) (v : Value) (h : HeapCell)
      → shown below o (Some (with_slot slot v h)) ≡ shown below o (Some h)
  slot_shows below (Some colour) slot v h = refl
  slot_shows below None (Part i) v (cell.Object k vs) = refl
  slot_shows below None (Part i) v (cell.Actor k vs) = refl
  slot_shows below None (Part i) v (cell.BoxOf w) = refl
  slot_shows below None (Part i) v (cell.Closure f vs) = refl
  slot_shows below None (Part i) v (cell.TaskOf j) = refl
  slot_shows below None Content v (cell.Object k vs) = refl
  slot_shows below None Content v (cell.Actor k vs) = refl
  slot_shows below None Content v (cell.BoxOf w) = refl
  slot_shows below None Content v (cell.Closure f vs) = refl
  slot_shows below None Content v (cell.TaskOf j) = refl

  pub colours_written : (cells : List HeapCell) (colours : List (Option C)) (c : ℕ) (slot : Slot)
      (w v : Value)
      → colours_of (changed_at (with_slot slot w) c cells) colours v ≡ colours_of cells colours v
  unfolding colours_of
  colours_written cells colours c slot w v =
      ap (λ n. flat_map (shown_below (changed_at (with_slot slot w) c cells) colours n)
      (references v)) (length-changed_at (with_slot slot w) c cells)
      ∙ flat_map_same (shown_below (changed_at (with_slot slot w) c cells) colours (length cells))
      (shown_below cells colours (length cells)) (references v)
      (λ d has. shown_same (changed_at (with_slot slot w) c cells) cells colours colours
      (length cells) (λ k lt below. same k below) d)
    where
      at : (below : ℕ → List C) (k : ℕ) (o : Option HeapCell) → k ≡ c → slice_get cells k ≡ o
          → shown below (slice_index_or colours k None)
          (slice_get (changed_at (with_slot slot w) c cells) k)
          ≡ shown below (slice_index_or colours k None) (slice_get cells k)
      at below k None e is = ap (λ l. shown below (slice_index_or colours k None) (slice_get l k))
          (changed_at_none (with_slot slot w) c cells (ap (slice_get cells) (sym e) ∙ is))
      at below k (Some h) e is =
          ap (shown below (slice_index_or colours k None))
          (ap (slice_get (changed_at (with_slot slot w) c cells)) e
          ∙ changed_at_found (with_slot slot w) c cells h (ap (slice_get cells) (sym e) ∙ is))
          ∙ slot_shows below (slice_index_or colours k None) slot w h
          ∙ ap (shown below (slice_index_or colours k None)) (sym is)

      same : (k : ℕ) (below : ℕ → List C) → shown below (slice_index_or colours k None)
          (slice_get (changed_at (with_slot slot w) c cells) k)
          ≡ shown below (slice_index_or colours k None) (slice_get cells k)
      same k below = elim (cases_eq k c) [
        | inl e ↦ at below k (slice_get cells k) e refl
        | inr differ ↦ ap (shown below (slice_index_or colours k None))
            (changed_other (with_slot slot w) c k cells differ)
      ]
