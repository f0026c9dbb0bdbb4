-- What a value reaches is the colour of some cell.
use Rattle.std.proofs.Common.{◌≡◌, ◌==◌, ℕ, zero, suc, Bool, true, false, cond, Option, Some, None}
use Rattle.std.proofs.Common.{List, length, flat_map, Contains, refl, ap, ◌∙◌}
use Rattle.std.specs.List.{slice_get, slice_index_or}
use Rattle.sw_list.proofs.Members.{none_in, of_flat_map, one_in}
use Rattle.sw_value.specs.declared.cell.HeapCell.{HeapCell}
use Rattle.sw_value.specs.declared.cell.HeapCell.TheVariants as cell
use Rattle.sw_value.specs.declared.value.Value.{Value}
use Rattle.sw_reach_facts.specs.Reached.{colours_of, references, shown, shown_below}

module _ {C : Type 0} (cells : List HeapCell) (colours : List (Option C)) (c : C) where
  -- some cell has the colour
  abbrev OfSomeCell : Type 0
  OfSomeCell = (k : ℕ) × (slice_index_or colours k None ≡ Some c)

  of_shown : (below : ℕ → List C) → ((d : ℕ) → Contains (below d) c → OfSomeCell) → (n : ℕ)
      (o : Option C) → slice_index_or colours n None ≡ o → (p : Option HeapCell)
      → Contains (shown below o p) c → OfSomeCell
  of_shown below from n (Some colour) is p has = (n, is ∙ ap Some (one_in colour c has))
  of_shown below from n None is (Some (cell.Closure f captures)) has =
      let one = of_flat_map (λ v. flat_map below (references v)) captures c has in
      let at = of_flat_map below (references one.0) c one.2 in
      from at.0 at.2
  of_shown below from n None is (Some (cell.Object k vs)) has = absurd (none_in c has)
  of_shown below from n None is (Some (cell.Actor k vs)) has = absurd (none_in c has)
  of_shown below from n None is (Some (cell.BoxOf v)) has = absurd (none_in c has)
  of_shown below from n None is (Some (cell.TaskOf j)) has = absurd (none_in c has)
  of_shown below from n None is None has = absurd (none_in c has)

  of_below : (n d : ℕ) → Contains (shown_below cells colours n d) c → OfSomeCell
  unfolding shown_below
  of_below zero d has = absurd (none_in c has)
  of_below (suc n) d has = by (d == n) (of_below n) has where
    by : (b : Bool) → ((e : ℕ) → Contains (shown_below cells colours n e) c → OfSomeCell)
        → Contains (cond b (shown (shown_below cells colours n)
        (slice_index_or colours n None) (slice_get cells n)) (shown_below cells colours n d)) c
        → OfSomeCell
    by true from has = of_shown (shown_below cells colours n) from n
        (slice_index_or colours n None) refl (slice_get cells n) has
    by false from has = from d has

  -- what a value reaches is the colour of a cell
  pub reached_is_coloured : (v : Value) → Contains (colours_of cells colours v) c → OfSomeCell
  unfolding colours_of
  reached_is_coloured v has =
      let at = of_flat_map (shown_below cells colours (length cells)) (references v) c has in
      of_below (length cells) at.0 at.2
