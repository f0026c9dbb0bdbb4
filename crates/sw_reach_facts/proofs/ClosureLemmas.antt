-- What a closure without a colour shows: what it captured.
use Rattle.std.specs.List.{slice_get, slice_index_or}
use Rattle.std.proofs.Common.{◌≡◌, ◌<◌, ℕ, List, Option, Some, None, length, flat_map, Contains}
use Rattle.std.proofs.Common.{refl, sym, subst, ap, ◌∙◌, arith}
use Rattle.std.proofs.lemmas.Option.{slice_get_within}
use Rattle.sw_list.proofs.Members.{flat_map_same, in_flat_map}
use Rattle.sw_value.specs.declared.cell.HeapCell.{HeapCell}
use Rattle.sw_value.specs.declared.cell.HeapCell.TheVariants.{Closure}
use Rattle.sw_value.specs.declared.value.Value.{Value, out-Value}
use Rattle.sw_value.specs.declared.value.Value.TheOpen as layer
use Rattle.sw_value.specs.Value.{reference_of}
use Rattle.sw_reach_facts.specs.Coloured.{CaptureEarlier}
use Rattle.sw_reach_facts.specs.Reached.{references, shown, shown_below, colours_of}
use Rattle.sw_reach_facts.proofs.CellLemmas.{shown_at, colours_of_cell}
use Rattle.sw_reach_facts.proofs.ReferenceLemmas.{cell_of}

module _ {C : Type 0} (cells : List HeapCell) (colours : List (Option C))
    (earlier : CaptureEarlier cells) where
  -- a cell shows the same among any number of cells
  shown_among : (n m c : ℕ) → c < n → c < m
      → shown_below cells colours n c ≡ shown_below cells colours m c
  shown_among n m c in_n in_m =
      shown_at cells colours c n c refl in_n ∙ sym (shown_at cells colours c m c refl in_m)

  pub closure_shows : (v : Value) (c f : ℕ) (captures : List Value)
      → out-Value v ≡ layer.Cell c → slice_get cells c ≡ Some (Closure f captures)
      → slice_index_or colours c None ≡ None
      → colours_of cells colours v ≡ flat_map (colours_of cells colours) captures
  unfolding colours_of
  closure_shows v c f captures refers at none =
      colours_of_cell cells colours v c refers inside
      ∙ ap (λ o. shown (shown_below cells colours c) o (slice_get cells c)) none
      ∙ ap (shown (shown_below cells colours c) None) at
      ∙ flat_map_same (λ w. flat_map (shown_below cells colours c) (references w))
      (colours_of cells colours) captures (λ w has. each w has) where
        inside : c < length cells
        inside = slice_get_within cells c (Closure f captures) at

        each : (w : Value) → Contains captures w
            → flat_map (shown_below cells colours c) (references w) ≡ colours_of cells colours w
        each w has =
            flat_map_same (shown_below cells colours c)
            (shown_below cells colours (length cells)) (references w) (λ d refers.
            let before = earlier c f captures w d at has refers in
            shown_among c (length cells) d before (omega (arith, before, inside)))

  pub reference_captures : (v : Value) (c f : ℕ) (captures : List Value)
      → reference_of v ≡ Some c → slice_get cells c ≡ Some (Closure f captures)
      → slice_index_or colours c None ≡ None
      → colours_of cells colours v ≡ flat_map (colours_of cells colours) captures
  reference_captures v c f captures refers = closure_shows v c f captures (cell_of v c refers)

  pub capture_within : (v : Value) (c f : ℕ) (captures : List Value) (w : Value) (colour : C)
      → reference_of v ≡ Some c → slice_get cells c ≡ Some (Closure f captures)
      → slice_index_or colours c None ≡ None → Contains captures w
      → Contains (colours_of cells colours w) colour
      → Contains (colours_of cells colours v) colour
  capture_within v c f captures w colour refers at none has shows =
      subst (λ l. Contains l colour) (sym (reference_captures v c f captures refers at none))
      (in_flat_map (colours_of cells colours) captures w colour has shows)
