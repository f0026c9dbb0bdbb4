-- Colours that are renamed.
use Rattle.std.specs.Option.{option_map}
use Rattle.std.specs.List.{slice_get, slice_index_or}
use Rattle.std.proofs.Common.{◌≡◌, ℕ, zero, suc, ◌==◌, Bool, true, false, cond, Option, Some, None}
use Rattle.std.proofs.Common.{List, [], ◌∷◌, length, map, flat_map, refl, sym, ap, ◌∙◌}
use Rattle.sw_list.proofs.Members.{flat_map_same, map-flat_map}
use Rattle.sw_value.specs.declared.cell.HeapCell.{HeapCell}
use Rattle.sw_value.specs.declared.cell.HeapCell.TheVariants as cell
use Rattle.sw_value.specs.declared.value.Value.{Value}
use Rattle.sw_reach_facts.specs.Reached.{references, reached_by, shown, shown_below, colours_of}

module _ {C D : Type 0} (rename : C → D) where
  pub index_renamed : (colours : List (Option C)) (k : ℕ)
      → slice_index_or (map (option_map rename) colours) k None
      ≡ option_map rename (slice_index_or colours k None)
  index_renamed [] k = refl
  index_renamed (o ∷ os) zero = refl
  index_renamed (o ∷ os) (suc k) = index_renamed os k

  reached_renamed : (below : ℕ → List C) (vs : List Value)
      → reached_by (λ c. map rename (below c)) vs ≡ map rename (reached_by below vs)
  reached_renamed below vs =
      flat_map_same (λ v. flat_map (λ c. map rename (below c)) (references v))
      (λ v. map rename (flat_map below (references v))) vs
      (λ v has. sym (map-flat_map rename below (references v)))
      ∙ sym (map-flat_map rename (λ v. flat_map below (references v)) vs)

  shown_renamed : (below : ℕ → List C) (o : Option C) (p : Option HeapCell)
      → shown (λ c. map rename (below c)) (option_map rename o) p ≡ map rename (shown below o p)
  shown_renamed below (Some colour) p = refl
  shown_renamed below None None = refl
  shown_renamed below None (Some (cell.Closure f vs)) = reached_renamed below vs
  shown_renamed below None (Some (cell.Object k vs)) = refl
  shown_renamed below None (Some (cell.Actor k vs)) = refl
  shown_renamed below None (Some (cell.BoxOf v)) = refl
  shown_renamed below None (Some (cell.TaskOf j)) = refl

  below_renamed : (cells : List HeapCell) (colours : List (Option C)) (n c : ℕ)
      → shown_below cells (map (option_map rename) colours) n c
      ≡ map rename (shown_below cells colours n c)
  unfolding shown_below
  below_renamed cells colours zero c = refl
  below_renamed cells colours (suc n) c =
      by (c == n) (below_renamed cells colours n) where
        by : (b : Bool) → ((d : ℕ) → shown_below cells (map (option_map rename) colours) n d
            ≡ map rename (shown_below cells colours n d))
            → cond b (shown (shown_below cells (map (option_map rename) colours) n)
            (slice_index_or (map (option_map rename) colours) n None) (slice_get cells n))
            (shown_below cells (map (option_map rename) colours) n c)
            ≡ map rename (cond b (shown (shown_below cells colours n)
            (slice_index_or colours n None) (slice_get cells n)) (shown_below cells colours n c))
        by true below =
            ap (λ f. shown f (slice_index_or (map (option_map rename) colours) n None)
            (slice_get cells n)) (λ i d. below d i)
            ∙ ap (λ o. shown (λ d. map rename (shown_below cells colours n d)) o (slice_get cells n))
            (index_renamed colours n)
            ∙ shown_renamed (shown_below cells colours n) (slice_index_or colours n None)
            (slice_get cells n)
        by false below = below c

  pub colours_renamed : (cells : List HeapCell) (colours : List (Option C)) (v : Value)
      → colours_of cells (map (option_map rename) colours) v ≡ map rename (colours_of cells colours v)
  unfolding colours_of
  colours_renamed cells colours v =
      flat_map_same (shown_below cells (map (option_map rename) colours) (length cells))
      (λ c. map rename (shown_below cells colours (length cells) c)) (references v)
      (λ c has. below_renamed cells colours (length cells) c)
      ∙ sym (map-flat_map rename (shown_below cells colours (length cells)) (references v))
