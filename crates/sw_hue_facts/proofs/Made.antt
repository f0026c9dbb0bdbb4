-- What is made, by hue: colours, cells and frames.
use Rattle.std.proofs.Common.{◌≡◌, ◌<◌, ℕ, Option, Some, List, [], ◌∷◌, ◌++◌, length, map, take}
use Rattle.std.proofs.Common.{refl, sym, ap, ◌∙◌}
use Rattle.std.specs.Prelude.{◌-◌}
use Rattle.std.specs.List.{All, slice_get, take-map}
use Rattle.std.proofs.lemmas.List.{get_or_at, length-map, map-append}
use Rattle.std.proofs.lemmas.List.Elements.{All-head}
use Rattle.sw_value.proofs.ListLemmas.{slice_get_end}
use Rattle.sw_color_rules.specs.declared.colors.Colors.{Colors}
use Rattle.sw_color_rules.specs.declared.colors.Owner.{Owner}
use Rattle.sw_color_rules.specs.declared.colors.Palette.{Palette}
use Rattle.sw_color_rules.specs.declared.colors.Tint.{Tint}
use Rattle.sw_color_rules.specs.declared.colors.Tint.TheVariants.{Bare, Colored, Owns, Holds}
use Rattle.sw_color_rules.specs.Changes.{Begin, Fresh, Mark, Pop, Push, after_change, begin_heres}
use Rattle.sw_color_rules.specs.Changes.{mark, pop_here, push_here, with_last, without_last}
use Rattle.sw_color_rules.specs.Palette.{IsWhole, fresh}
use Rattle.sw_color_rules.specs.Ranges.{AreBelow, AreMade, noted}
use Rattle.sw_late_facts.specs.Hues.{hue, hue_by}
use Rattle.sw_late_facts.proofs.HueLemmas.{fresh_stays}
use Rattle.sw_owner_facts.specs.Colours.{Colour}
use Rattle.sw_secure_facts.specs.Painting.{with_here, with_job, without_here}
use Rattle.sw_view_facts.specs.Memory.{coloured_more}
use Rattle.sw_view_facts.specs.Views.{Colours}
use Rattle.sw_hue_facts.specs.Hued.{cell_hue, hued}
use Rattle.sw_hue_facts.proofs.Lists.{map_all, map_changed}

-- ---- colours
-- palettes that agree on the hues of the numbers below a count
module _ (p q : Palette) (count : ℕ) (same : (n : ℕ) → n < count → hue q n ≡ hue p n) where
  cell_same : (tint : Tint) → AreBelow count (noted tint) → cell_hue q tint ≡ cell_hue p tint
  cell_same Bare below = refl
  cell_same (Colored n) below = ap (λ c. Some c) (same n (All-head (λ m. m < count) n [] below))
  cell_same (Owns n) below = refl
  cell_same (Holds ns) below = refl

  row_same : (ns : List ℕ) → AreBelow count ns → map (hue q) ns ≡ map (hue p) ns
  row_same ns below = map_all (λ n. n < count) (hue q) (hue p) ns same below

  pub hued_same : (cells : List Tint) (heres : List (List ℕ))
      → All (λ tint. AreBelow count (noted tint)) cells → All (AreBelow count) heres
      → hued (record { cells = cells; heres = heres; palette = q })
      ≡ hued (record { cells = cells; heres = heres; palette = p })
  hued_same cells heres cells_below heres_below =
      ap (λ (cs : List (Option Colour)). record { cells = cs; heres = map (map (hue q)) heres })
      (map_all (λ tint. AreBelow count (noted tint)) (cell_hue q) (cell_hue p) cells cell_same
      cells_below)
      ∙ ap (λ (hs : List (List Colour)). record { cells = map (cell_hue p) cells; heres = hs })
      (map_all (AreBelow count) (map (hue q)) (map (hue p)) heres row_same heres_below)

fresh_is : (owner : Owner) (p : Palette) → IsWhole p
    → hue (fresh owner p) (length p.names) ≡ hue_by (Some owner) (length p.names)
unfolding fresh
fresh_is owner p whole =
    ap (λ k. hue_by (slice_get (p.owners ++ owner ∷ []) k) k)
    (get_or_at p.names (length p.names) [] (length p.names) (length p.names) refl)
    ∙ ap (λ o. hue_by o (length p.names))
    (ap (slice_get (p.owners ++ owner ∷ [])) (sym whole.owned) ∙ slice_get_end p.owners owner)

pub fresh_made : (owner : Owner) (colors : Colors) → IsWhole colors.palette → AreMade colors
    → (hued (after_change colors (Fresh owner)) ≡ hued colors)
    × (hue (after_change colors (Fresh owner)).palette (length colors.palette.names)
    ≡ hue_by (Some owner) (length colors.palette.names))
fresh_made owner colors whole made = (
  hued_same colors.palette (fresh owner colors.palette) (length colors.palette.names)
      (fresh_stays owner colors.palette whole) colors.cells colors.heres made.cells made.heres,
  fresh_is owner colors.palette whole,
)

-- ---- cells and frames
pub cell_made : (tint : Tint) (colors : Colors)
    → hued (after_change colors (Mark tint))
    ≡ coloured_more (cell_hue colors.palette tint) (hued colors)
unfolding mark
cell_made tint colors =
    ap (λ (cs : List (Option Colour)). record {
      cells = cs;
      heres = map (map (hue colors.palette)) colors.heres;
    }) (map-append (cell_hue colors.palette) colors.cells (tint ∷ []))

module _ (colors : Colors) where
  with_heres : List (List Colour) → Colours
  with_heres hs = record { cells = map (cell_hue colors.palette) colors.cells; heres = hs }

  pub frame_made : (job n : ℕ) → hued (after_change colors (Push job n))
      ≡ with_here job (hue colors.palette n) (hued colors)
  unfolding push_here with_last with_heres
  frame_made job n = ap with_heres (map_changed (map (hue colors.palette)) (with_last n)
      (λ row. row ++ hue colors.palette n ∷ []) job colors.heres
      (λ row. map-append (hue colors.palette) row (n ∷ [])))

  pub job_made : (n : ℕ) → hued (after_change colors (Begin n))
      ≡ with_job (hue colors.palette n) (hued colors)
  unfolding begin_heres with_heres
  job_made n = ap with_heres (map-append (map (hue colors.palette)) colors.heres ((n ∷ []) ∷ []))

  pub frame_gone : (job : ℕ) → hued (after_change colors (Pop job)) ≡ without_here job (hued colors)
  unfolding pop_here without_last with_heres
  frame_gone job = ap with_heres (map_changed (map (hue colors.palette)) without_last
      (λ row. take (length row - 1) row) job colors.heres
      (λ row. sym (take-map (hue colors.palette) (length row - 1) row)
      ∙ ap (λ k. take (k - 1) (map (hue colors.palette) row))
      (sym (length-map row (hue colors.palette)))))
