-- Palettes stay whole, and keep their count of colours, where colours merge or are handed over.
use Rattle.std.proofs.Common.{◌≡◌, ℕ, Bool, true, false, cond, eqb, min, max, [], ◌∷◌, length, refl}
use Rattle.std.proofs.lemmas.List.{length-map}
use Rattle.sw_color_rules.specs.declared.colors.Palette.{Palette}
use Rattle.sw_color_rules.specs.Changes.{HandOver, Merge}
use Rattle.sw_color_rules.specs.Names.{name_in, turned}
use Rattle.sw_color_rules.specs.Palette.{IsWhole, hand_over, merge, united_as}
use Rattle.sw_color_rules.proofs.PaletteLemmas.{changes_whole}

pub merged_whole : (a b : ℕ) (p : Palette) → IsWhole p → IsWhole (merge a b p)
merged_whole a b p whole =
    changes_whole (Merge a b ∷ []) (record { cells = []; heres = []; palette = p }) whole

pub merged_count : (a b : ℕ) (p : Palette) → length (merge a b p).names ≡ length p.names
unfolding merge united_as
merged_count a b p = by (eqb x y) where
  x : ℕ
  x = name_in p.names a

  y : ℕ
  y = name_in p.names b

  by : (t : Bool) → length (cond t p (united_as (min x y) (max x y) p)).names ≡ length p.names
  by true = refl
  by false = length-map p.names (turned (max x y) (min x y))

pub handed_whole : (n job : ℕ) (p : Palette) → IsWhole p → IsWhole (hand_over n job p)
handed_whole n job p whole =
    changes_whole (HandOver n job ∷ []) (record { cells = []; heres = []; palette = p }) whole

pub handed_count : (n job : ℕ) (p : Palette) → length (hand_over n job p).names ≡ length p.names
unfolding hand_over
handed_count n job p = refl
