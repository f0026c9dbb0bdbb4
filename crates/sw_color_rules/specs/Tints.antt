-- The colours of cells and values, by the numbers with which they were made.
use Rattle.std.specs.Prelude.{ℕ, ◌==◌, nat_lt, Option, Some, None, List, [], ◌∷◌, slice_get, fold}
use Rattle.std.specs.Prelude.{flat_map, option_and_then, if◌then◌else◌}
use Rattle.std.specs.Option.{option_map_or}
use Rattle.sw_value.specs.declared.value.Value.{Value, fold-Value}
use Rattle.sw_value.specs.declared.value.Value.TheOpen as layer
use Rattle.sw_color_rules.specs.declared.colors.Tint.{Tint}
use Rattle.sw_color_rules.specs.declared.colors.Tint.TheVariants.{Bare, Colored, Owns, Holds}

-- ---- cells
-- the colour of a coloured cell
abbrev pub color_by : Tint → Option ℕ
color_by (Colored n) = Some n
color_by _ = None

unfoldable pub color_number : List Tint → ℕ → Option ℕ
color_number tints c = option_and_then color_by (slice_get tints c)

-- the colour that an actor owns
abbrev pub owned_by : Tint → Option ℕ
owned_by (Owns n) = Some n
owned_by _ = None

unfoldable pub owned_number : List Tint → ℕ → Option ℕ
owned_number tints c = option_and_then owned_by (slice_get tints c)

-- ---- references and values
-- what a reference to a cell has: the colour of a coloured cell, and those of a closure's captures
abbrev pub held_by : Tint → List ℕ
held_by Bare = []
held_by (Colored n) = n ∷ []
held_by (Owns n) = []
held_by (Holds ns) = ns

unfoldable pub held : List Tint → ℕ → List ℕ
held tints c = option_map_or held_by (slice_get tints c) []

-- the cells that a value refers to, by itself and by its parts, in order
abbrev pub layer_references : layer.Value-F (List ℕ) → List ℕ
layer_references (layer.Cell c) = c ∷ []
layer_references (layer.Group parts) = flat_map (λ part. part) parts
layer_references (layer.Case tag payload) = flat_map (λ value. value) payload
layer_references _ = []

abbrev pub references_in : Value → List ℕ
references_in = fold-Value (List ℕ) layer_references

-- the colours of a value
unfoldable pub colors_in : List Tint → Value → List ℕ
colors_in tints value = flat_map (held tints) (references_in value)

abbrev pub colors_of : List Tint → List Value → List ℕ
colors_of tints values = flat_map (colors_in tints) values

-- the colours of a slot, if it has a value
abbrev pub slot_colors : List Tint → Option Value → List ℕ
slot_colors tints slot = option_map_or (colors_in tints) slot []

-- ---- closures
-- n among numbers that rise
abbrev pub inserted : ℕ → List ℕ → List ℕ
inserted n [] = n ∷ []
inserted n (m ∷ ms) =
    if nat_lt n m then n ∷ m ∷ ms else if n == m then m ∷ ms else m ∷ inserted n ms

-- the same numbers, each once, in rising order
unfoldable pub in_order : List ℕ → List ℕ
in_order ns = fold (λ ms n. inserted n ms) [] ns
