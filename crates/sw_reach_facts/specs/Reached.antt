-- The cells that a value refers to, and the colours that it reaches.
use Rattle.std.specs.Prelude.{ℕ, zero, suc, ◌==◌, if◌then◌else◌, Option, Some, None, List, [], ◌∷◌}
use Rattle.std.specs.Prelude.{slice_get, slice_index_or, length, flat_map}
use Rattle.std.specs.List.{concat}
use Rattle.sw_value.specs.declared.value.Value.{Value, fold-Value}
use Rattle.sw_value.specs.declared.value.Value.TheOpen as layer
use Rattle.sw_value.specs.declared.cell.HeapCell.{HeapCell}
use Rattle.sw_value.specs.declared.cell.HeapCell.TheVariants.{Closure}

abbrev pub layer_references : layer.Value-F (List ℕ) → List ℕ
layer_references (layer.Cell c) = c ∷ []
layer_references (layer.Group parts) = concat parts
layer_references (layer.Case tag payload) = concat payload
layer_references _ = []

-- the cells that a value refers to, by number, through structs and cases of enums
abbrev pub references : Value → List ℕ
references = fold-Value (List ℕ) layer_references

-- what the cells that values refer to show, where `at` says it of a cell
abbrev pub reached_by : {C : Type 0} → (ℕ → List C) → List Value → List C
reached_by at values = flat_map (λ v. flat_map at (references v)) values

-- What a cell shows: its own colour, or, if it is a closure without one, what it captured. `below`
-- says what the cells before it show.
abbrev pub shown : {C : Type 0} → (ℕ → List C) → Option C → Option HeapCell → List C
shown below (Some colour) cell = colour ∷ []
shown below None (Some (Closure f captures)) = reached_by below captures
shown below None _ = []

-- What cell c shows, if it is one of the first n cells. A closure captures what was there before
-- it, so each cell stands on those with lower numbers.
unfoldable pub shown_below : {C : Type 0} → List HeapCell → List (Option C) → ℕ → ℕ → List C
shown_below cells colours zero c = []
shown_below cells colours (suc n) c =
    if c == n then shown (shown_below cells colours n) (slice_index_or colours n None)
    (slice_get cells n)
    else shown_below cells colours n c

-- the colours that a value reaches, by the colours of the cells
unfoldable pub colours_of : {C : Type 0} → List HeapCell → List (Option C) → Value → List C
colours_of cells colours v = flat_map (shown_below cells colours (length cells)) (references v)
