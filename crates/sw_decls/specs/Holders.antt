-- Structs and enums that hold themselves.
use Rattle.std.specs.Prelude.{◌≡◌, ◌↔◌, ℕ, Bool, true, false, List, [], ◌∷◌, ◌++◌, ◌+◌}
use Rattle.std.specs.Prelude.{slice_index_or, if◌then◌else◌}
use Rattle.sw_types.specs.Cycles.{HoldsItself}
use Rattle.sw_types.specs.declared.shape.Shape.{Shape}
use Rattle.sw_decl_words.specs.declared.placed.Placed.{Placed}

-- the marks say which shapes hold themselves
abbrev pub AreHolders : List Shape → List Bool → Type 0
AreHolders shapes marks =
    (k : ℕ) → (slice_index_or marks k false ≡ true) ↔ HoldsItself shapes k

abbrev pub holder : Bool → Shape → List Placed
holder holds shape = if holds then record { at = shape.at; code = 303 } ∷ [] else []

-- the words of the shapes that are marked, of shapes that are numbered from here
abbrev pub holders_from : List Bool → ℕ → List Shape → List Placed
holders_from marks number [] = []
holders_from marks number (shape ∷ shapes) =
    holder (slice_index_or marks number false) shape ++ holders_from marks (number + 1) shapes

-- the words of the shapes that are marked
abbrev pub holders : List Shape → List Bool → List Placed
holders shapes marks = holders_from marks 0 shapes
