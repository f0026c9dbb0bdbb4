-- Variables with the places of those that they hide, and the places of the innermost.
use Rattle.std.specs.Prelude.{◌≡◌, ℕ, ◌<◌, List, Option, Some, None, length, map, slice_get, take}
use Rattle.sw_typing_rules.specs.Words.{local}
use Rattle.sw_typing_rules.specs.declared.scope.Var.{Var}
use Rattle.sw_typing_words.specs.declared.scope.Entry.{Entry}

abbrev pub vars_in : List Entry → List Var
vars_in entries = map (λ (entry : Entry). entry.var) entries

-- the place of the innermost variable of this name, if there is one
abbrev pub IsPlaceOf : List Var → ℕ → Option ℕ → Type 0
IsPlaceOf vars id None = local vars id ≡ None
IsPlaceOf vars id (Some place) = (place < length vars) × (slice_get vars place ≡ local vars id)

-- The table has the place of the innermost variable of each name, and each variable that of the one
-- that it hides.
abbrev pub IsScope : List Entry → (ℕ → Option ℕ) → Type 0
IsScope entries newest = ((id : ℕ) → IsPlaceOf (vars_in entries) id (newest id))
    × ((k : ℕ) (entry : Entry) → slice_get entries k ≡ Some entry
    → IsPlaceOf (take k (vars_in entries)) entry.var.name entry.hides)
