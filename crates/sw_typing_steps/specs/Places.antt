-- Where ill nodes stand in what is noted.
use Rattle.std.specs.Prelude.{ℕ, ◌+◌, Bool, true, List, [], ◌∷◌, ◌++◌, nat_lt, if◌then◌else◌}
use Rattle.sw_typing_rules.specs.Verdicts.{is_well}
use Rattle.sw_typing_rules.specs.declared.row.Row.{Row}

abbrev pub ill_at : ℕ → Row → List ℕ
ill_at at row = if is_well row then [] else at ∷ []

-- the places of the ill nodes among these, of which the first has the place `at`
abbrev pub ill_places_from : ℕ → List Row → List ℕ
ill_places_from at [] = []
ill_places_from at (row ∷ rows) = ill_at at row ++ ill_places_from (at + 1) rows

unfoldable pub ill_places : List Row → List ℕ
ill_places rows = ill_places_from 0 rows

-- the last of these places, if there is one, stands before `start`
abbrev pub last_before : ℕ → List ℕ → Bool
last_before start [] = true
last_before start (place ∷ []) = nat_lt place start
last_before start (place ∷ next ∷ places) = last_before start (next ∷ places)
