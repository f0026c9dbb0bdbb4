-- Names that are declared twice in one scope, and names that can't be declared.
use Rattle.std.specs.Prelude.{ℕ, Bool, false, ◌||◌, List, [], ◌∷◌, Option, Some, None, nat_lt, min}
use Rattle.std.specs.Prelude.{◌==◌, fold, flat_map, if◌then◌else◌}
use Rattle.sw_tree.specs.declared.name.Name.{Name}
use Rattle.sw_decl_words.specs.Words.{is_reserved}
use Rattle.sw_decl_words.specs.declared.placed.Placed.{Placed}

-- the earlier of a place, if there is one, and another
abbrev pub earlier : Option ℕ → ℕ → Option ℕ
earlier None at = Some at
earlier (Some first) at = Some (min first at)

-- where a name stands first among the names of a scope
abbrev pub first_place : List Name → ℕ → Option ℕ
first_place names id =
    fold (λ found (name : Name). if name.id == id then earlier found name.at else found) None names

abbrev pub is_before : Option ℕ → ℕ → Bool
is_before None at = false
is_before (Some first) at = nat_lt first at

-- The name can't be declared, or the scope has it at an earlier place.
abbrev pub is_repeated : (ℕ → Option ℕ) → Name → Bool
is_repeated places name = is_reserved name.id || is_before (places name.id) name.at

abbrev pub repeated : (ℕ → Option ℕ) → Name → List Placed
repeated places name =
    if is_repeated places name then record { at = name.at; code = 301 } ∷ [] else []

-- the breaches of the names of one scope
abbrev pub repeats : List Name → List Placed
repeats names = flat_map (repeated (first_place names)) names
