-- Where a number first stands in a list.
use Rattle.std.specs.Prelude.{ℕ, ◌+◌, ◌==◌, List, [], ◌∷◌, Option, Some, None, if◌then◌else◌}
use Rattle.std.specs.Option.{option_map}

-- its place, if it is in the list
abbrev pub first_place : List ℕ → ℕ → Option ℕ
first_place [] number = None
first_place (one ∷ more) number =
    if one == number then Some 0 else option_map (λ place. place + 1) (first_place more number)
