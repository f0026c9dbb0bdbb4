-- How many different numbers a list has.
use Rattle.std.specs.Prelude.{ℕ, ◌+◌, ◌==◌, if◌then◌else◌, List, [], ◌∷◌}
use Rattle.std.specs.List.{list_any}

-- how many different numbers a list has
abbrev pub distinct_count : List ℕ → ℕ
distinct_count [] = 0
distinct_count (n ∷ ns) =
    (if list_any (λ m. m == n) ns then 0 else 1) + distinct_count ns
