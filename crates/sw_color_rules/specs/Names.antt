-- Numbers of which some were merged: a list says which number is left of each.
use Rattle.std.specs.Prelude.{ℕ, ◌==◌, List, slice_index_or, if◌then◌else◌}

-- the number that is left of n; of a number past the end, that number itself
abbrev pub name_in : List ℕ → ℕ → ℕ
name_in names n = slice_index_or names n n

-- one number turns into another
abbrev pub turned : ℕ → ℕ → ℕ → ℕ
turned from to n = if n == from then to else n
