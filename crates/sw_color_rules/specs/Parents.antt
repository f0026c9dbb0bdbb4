-- How merged numbers are kept: each with a lower one into which it was merged, if there is one.
use Rattle.std.specs.Prelude.{ℕ, nat_lt, List, [], ◌∷◌, ◌++◌, length, fold, Option, Some, None, slice_get}
use Rattle.std.specs.Prelude.{slice_index_or, option_and_then, if◌then◌else◌}

abbrev pub parent_by : ℕ → ℕ → Option ℕ
parent_by n parent = if nat_lt parent n then Some parent else None

-- the number into which n was merged
unfoldable pub parent_of : List ℕ → ℕ → Option ℕ
parent_of parents n = option_and_then (parent_by n) (slice_get parents n)

-- what is left of the next number, after the numbers of which this is known
abbrev pub root_by : List ℕ → ℕ → ℕ
root_by earlier parent = slice_index_or earlier parent (length earlier)

abbrev pub with_root : List ℕ → ℕ → List ℕ
with_root earlier parent = earlier ++ root_by earlier parent ∷ []

-- what is left of each number
unfoldable pub roots : List ℕ → List ℕ
roots parents = fold with_root [] parents
