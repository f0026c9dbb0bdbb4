-- The schedule of the program that is generated for a number of actors.
use Rattle.std.specs.Prelude.{ℕ, List, [], ◌∷◌, ◌++◌, flat_map}
use Rattle.std.specs.List.{range_with_len}

-- Runs are of a job and how often it stands in the schedule. Twenty items of the entry's job, and
-- then as many of a task.
abbrev pub turn : ℕ → List (ℕ × ℕ)
turn task = (0, 20) ∷ (task, 20) ∷ []

-- a turn for each task from 1 to n, and at the end twenty items of the entry's job
unfoldable pub runs : ℕ → List (ℕ × ℕ)
runs n = flat_map turn (range_with_len 1 n) ++ (0, 20) ∷ []
