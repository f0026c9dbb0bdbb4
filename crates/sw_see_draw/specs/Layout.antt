-- Where things stand in a picture, in pixels from its upper left corner.
use Rattle.std.specs.Prelude.{ℕ, ◌+◌, ◌*◌}

-- the left side of the marks of a column, from 0
abbrev pub column_x : ℕ → ℕ
column_x column = 70 + 14 * column

-- the middle of the lane of a job
abbrev pub lane_y : ℕ → ℕ
lane_y job = 44 + 72 * job
