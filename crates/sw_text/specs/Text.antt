-- Lines and columns of a text, which is a list of bytes.
use Rattle.std.specs.Prelude.{ℕ, ◌+◌, ◌==◌, Bool, List, length, take, count_by}
use Rattle.std.specs.List.{after_last}

-- A line ends after a line feed, the byte 10. A carriage return ends none.
abbrev pub is_line_feed : ℕ → Bool
is_line_feed byte = byte == 10

-- the line of the offset `at`, from 1: one more than the line feeds before it
abbrev pub line_of : List ℕ → ℕ → ℕ
line_of bytes at = 1 + count_by is_line_feed (take at bytes)

-- the column of the offset `at`, in bytes, from 1: one more than the bytes since the last line feed
-- before it, or since the start where no line feed is before it
abbrev pub column_of : List ℕ → ℕ → ℕ
column_of bytes at = 1 + length (after_last is_line_feed (take at bytes))
