-- What stands on the line of a position, before the position and from it on.
use Rattle.std.specs.Prelude.{ℕ, ◌-◌, ◌==◌, ◌||◌, Bool, List, length, take, drop}
use Rattle.std.specs.List.{after_last, before_first}
use Rattle.sw_text.specs.Text.{is_line_feed}
use Rattle.sw_see_lines.specs.declared.around.TheConstants.{SIDE}

-- what isn't shown at the end of a line: the line feed, and a carriage return
abbrev pub ends_line : ℕ → Bool
ends_line byte = is_line_feed byte || (byte == 13)

-- the bytes of the line before the position `at`, a byte offset
abbrev pub line_before : List ℕ → ℕ → List ℕ
line_before text at = after_last is_line_feed (take at text)

-- those from it on
abbrev pub line_from : List ℕ → ℕ → List ℕ
line_from text at = before_first ends_line (drop at text)

-- the last of these bytes, as many as are shown
abbrev pub last_part : List ℕ → List ℕ
last_part bytes = drop (length bytes - SIDE) bytes

-- the first of them
abbrev pub first_part : List ℕ → List ℕ
first_part bytes = take SIDE bytes
