-- How messages show a position of a text.
use Rattle.std.specs.Prelude.{ℕ, List, ◌++◌, codes}
use Rattle.std.specs.Fmt.{decimal}
use Rattle.sw_text.specs.Text.{line_of, column_of}

-- a position, which is a byte offset, as `LINE:COLUMN` in decimal
unfoldable pub shown_position : List ℕ → ℕ → List ℕ
shown_position bytes at = decimal (line_of bytes at) ++ (codes ":" ++ decimal (column_of bytes at))
