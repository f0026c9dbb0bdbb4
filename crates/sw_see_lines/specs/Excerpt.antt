-- The line of a position, and a line with a mark under the position.
use Rattle.std.specs.Prelude.{ℕ, nat_lt, List, [], ◌++◌, length, chars, codes}
use Rattle.std.specs.Prelude.{if◌then◌else◌}
use Rattle.std.specs.Fmt.{decimal}
use Rattle.sw_text.specs.Text.{line_of}
use Rattle.sw_see_lines.specs.declared.around.TheConstants.{SIDE}
use Rattle.sw_see_lines.specs.Around.{first_part, last_part, line_before, line_from}
use Rattle.sw_see_lines.specs.Shown.{blanks_of, shown_text}

-- what stands for the bytes of a part of a line that aren't shown
abbrev pub dots : List ℕ → List ℕ
dots part = if nat_lt SIDE (length part) then codes "..." else []

-- what is shown before the position: `LINE | TEXT`
unfoldable pub lead : List ℕ → ℕ → List ℕ
lead text at = let part = line_before text at in
    decimal (line_of text at) ++ (codes " | " ++ (dots part ++ shown_text (last_part part)))

-- what is shown from the position on
unfoldable pub tail : List ℕ → ℕ → List ℕ
tail text at = let part = line_from text at in shown_text (first_part part) ++ dots part

-- the line of a position, with its number
unfoldable pub source_line : List ℕ → ℕ → List ℕ
source_line text at = lead text at ++ tail text at

-- The line, and below it the mark, before which stands what is as wide as what is shown before the
-- position.
unfoldable pub excerpt : List ℕ → ℕ → List ℕ → List ℕ
excerpt text at mark =
    lead text at ++ (tail text at
    ++ (codes "\n" ++ (blanks_of (chars (lead text at)) ++ (mark ++ codes "\n"))))
