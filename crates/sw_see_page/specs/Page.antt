-- A page with a program, its breaches and a picture.
use Rattle.std.specs.Prelude.{ℕ, ◌+◌, List, [], ◌∷◌, ◌++◌, drop, take, nat_lt, codes}
use Rattle.std.specs.Prelude.{Option, Some, None, unwrap_or, if◌then◌else◌}
use Rattle.std.specs.List.{prefix_len}
use Rattle.std.specs.Fmt.{decimal}
use Rattle.sw_text.specs.Position.{shown_position}
use Rattle.sw_text.specs.Text.{is_line_feed}
use Rattle.sw_breach.specs.Codes.{text_of}
use Rattle.sw_breach.specs.Lines.{shown_note}
use Rattle.sw_breach.specs.declared.Breach.{Breach}
use Rattle.sw_see_lines.specs.Excerpt.{excerpt, source_line}
use Rattle.sw_see_breaches.specs.Remedies.{remedy_of}
use Rattle.sw_see_draw.specs.Markup.{escaped}

-- what stands below a line at a breach: `^ error ECODE: TEXT`
unfoldable pub mark : ℕ → List ℕ
mark code =
    codes "^ error E" ++ (decimal code ++ (codes ": " ++ unwrap_or (text_of code) []))

unfoldable pub note_text : List ℕ → Option ℕ → List ℕ
note_text text None = []
note_text text (Some at) = codes "  given away at " ++ (shown_position text at ++ codes "\n")

-- the line of a breach, and what the breach is
unfoldable pub breach_shown : List ℕ → Breach → List ℕ
breach_shown text breach =
    codes "<b>" ++ (escaped (excerpt text breach.at (mark breach.code))
    ++ (escaped (note_text text (shown_note breach)) ++ (codes "  mend: "
    ++ (escaped (unwrap_or (remedy_of breach.code) []) ++ codes "\n</b>"))))

abbrev pub breaches_shown : List ℕ → List Breach → List ℕ
breaches_shown text [] = []
breaches_shown text (breach ∷ breaches) =
    breach_shown text breach ++ breaches_shown text breaches

-- the line that begins at a position, with the breaches that stand in it
unfoldable pub line_shown : List ℕ → ℕ → List Breach → List ℕ
line_shown text start [] = escaped (source_line text start) ++ codes "\n"
line_shown text start (breach ∷ breaches) = breaches_shown text (breach ∷ breaches)

-- how many of the next breaches stand before a position
abbrev pub count_before : ℕ → List Breach → ℕ
count_before end breaches = prefix_len (λ breach. nat_lt breach.at end) breaches

-- Lines in order, each with those of the next breaches that stand before its end: of the line that
-- begins at `start`, of which the bytes from `at` on are left, and of those after it. The last line
-- has all breaches that are left.
abbrev pub lines_shown : List ℕ → ℕ → ℕ → List Breach → List ℕ → List ℕ
lines_shown text at start breaches [] = line_shown text start breaches
lines_shown text at start breaches (byte ∷ bytes) =
    if is_line_feed byte then
    line_shown text start (take (count_before (at + 1) breaches) breaches)
    ++ lines_shown text (at + 1) (at + 1) (drop (count_before (at + 1) breaches) breaches) bytes
    else lines_shown text (at + 1) start breaches bytes

-- all lines of a program, with its breaches
unfoldable pub source_shown : List ℕ → List Breach → List ℕ
source_shown text breaches = lines_shown text 0 0 breaches text

-- what a page begins with
unfoldable pub head : List ℕ → List ℕ
head file =
    codes "<!DOCTYPE html>\n<html lang=\"en\">\n<head><meta charset=\"utf-8\"><title>" ++ (escaped file
    ++ codes "</title><style>b { color: #b00000 }</style></head>\n<body>\n<pre>\n")

-- what a page begins with, and all lines of the program
unfoldable pub front : List ℕ → List ℕ → List Breach → List ℕ
front file text breaches = head file ++ source_shown text breaches

-- a picture, and what a page ends with
unfoldable pub back : List ℕ → List ℕ
back picture = codes "</pre>\n" ++ (picture ++ codes "</body>\n</html>\n")

-- The page of the program in a file: its lines with its breaches, and the picture.
unfoldable pub page : List ℕ → List ℕ → List Breach → List ℕ → List ℕ
page file text breaches picture = front file text breaches ++ back picture
