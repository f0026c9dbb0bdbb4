-- What is shown of breaches.
use Rattle.std.specs.Prelude.{ℕ, List, [], ◌∷◌, ◌++◌, length, Option, Some, None, unwrap_or, codes}
use Rattle.std.specs.Fmt.{decimal}
use Rattle.sw_text.specs.Position.{shown_position}
use Rattle.sw_breach.specs.Codes.{text_of}
use Rattle.sw_breach.specs.Lines.{count_line, line_feed, shown_note}
use Rattle.sw_breach.specs.declared.Breach.{Breach}
use Rattle.sw_see_lines.specs.Excerpt.{excerpt}
use Rattle.sw_see_breaches.specs.Painting.{painted}
use Rattle.sw_see_breaches.specs.Remedies.{remedy_of}
use Rattle.sw_see_breaches.specs.declared.painting.Paint.{Paint}

-- the sequences for breaches, bold and red, and for notes, bold and blue
abbrev pub breach_color : List ℕ
breach_color = codes "1;31"

abbrev pub note_color : List ℕ
note_color = codes "1;34"

-- `FILE:LINE:COLUMN: error ECODE: TEXT`
unfoldable pub breach_heading : Paint → List ℕ → List ℕ → Breach → List ℕ
breach_heading paint file text breach =
    file ++ (codes ":" ++ (shown_position text breach.at ++ (codes ": "
    ++ (painted paint breach_color (codes "error E" ++ decimal breach.code)
    ++ (codes ": " ++ (unwrap_or (text_of breach.code) [] ++ line_feed))))))

-- `FILE:LINE:COLUMN: note: given away here`
unfoldable pub note_heading : Paint → List ℕ → List ℕ → ℕ → List ℕ
note_heading paint file text at =
    file ++ (codes ":" ++ (shown_position text at ++ (codes ": "
    ++ (painted paint note_color (codes "note") ++ (codes ": given away here" ++ line_feed)))))

-- the line of a position, with a caret in a colour under the position
abbrev pub spot : Paint → List ℕ → List ℕ → ℕ → List ℕ
spot paint color text at = excerpt text at (painted paint color (codes "^"))

-- what is shown of a note, where there is one
unfoldable pub note_shown : Paint → List ℕ → List ℕ → Option ℕ → List ℕ
note_shown paint file text None = []
note_shown paint file text (Some at) =
    note_heading paint file text at ++ spot paint note_color text at

-- `  mend: TEXT`
unfoldable pub remedy_line : ℕ → List ℕ
remedy_line code = codes "  mend: " ++ (unwrap_or (remedy_of code) [] ++ line_feed)

-- what is shown of a breach of the text of a file
unfoldable pub shown_breach : Paint → List ℕ → List ℕ → Breach → List ℕ
shown_breach paint file text breach =
    breach_heading paint file text breach ++ (spot paint breach_color text breach.at
    ++ (note_shown paint file text (shown_note breach) ++ remedy_line breach.code))

abbrev pub shown_breaches : Paint → List ℕ → List ℕ → List Breach → List ℕ
shown_breaches paint file text [] = []
shown_breaches paint file text (breach ∷ breaches) =
    shown_breach paint file text breach ++ shown_breaches paint file text breaches

-- what is shown of all breaches, and last how many they are
unfoldable pub shown_verdict : Paint → List ℕ → List ℕ → List Breach → List ℕ
shown_verdict paint file text breaches =
    shown_breaches paint file text breaches ++ count_line (length breaches)
