-- The lines of a verdict on a text that is refused.
use Rattle.std.specs.Prelude.{ℕ, ◌==◌, List, [], ◌∷◌, ◌++◌, length, Option, Some, None, unwrap_or}
use Rattle.std.specs.Prelude.{codes, if◌then◌else◌}
use Rattle.std.specs.Fmt.{decimal}
use Rattle.sw_text.specs.Position.{shown_position}
use Rattle.sw_breach.specs.Codes.{text_of}
use Rattle.sw_breach.specs.declared.Breach.{Breach}
use Rattle.sw_breach.specs.declared.codes.TheConstants.{GIVEN_AWAY}

-- the byte that ends a line
abbrev pub line_feed : List ℕ
line_feed = 10 ∷ []

-- the line of a breach of the text `bytes`: `LINE:COLUMN: error ECODE: TEXT`
unfoldable pub breach_line : List ℕ → Breach → List ℕ
breach_line bytes breach =
    shown_position bytes breach.at ++ (codes ": error E" ++ (decimal breach.code
    ++ (codes ": " ++ (unwrap_or (text_of breach.code) [] ++ line_feed))))

-- the position of the note that is shown: only a use of a value that was given away has one
abbrev pub shown_note : Breach → Option ℕ
shown_note breach = if breach.code == GIVEN_AWAY then breach.note else None

-- the line of a note: `LINE:COLUMN: note: given away here`
unfoldable pub note_line : List ℕ → ℕ → List ℕ
note_line bytes at = shown_position bytes at ++ (codes ": note: given away here" ++ line_feed)

-- the line of the note, where there is one
abbrev pub note_lines : List ℕ → Option ℕ → List ℕ
note_lines bytes None = []
note_lines bytes (Some at) = note_line bytes at

-- the lines of all breaches, each with its note
abbrev pub breach_lines : List ℕ → List Breach → List ℕ
breach_lines bytes [] = []
breach_lines bytes (breach ∷ breaches) =
    breach_line bytes breach
    ++ (note_lines bytes (shown_note breach) ++ breach_lines bytes breaches)

-- the last line, which counts the breaches: `refused: N`
unfoldable pub count_line : ℕ → List ℕ
count_line count = codes "refused: " ++ (decimal count ++ line_feed)

-- what is printed of the breaches of the text `bytes`
unfoldable pub verdict_text : List ℕ → List Breach → List ℕ
verdict_text bytes breaches = breach_lines bytes breaches ++ count_line (length breaches)
