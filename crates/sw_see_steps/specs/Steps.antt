-- The events of a replay as lines, one for each, in order.
use Rattle.std.specs.Prelude.{ℕ, ◌+◌, List, [], ◌∷◌, ◌++◌, flat_map, Option, Some, None, codes}
use Rattle.std.specs.Fmt.{decimal}
use Rattle.sw_text.specs.Position.{shown_position}
use Rattle.sw_see_events.specs.declared.happening.Happening.{Happening}
use Rattle.sw_see_steps.specs.Deeds.{deed_text}
use Rattle.sw_see_steps.specs.Words.{word_of}

-- `LINE:COLUMN: `, or nothing where there is no position
unfoldable pub place_of : List ℕ → Option ℕ → List ℕ
place_of text None = []
place_of text (Some at) = shown_position text at ++ codes ": "

-- `N. LINE:COLUMN: job J DEED`: the number of an event, where its job stood, and what it did.
-- `names` are those of the global actors, by number.
unfoldable pub step_line : List ℕ → List (List ℕ) → ℕ → Happening → List ℕ
step_line text names number event = decimal number
    ++ (codes ". " ++ (place_of text event.at ++ (codes "job " ++ (decimal event.job ++ (codes " "
    ++ (deed_text names (word_of text event.at) event.executor event.access event.deed
    ++ codes "\n"))))))

-- the line of each event, where the first has the number n
abbrev pub lines_from : List ℕ → List (List ℕ) → ℕ → List Happening → List (List ℕ)
lines_from text names n [] = []
lines_from text names n (event ∷ events) =
    step_line text names n event ∷ lines_from text names (n + 1) events

-- the line of each event; they are numbered from 1
unfoldable pub step_lines : List ℕ → List (List ℕ) → List Happening → List (List ℕ)
step_lines text names events = lines_from text names 1 events

-- lines one after the other
abbrev pub joined : List (List ℕ) → List ℕ
joined lines = flat_map (λ line. line) lines
