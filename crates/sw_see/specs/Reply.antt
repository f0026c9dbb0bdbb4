-- What the program that shows races answers. Each command is a sequence of parts, and the first
-- that refuses decides.
use Rattle.std.specs.Prelude.{◌≢◌, ℕ, Bool, List, [], ◌∷◌, ◌++◌, Option, Some}
use Rattle.std.specs.Prelude.{None, Result, Ok, Err, codes, if◌then◌else◌}
use Rattle.std.specs.Fmt.{decimal}
use Rattle.sw_graph.specs.declared.graph.Graph.{Graph}
use Rattle.sw_breach.specs.declared.Breach.{Breach}
use Rattle.sw_breach.specs.Lines.{line_feed}
use Rattle.sw_check_parts.specs.declared.exit.Exit.{Exit}
use Rattle.sw_check_parts.specs.declared.exit.Exit.TheVariants as exits
use Rattle.sw_check_parts.specs.declared.outcome.Outcome.{Outcome}
use Rattle.sw_check_parts.specs.declared.TheConstants.{PROGRAM_LIMIT}
use Rattle.sw_check_parts.specs.Course.{Read, Ended, Part, Alone, Fetched, ◌>>=◌}
use Rattle.sw_decls.specs.declared.signature.AsyncDefault.{AsyncDefault}
use Rattle.sw_verdict.specs.Phases.{all_phases, phases_to_size}
use Rattle.sw_verdict.specs.Verdict.{Accepts, Breaches}
use Rattle.sw_check.specs.Reply.{EndsWithReply, IsJudgement, accepted, by_items}
use Rattle.sw_see_breaches.specs.Shown.{shown_verdict}
use Rattle.sw_see_breaches.specs.declared.painting.Paint.{Paint}
use Rattle.sw_see_breaches.specs.declared.painting.Paint.TheVariants.{Colored, Plain}
use Rattle.sw_see_find.specs.Found.{IsFound}
use Rattle.sw_see_find.specs.declared.finding.Found.{Found}
use Rattle.sw_see_find.specs.declared.finding.Found.TheVariants.{Nothing, Race}
use Rattle.sw_see_words.specs.Words.{Action, Command, Draw, Find, OnFile, Steps}
use Rattle.sw_see_words.specs.Words.{Breaches as ShowBreaches}
use Rattle.sw_see.specs.View.{InSteps, View, Views, drawn_view}

-- the one line about words that have no form
abbrev pub usage : Outcome
usage = record {
  exit = exits.Usage;
  bytes = codes "usage: swiftcheck_see COMMAND FILE [SCHEDULE]" ++ line_feed;
}

-- breaches of the text of a file, shown for people
abbrev pub shown_outcome : Paint → List ℕ → List ℕ → List Breach → Outcome
shown_outcome paint file text breaches =
    record { exit = exits.Breached; bytes = shown_verdict paint file text breaches }

-- a schedule that shows a race, or how many showed none
abbrev pub found_outcome : Found → Outcome
found_outcome (Race schedule) = record { exit = exits.Raced; bytes = schedule }
found_outcome (Nothing tries) = record {
  exit = exits.Done;
  bytes = codes "no race in " ++ (decimal tries ++ (codes " schedules" ++ line_feed));
}

-- A program is accepted, or its breaches are shown.
pub data Shows (paint : Paint) (rule : AsyncDefault) (file text : List ℕ)
    : Result Outcome Outcome → Type 0 where
  accepts : Accepts rule text → Shows paint rule file text (Ok accepted)
  refuses : (breaches : List Breach) → breaches ≢ [] → Breaches rule all_phases text breaches
      → Shows paint rule file text (Ok (shown_outcome paint file text breaches))

-- A schedule that shows a race of a program's graph is looked for.
pub data Finds (graph : Graph) : Result Outcome Outcome → Type 0 where
  finds : (found : Found) → IsFound graph found → Finds graph (Ok (found_outcome found))

-- the colours of breaches
abbrev pub paint_of : Bool → Paint
paint_of color = if color then Colored else Plain

-- `breaches FILE`: A program is fetched, and its breaches are shown.
abbrev pub breaches_course : AsyncDefault → List ℕ → Bool → Part Outcome
breaches_course rule file color = do
  text ← Fetched file PROGRAM_LIMIT
  Alone (Shows (paint_of color) rule file text)

-- `steps FILE SCHEDULE` and `draw FILE SCHEDULE`: A program is fetched and judged up to the size of
-- its functions. Then a schedule is fetched, and its replay is shown.
abbrev pub replay_course : AsyncDefault → List ℕ → List ℕ → View → Part Outcome
replay_course rule file schedule_file view = do
  text ← Fetched file PROGRAM_LIMIT
  passed ← Alone (IsJudgement rule phases_to_size text)
  by_items schedule_file (Views view text passed)

-- `find FILE`: A program is fetched and judged so, and then a race of it is looked for.
abbrev pub find_course : AsyncDefault → List ℕ → Part Outcome
find_course rule file = do
  text ← Fetched file PROGRAM_LIMIT
  passed ← Alone (IsJudgement rule phases_to_size text)
  Alone (Finds passed.graph)

abbrev pub file_course : AsyncDefault → List ℕ → Action → Part Outcome
file_course rule file (ShowBreaches color) = breaches_course rule file color
file_course rule file (Steps schedule_file) = replay_course rule file schedule_file InSteps
file_course rule file Find = find_course rule file
file_course rule file (Draw schedule_file in_page) =
    replay_course rule file schedule_file (drawn_view in_page rule file)

-- the parts of each command
abbrev pub course_of : Option Command → Part Outcome
course_of None = Alone (EndsWithReply usage)
course_of (Some (OnFile rule file action)) = file_course rule file action

-- `Reply command reads outcome`: this may be answered to the words, where exactly these files are
-- read for it, in this order.
pub data Reply (command : Option Command) (reads : List Read) (outcome : Outcome) : Type 0 where
  at_end : course_of command reads (Ended (Ok outcome)) → Reply command reads outcome
  before_end : course_of command reads (Ended (Err outcome)) → Reply command reads outcome

-- the exits of the replies to a command on a file
abbrev pub file_exits : Action → List Exit
file_exits (ShowBreaches color) = exits.TooLong ∷ exits.Breached ∷ exits.Done ∷ []
file_exits (Steps schedule_file) =
    exits.TooLong ∷ exits.Breached ∷ exits.BadSchedule ∷ exits.Done ∷ exits.Trapped ∷ exits.Raced
    ∷ []
file_exits Find = exits.TooLong ∷ exits.Breached ∷ exits.Done ∷ exits.Raced ∷ []
file_exits (Draw schedule_file in_page) =
    exits.TooLong ∷ exits.Breached ∷ exits.BadSchedule ∷ exits.Done ∷ []

-- the exits of the replies to a command
abbrev pub exits_of : Option Command → List Exit
exits_of None = exits.Usage ∷ []
exits_of (Some (OnFile rule file action)) = file_exits action
