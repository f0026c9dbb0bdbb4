-- The marks of a picture: an event, and those of its job after it that say nothing new.
use Rattle.std.specs.Prelude.{ℕ, ◌+◌, ◌-◌, ◌==◌, ◌&&◌, Bool, true, false, List, [], ◌∷◌, length, drop}
use Rattle.std.specs.Prelude.{nat_lt, Option, Some, None, is_none, if◌then◌else◌}
use Rattle.sw_value.specs.declared.executor.Executor.{Executor}
use Rattle.sw_value.specs.Executor.{is_same}
use Rattle.sw_see_events.specs.declared.happening.Deed.{Deed}
use Rattle.sw_see_events.specs.declared.happening.Deed.TheVariants as deed
use Rattle.sw_see_events.specs.declared.happening.Happening.{Happening}
use Rattle.sw_see_draw.specs.declared.marks.Link.{Link}
use Rattle.sw_see_draw.specs.declared.marks.Link.TheVariants.{From, To}
use Rattle.sw_see_draw.specs.declared.marks.Mark.{Mark}
use Rattle.sw_see_draw.specs.declared.marks.TheConstants.{MOST_MARKS}

-- the job that an event starts, or whose end it hears of
abbrev pub link_of : Deed → Option Link
link_of deed.Runs = None
link_of (deed.Resumes ended) = Some (From ended)
link_of deed.Computes = None
link_of (deed.Prints line) = None
link_of (deed.Makes cell) = None
link_of deed.Jumps = None
link_of (deed.Calls to) = None
link_of (deed.Starts job) = Some (To job)
link_of (deed.Waits job) = None
link_of deed.Yields = None
link_of deed.Returns = None
link_of deed.Ends = None
link_of (deed.Traps kind) = None

-- the mark of the event with the number n
abbrev pub mark_of : ℕ → Happening → Mark
mark_of n event = record {
  number = n;
  count = 1;
  job = event.job;
  executor = event.executor;
  access = event.access;
  link = link_of event.deed;
}

abbrev pub same_executor : Option Executor → Option Executor → Bool
same_executor None None = true
same_executor (Some one) (Some other) = is_same one other
same_executor None (Some other) = false
same_executor (Some one) None = false

-- whether an event makes no access, starts no job and hears of the end of none
abbrev pub is_plain : Happening → Bool
is_plain event = is_none event.access && is_none (link_of event.deed)

-- whether a mark is for that event too
abbrev pub goes_on : Mark → Happening → Bool
goes_on mark event =
    (event.job == mark.job) && (same_executor mark.executor event.executor && is_plain event)

abbrev pub grown : Mark → Mark
grown mark = record mark { count = mark.count + 1 }

-- the marks of a mark that isn't ended, and of the events after it, of which the first has the
-- number n
abbrev pub marks_from : Bool → Mark → ℕ → List Happening → List Mark
marks_from joins mark n [] = mark ∷ []
marks_from joins mark n (event ∷ events) =
    if joins && goes_on mark event then marks_from joins (grown mark) (n + 1) events
    else mark ∷ marks_from joins (mark_of n event) (n + 1) events

-- the marks of all events, whose numbers begin with 1: one for each, or fewer where `joins` holds
abbrev pub marks_of : Bool → List Happening → List Mark
marks_of joins [] = []
marks_of joins (event ∷ events) = marks_from joins (mark_of 1 event) 2 events

-- The marks of a picture. Where there are more events than marks that are drawn, a mark goes on for
-- the plain events after its own.
unfoldable pub marks : List Happening → List Mark
marks events = marks_of (nat_lt MOST_MARKS (length events)) events

-- the last of them, as many as are drawn
unfoldable pub drawn : List Mark → List Mark
drawn marks = drop (length marks - MOST_MARKS) marks
