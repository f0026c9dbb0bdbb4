-- What is shown of a replay: a line for each event, or a picture, alone or in a page.
use Rattle.std.specs.Prelude.{ℕ, Bool, List, Result, Ok, if◌then◌else◌}
use Rattle.sw_replay.specs.declared.output.Replay.{Replay}
use Rattle.sw_breach.specs.declared.Breach.{Breach}
use Rattle.sw_check_parts.specs.declared.exit.Exit.TheVariants.{Done}
use Rattle.sw_check_parts.specs.declared.outcome.Outcome.{Outcome}
use Rattle.sw_decls.specs.declared.signature.AsyncDefault.{AsyncDefault}
use Rattle.sw_verdict.specs.Phases.{all_phases}
use Rattle.sw_verdict.specs.Verdict.{Breaches}
use Rattle.sw_check.specs.Programs.{Passed}
use Rattle.sw_check.specs.Reply.{replay_outcome}
use Rattle.sw_see_draw.specs.Picture.{picture}
use Rattle.sw_see_events.specs.Watches.{IsWatched}
use Rattle.sw_see_events.specs.declared.watching.Watched.{Watched}
use Rattle.sw_see_page.specs.Page.{page}
use Rattle.sw_see_steps.specs.Steps.{joined, step_lines}
use Rattle.sw_see.specs.declared.view.View as code
use Rattle.sw_see.specs.declared.view.View.TheVariants as kinds

pub data View : Type 0 where
  -- a line for each event
  InSteps : View
  -- a picture
  InPicture : View
  -- a page with the program in a file, its breaches under a default, and a picture
  InPage : (rule : AsyncDefault) (file : List ℕ) → View

-- the view as the program has it: the name of a file is lent from the words
abbrev pub lent_view : code.View → View
lent_view kinds.Steps = InSteps
lent_view kinds.Picture = InPicture
lent_view (kinds.Page rule file) = InPage rule file.now

-- a picture, in a page or alone
abbrev pub drawn_view : Bool → AsyncDefault → List ℕ → View
drawn_view in_page rule file = if in_page then InPage rule file else InPicture

-- a replay that was watched, with the lines of its events in the place of the printed lines
abbrev pub steps_replay : List ℕ → Passed → Watched → Replay
steps_replay text passed watched = record watched.replay {
  output = record watched.replay.output {
    lines = joined (step_lines text passed.actors watched.happenings);
  };
}

-- it is answered as a trace is
abbrev pub steps_outcome : List ℕ → Passed → Watched → Outcome
steps_outcome text passed watched = replay_outcome text (steps_replay text passed watched)

-- the picture of a replay that was watched
abbrev pub picture_of : List ℕ → Passed → Watched → List ℕ
picture_of text passed watched =
    picture text passed.actors watched.happenings watched.replay.race

-- what was drawn, whatever the replay met
abbrev pub drawn_outcome : List ℕ → Outcome
drawn_outcome bytes = record { exit = Done; bytes = bytes }

-- What is answered of a replay that was watched.
pub data IsViewOf (text : List ℕ) (passed : Passed) (watched : Watched) : View → Outcome
    → Type 0 where
  as_steps : IsViewOf text passed watched InSteps (steps_outcome text passed watched)
  as_picture : IsViewOf text passed watched InPicture
      (drawn_outcome (picture_of text passed watched))
  -- the breaches are all of them, and none where the program is accepted
  as_page : (rule : AsyncDefault) (file : List ℕ) (breaches : List Breach)
      → Breaches rule all_phases text breaches
      → IsViewOf text passed watched (InPage rule file)
      (drawn_outcome (page file text breaches (picture_of text passed watched)))

-- The machine of a program's graph takes the items up to the first state that is racing, and this
-- is shown of it.
pub data Views (view : View) (text : List ℕ) (passed : Passed) (items : List ℕ)
    : Result Outcome Outcome → Type 0 where
  views : (watched : Watched) (outcome : Outcome) → IsWatched passed.graph items watched
      → IsViewOf text passed watched view outcome → Views view text passed items (Ok outcome)
