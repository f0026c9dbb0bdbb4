-- What the replies say of the program, where the files are known.
use Rattle.std.specs.Prelude.{◌≢◌, ℕ, ◌+◌, Bool, List, [], drop, Option}
use Rattle.sw_graph.specs.declared.graph.Graph.{Graph}
use Rattle.sw_replay.specs.Items.{IsItems}
use Rattle.sw_breach.specs.declared.Breach.{Breach}
use Rattle.sw_check_parts.specs.declared.outcome.Outcome.{Outcome}
use Rattle.sw_check_parts.specs.Written.{Appended}
use Rattle.sw_decls.specs.declared.signature.AsyncDefault.{AsyncDefault}
use Rattle.sw_verdict.specs.ActorNames.{HasActorNames}
use Rattle.sw_verdict.specs.Phases.{IsGraphOf, all_phases}
use Rattle.sw_verdict.specs.Verdict.{Breaches}
use Rattle.sw_check.specs.Programs.{Passed}
use Rattle.sw_see_breaches.specs.Shown.{shown_verdict}
use Rattle.sw_see_draw.specs.Covers.{Covers}
use Rattle.sw_see_draw.specs.Marks.{drawn, marks}
use Rattle.sw_see_draw.specs.Picture.{left_out}
use Rattle.sw_see_events.specs.Watches.{IsWatched}
use Rattle.sw_see_events.specs.declared.happening.Happening.{Happening}
use Rattle.sw_see_events.specs.declared.watching.Watched.{Watched}
use Rattle.sw_see_find.specs.Found.{RacesBy}
use Rattle.sw_see.specs.Reply.{paint_of}
use Rattle.sw_see.specs.View.{IsViewOf, drawn_view, steps_outcome}

-- the bytes that were written are these, where they are known
abbrev pub Written : Type 0
Written = Option (List ℕ)

-- All breaches of the text were shown, and there are some.
pub record BreachesAreShown (rule : AsyncDefault) (color : Bool) (file text : List ℕ)
    (before after : Written) : Type 0 where
  pub breaches : List Breach
  pub some : breaches ≢ []
  pub are : Breaches rule all_phases text breaches
  pub bytes : Appended (shown_verdict (paint_of color) file text breaches) before after

-- The text has this graph, and names of global actors.
pub record IsProgramOf (rule : AsyncDefault) (text : List ℕ) (passed : Passed) : Type 0 where
  pub of_text : IsGraphOf rule text passed.graph
  pub named : HasActorNames text passed.actors

-- The schedule has items, and their replay was watched.
pub record Replayed (rule : AsyncDefault) (text schedule : List ℕ) : Type 0 where
  pub passed : Passed
  pub is_program : IsProgramOf rule text passed
  pub items : List ℕ
  pub are_items : IsItems schedule items
  pub watched : Watched
  pub is_watched : IsWatched passed.graph items watched

-- Each event of a replay was told.
pub record EventsAreTold (rule : AsyncDefault) (text schedule : List ℕ)
    (before after : Written) : Type 0 where
  pub replayed : Replayed rule text schedule
  pub bytes : Appended (steps_outcome text replayed.passed replayed.watched).bytes before after

-- The marks of a picture are for all of these events, in order, and each is for events of its own
-- job. Those that are drawn are the last ones, and are for all events but the first ones.
pub record AreMarked (events : List Happening) : Type 0 where
  pub all : Covers 1 (marks events) events
  pub last : Covers (1 + left_out (drawn (marks events))) (drawn (marks events))
      (drop (left_out (drawn (marks events))) events)

-- A replay was drawn, in a page or alone. Each event has its mark.
pub record EventsAreDrawn (rule : AsyncDefault) (in_page : Bool) (file text schedule : List ℕ)
    (before after : Written) : Type 0 where
  pub replayed : Replayed rule text schedule
  pub marked : AreMarked replayed.watched.happenings
  pub outcome : Outcome
  pub is_view : IsViewOf text replayed.passed replayed.watched (drawn_view in_page rule file)
      outcome
  pub bytes : Appended outcome.bytes before after

-- What was written is the text of a schedule whose replay meets a race of the program.
pub record RaceIsShown (rule : AsyncDefault) (text : List ℕ) (before after : Written)
    : Type 0 where
  pub graph : Graph
  pub of_text : IsGraphOf rule text graph
  pub schedule : List ℕ
  pub races : RacesBy graph schedule
  pub bytes : Appended schedule before after
