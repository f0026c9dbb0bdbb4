-- What a reply says of the program and the schedule in files that are known.
use Rattle.std.proofs.Common.{◌≡◌, ◌≢◌, inl, inr, ℕ, Bool, List, [], ◌∷◌, Option, Some, Result, Ok}
use Rattle.std.proofs.Common.{Err, IfSome, subst}
use Rattle.sw_outside.specs.Shelf.{KnownShelf, file_of}
use Rattle.sw_replay.specs.Items.{IsItems}
use Rattle.sw_check_parts.specs.declared.TheConstants.{PROGRAM_LIMIT}
use Rattle.sw_check_parts.specs.declared.exit.Exit.{Exit}
use Rattle.sw_check_parts.specs.declared.exit.Exit.TheVariants.{Breached, Done, Raced, Trapped}
use Rattle.sw_check_parts.specs.declared.outcome.Outcome.{Outcome}
use Rattle.sw_check_parts.specs.Course.{Alone, AreOf, Ended, Part, Read, ◌>>=◌}
use Rattle.sw_check_parts.specs.Exit.{IsOneOf}
use Rattle.sw_check_parts.specs.Written.{Appended}
use Rattle.sw_check_parts.proofs.Inversions.{EndsAfterFetch, EndsAfterRule, after_fetch, after_rule}
use Rattle.sw_check_parts.proofs.Inversions.{by_rule, fetched, gives, too_long}
use Rattle.sw_check_parts.proofs.Inversions.{refuses as refuses_first}
use Rattle.sw_decls.specs.declared.signature.AsyncDefault.{AsyncDefault}
use Rattle.sw_verdict.specs.Phases.{phases_to_size}
use Rattle.sw_check.specs.Programs.{Passed}
use Rattle.sw_check.specs.Reply.{IsJudgement, breached, by_items, passes}
use Rattle.sw_check.proofs.AfterItems.{EndsAfterItems, after_items, bad_schedule, has_schedule}
use Rattle.sw_check.proofs.AfterItems.{long_schedule}
use Rattle.sw_check.proofs.Pieces.{outcome_of}
use Rattle.sw_see_find.specs.declared.finding.Found.{Found}
use Rattle.sw_see_find.specs.declared.finding.Found.TheVariants.{Nothing, Race}
use Rattle.sw_see_find.specs.Found.{IsFound}
use Rattle.sw_see_draw.proofs.DrawnLemmas.{drawn_covers}
use Rattle.sw_see_draw.proofs.MarkLemmas.{covers}
use Rattle.sw_see_words.specs.Words.{Breaches, Command, Draw, Find, OnFile, Steps}
use Rattle.sw_see.specs.Call.{Answered}
use Rattle.sw_see.specs.Claims.{BreachesAreShown, EventsAreDrawn, EventsAreTold, IsProgramOf}
use Rattle.sw_see.specs.Claims.{RaceIsShown, Replayed, Written}
use Rattle.sw_see.specs.Reply.{Finds, Reply, Shows, accepts, at_end, before_end}
use Rattle.sw_see.specs.Reply.{finds, found_outcome, paint_of, refuses, replay_course}
use Rattle.sw_see.specs.View.{InSteps, IsViewOf, View, Views, as_steps, drawn_view, views}

-- the exits with which a replay is shown
abbrev pub shown_exits : List Exit
shown_exits = Done ∷ Trapped ∷ Raced ∷ []

-- no other exit is one of them
unshown : (exit : Exit) → exit ≢ Done → exit ≢ Trapped → exit ≢ Raced → IsOneOf shown_exits exit
    → ⊥
unshown exit not_done not_trapped not_raced (inl is) = not_done is
unshown exit not_done not_trapped not_raced (inr (inl is)) = not_trapped is
unshown exit not_done not_trapped not_raced (inr (inr (inl is))) = not_raced is
unshown exit not_done not_trapped not_raced (inr (inr (inr is))) = is

-- a replay was watched, and this is shown of it
record IsViewed (rule : AsyncDefault) (view : View) (text schedule : List ℕ) (outcome : Outcome)
    : Type 0 where
  replayed : Replayed rule text schedule
  is_view : IsViewOf text replayed.passed replayed.watched view outcome

-- the reply was written
abbrev IsWritten : Written → Written → Result Outcome Outcome → Type 0
IsWritten before after result = Appended (outcome_of result).bytes before after

module _ (files : List ℕ → List ℕ) (rule : AsyncDefault) (file : List ℕ)
    (before after : Written) where
  -- `breaches`
  module _ (color : Bool) where
    abbrev IsShown : List ℕ → Result Outcome Outcome → Type 0
    IsShown text = Shows (paint_of color) rule file text

    by_shows : (result : Result Outcome Outcome) → IsShown (files file) result
        → (outcome_of result).exit ≡ Breached → IsWritten before after result
        → BreachesAreShown rule color file (files file) before after
    by_shows _ (accepts is) exit bytes = cc
    by_shows _ (refuses list some are) exit bytes =
        record { breaches = list; some = some; are = are; bytes = bytes }

    shown_ends : (result : Result Outcome Outcome)
        → EndsAfterFetch files file PROGRAM_LIMIT (λ text. Alone (IsShown text)) result
        → (outcome_of result).exit ≡ Breached → IsWritten before after result
        → BreachesAreShown rule color file (files file) before after
    shown_ends _ (too_long long) exit bytes = cc
    shown_ends _ (fetched others result short of_files ended) exit bytes =
        by_shows result (by_rule (IsShown (files file)) others result ended) exit bytes

    pub reply_shows : (reads : List Read) (outcome : Outcome) → AreOf files reads
        → Reply (Some (OnFile rule file (Breaches color))) reads outcome
        → outcome.exit ≡ Breached → Appended outcome.bytes before after
        → BreachesAreShown rule color file (files file) before after
    reply_shows reads outcome of_files (at_end ended) exit bytes =
        shown_ends (Ok outcome) (after_fetch files file PROGRAM_LIMIT (λ text. Alone (IsShown text))
        reads (Ok outcome) of_files ended) exit bytes
    reply_shows reads outcome of_files (before_end ended) exit bytes =
        shown_ends (Err outcome) (after_fetch files file PROGRAM_LIMIT (λ text. Alone (IsShown text))
        reads (Err outcome) of_files ended) exit bytes

  -- a program that passes the phases up to the size of its functions
  program_of : (text : List ℕ) (passed : Passed) → IsJudgement rule phases_to_size text (Ok passed)
      → IsProgramOf rule text passed
  program_of text _ (passes passed verdict named) =
      record { of_text = verdict.1; named = named }

  -- a command that shows a replay
  module _ (schedule_file : List ℕ) (view : View) where
    abbrev viewed_of : List ℕ → Passed → Part Outcome
    viewed_of text passed = by_items schedule_file (Views view text passed)

    abbrev replay_of : List ℕ → Part Outcome
    replay_of text = Alone (IsJudgement rule phases_to_size text) >>= viewed_of text

    abbrev Viewed : Outcome → Type 0
    Viewed outcome = IsViewed rule view (files file) (files schedule_file) outcome

    module _ (passed : Passed) (is_program : IsProgramOf rule (files file) passed) where
      by_views : (items : List ℕ) → IsItems (files schedule_file) items
          → (result : Result Outcome Outcome) → Views view (files file) passed items result
          → Viewed (outcome_of result)
      by_views items are _ (views watched outcome is shown) = record {
        replayed = record {
          passed = passed;
          is_program = is_program;
          items = items;
          are_items = are;
          watched = watched;
          is_watched = is;
        };
        is_view = shown;
      }

      items_end : (result : Result Outcome Outcome)
          → EndsAfterItems files schedule_file
          (λ items. Alone (Views view (files file) passed items)) result
          → IsOneOf shown_exits (outcome_of result).exit → Viewed (outcome_of result)
      items_end _ (long_schedule long) exit =
          absurd (unshown _ (λ e. cc) (λ e. cc) (λ e. cc) exit)
      items_end _ (bad_schedule short fault is) exit =
          absurd (unshown _ (λ e. cc) (λ e. cc) (λ e. cc) exit)
      items_end _ (has_schedule others result items short are ended) exit =
          by_views items are result
          (by_rule (Views view (files file) passed items) others result ended)

    judged_ends : (reads : List Read) → AreOf files reads → (result : Result Outcome Outcome)
        → EndsAfterRule (IsJudgement rule phases_to_size (files file)) (viewed_of (files file))
        reads result → IsOneOf shown_exits (outcome_of result).exit → Viewed (outcome_of result)
    judged_ends reads of_files _ (refuses_first outcome judged) exit =
        absurd (not_shown outcome judged exit) where
          not_shown : (outcome : Outcome)
              → IsJudgement rule phases_to_size (files file) (Err outcome)
              → IsOneOf shown_exits outcome.exit → ⊥
          not_shown _ (breached list is) exit = unshown _ (λ e. cc) (λ e. cc) (λ e. cc) exit
    judged_ends reads of_files _ (gives passed result judged ended) exit =
        items_end passed (program_of (files file) passed judged) result
        (after_items files schedule_file (λ items. Alone (Views view (files file) passed items))
        reads result of_files ended) exit

    viewed_ends : (result : Result Outcome Outcome)
        → EndsAfterFetch files file PROGRAM_LIMIT replay_of result
        → IsOneOf shown_exits (outcome_of result).exit → Viewed (outcome_of result)
    viewed_ends _ (too_long long) exit =
        absurd (unshown _ (λ e. cc) (λ e. cc) (λ e. cc) exit)
    viewed_ends _ (fetched others result short of_files ended) exit =
        judged_ends others of_files result
        (after_rule (IsJudgement rule phases_to_size (files file)) (viewed_of (files file)) others
        result ended) exit

    course_views : (reads : List Read) (result : Result Outcome Outcome) → AreOf files reads
        → replay_course rule file schedule_file view reads (Ended result)
        → IsOneOf shown_exits (outcome_of result).exit → Viewed (outcome_of result)
    course_views reads result of_files ended exit =
        viewed_ends result
        (after_fetch files file PROGRAM_LIMIT replay_of reads result of_files ended) exit

  -- `steps`
  module _ (schedule_file : List ℕ) where
    told : (replayed : Replayed rule (files file) (files schedule_file)) (outcome : Outcome)
        → IsViewOf (files file) replayed.passed replayed.watched InSteps outcome
        → Appended outcome.bytes before after
        → EventsAreTold rule (files file) (files schedule_file) before after
    told replayed _ as_steps bytes = record { replayed = replayed; bytes = bytes }

    steps_viewed : (reads : List Read) (outcome : Outcome) → AreOf files reads
        → Reply (Some (OnFile rule file (Steps schedule_file))) reads outcome
        → IsOneOf shown_exits outcome.exit → Viewed schedule_file InSteps outcome
    steps_viewed reads outcome of_files (at_end ended) exit =
        course_views schedule_file InSteps reads (Ok outcome) of_files ended exit
    steps_viewed reads outcome of_files (before_end ended) exit =
        course_views schedule_file InSteps reads (Err outcome) of_files ended exit

    pub reply_tells : (reads : List Read) (outcome : Outcome) → AreOf files reads
        → Reply (Some (OnFile rule file (Steps schedule_file))) reads outcome
        → IsOneOf shown_exits outcome.exit → Appended outcome.bytes before after
        → EventsAreTold rule (files file) (files schedule_file) before after
    reply_tells reads outcome of_files reply exit bytes =
        let viewed = steps_viewed reads outcome of_files reply exit in
        told viewed.replayed outcome viewed.is_view bytes

  -- `draw`
  module _ (schedule_file : List ℕ) (in_page : Bool) where
    abbrev drawn : View
    drawn = drawn_view in_page rule file

    draw_viewed : (reads : List Read) (outcome : Outcome) → AreOf files reads
        → Reply (Some (OnFile rule file (Draw schedule_file in_page))) reads outcome
        → IsOneOf shown_exits outcome.exit → Viewed schedule_file drawn outcome
    draw_viewed reads outcome of_files (at_end ended) exit =
        course_views schedule_file drawn reads (Ok outcome) of_files ended exit
    draw_viewed reads outcome of_files (before_end ended) exit =
        course_views schedule_file drawn reads (Err outcome) of_files ended exit

    pub reply_draws : (reads : List Read) (outcome : Outcome) → AreOf files reads
        → Reply (Some (OnFile rule file (Draw schedule_file in_page))) reads outcome
        → outcome.exit ≡ Done → Appended outcome.bytes before after
        → EventsAreDrawn rule in_page file (files file) (files schedule_file) before after
    reply_draws reads outcome of_files reply done bytes =
        let viewed = draw_viewed reads outcome of_files reply (inl done) in
        record {
          replayed = viewed.replayed;
          marked = record {
            all = covers viewed.replayed.watched.happenings;
            last = drawn_covers viewed.replayed.watched.happenings;
          };
          outcome = outcome;
          is_view = viewed.is_view;
          bytes = bytes;
        }

  -- `find`
  abbrev Shown : Type 0
  Shown = RaceIsShown rule (files file) before after

  abbrev find_of : List ℕ → Part Outcome
  find_of text = Alone (IsJudgement rule phases_to_size text) >>= (λ passed. Alone (Finds passed.graph))

  module _ (passed : Passed) (is_program : IsProgramOf rule (files file) passed) where
    by_found : (found : Found) → IsFound passed.graph found → (found_outcome found).exit ≡ Raced
        → Appended (found_outcome found).bytes before after → Shown
    by_found (Race schedule) races exit bytes = record {
      graph = passed.graph;
      of_text = is_program.of_text;
      schedule = schedule;
      races = races;
      bytes = bytes;
    }
    by_found (Nothing tries) is exit bytes = cc

    by_finds : (result : Result Outcome Outcome) → Finds passed.graph result
        → (outcome_of result).exit ≡ Raced → IsWritten before after result → Shown
    by_finds _ (finds found is) exit bytes = by_found found is exit bytes

  found_judged : (reads : List Read) (result : Result Outcome Outcome)
      → EndsAfterRule (IsJudgement rule phases_to_size (files file))
      (λ passed. Alone (Finds passed.graph)) reads result
      → (outcome_of result).exit ≡ Raced → IsWritten before after result → Shown
  found_judged reads _ (refuses_first outcome judged) exit bytes =
      absurd (not_raced outcome judged exit) where
        not_raced : (outcome : Outcome)
            → IsJudgement rule phases_to_size (files file) (Err outcome) → outcome.exit ≢ Raced
        not_raced _ (breached list is) e = cc
  found_judged reads _ (gives passed result judged ended) exit bytes =
      by_finds passed (program_of (files file) passed judged) result
      (by_rule (Finds passed.graph) reads result ended) exit bytes

  found_ends : (result : Result Outcome Outcome)
      → EndsAfterFetch files file PROGRAM_LIMIT find_of result
      → (outcome_of result).exit ≡ Raced → IsWritten before after result → Shown
  found_ends _ (too_long long) exit bytes = cc
  found_ends _ (fetched others result short of_files ended) exit bytes =
      found_judged others result
      (after_rule (IsJudgement rule phases_to_size (files file))
      (λ passed. Alone (Finds passed.graph)) others result ended) exit bytes

  pub reply_finds : (reads : List Read) (outcome : Outcome) → AreOf files reads
      → Reply (Some (OnFile rule file Find)) reads outcome
      → outcome.exit ≡ Raced → Appended outcome.bytes before after → Shown
  reply_finds reads outcome of_files (at_end ended) exit bytes =
      found_ends (Ok outcome) (after_fetch files file PROGRAM_LIMIT find_of reads (Ok outcome)
      of_files ended) exit bytes
  reply_finds reads outcome of_files (before_end ended) exit bytes =
      found_ends (Err outcome) (after_fetch files file PROGRAM_LIMIT find_of reads (Err outcome)
      of_files ended) exit bytes

-- where the files are known, the reply is one to this command over them
pub over_known : {command : Option Command} {before after : Option KnownShelf} {outcome : Outcome}
    (answered : Answered command before outcome after) (known : KnownShelf) (given : Command)
    → before ≡ Some known → command ≡ Some given
    → AreOf (file_of known.files) answered.reads × Reply (Some given) answered.reads outcome
over_known {outcome = outcome} answered known given is same = (
  subst (λ shelf. IfSome shelf (λ known. AreOf (file_of known.files) answered.reads)) is
      answered.has_read.of_files,
  subst (λ command. Reply command answered.reads outcome) same answered.reply,
)
