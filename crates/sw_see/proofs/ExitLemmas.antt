-- The exits of replies.
use Rattle.std.proofs.Common.{◌≡◌, ◌≢◌, inl, inr, true, false, Bool, ℕ, List, [], ◌∷◌, ◌++◌, Option, Some, None}
use Rattle.std.proofs.Common.{option_map, Ok, Err, refl, ap, ◌∙◌, append-nil}
use Rattle.sw_graph.specs.declared.graph.Graph.{Graph}
use Rattle.sw_value.specs.declared.race.Race.{Race}
use Rattle.sw_replay.specs.declared.output.Replay.{Replay}
use Rattle.sw_check_parts.specs.declared.TheConstants.{PROGRAM_LIMIT}
use Rattle.sw_check_parts.specs.declared.exit.Exit.{Exit}
use Rattle.sw_check_parts.specs.declared.exit.Exit.TheVariants as exits
use Rattle.sw_check_parts.specs.declared.outcome.Outcome.{Outcome}
use Rattle.sw_check_parts.specs.Course.{Read, Ended, Alone, Fetched}
use Rattle.sw_check_parts.specs.Exit.{IsOneOf, is_failure, is_silent}
use Rattle.sw_check_parts.specs.Lawful.{RefusesBy}
use Rattle.sw_check_parts.specs.Written.{Appended}
use Rattle.sw_check_parts.proofs.Inversions.{EndsBy, ends_alone, ends_then, refuses_alone}
use Rattle.sw_check_parts.proofs.Inversions.{refuses_fetched, refuses_then}
use Rattle.sw_decls.specs.declared.signature.AsyncDefault.{AsyncDefault}
use Rattle.sw_verdict.specs.Phases.{phases_to_size}
use Rattle.sw_check.specs.Programs.{Passed}
use Rattle.sw_check.specs.Reply.{EndsWithReply, by_items, replay_outcome, watched_outcome}
use Rattle.sw_check.proofs.ExitLemmas.{HasEndExit, HasExit, answers_end, answers_nothing_else}
use Rattle.sw_check.proofs.ExitLemmas.{items_end, items_refusals, program_ends, program_refusals}
use Rattle.sw_check.proofs.ExitLemmas.{run_ends, too_long_exit}
use Rattle.sw_see_breaches.specs.declared.painting.Paint.{Paint}
use Rattle.sw_see_find.specs.declared.finding.Found.{Found}
use Rattle.sw_see_find.specs.declared.finding.Found.TheVariants.{Nothing, Race as RaceFound}
use Rattle.sw_see_events.specs.declared.watching.Watched.{Watched}
use Rattle.sw_see_words.specs.Words.{Action, Breaches, Command, Draw, Find, OnFile, Steps}
use Rattle.sw_see.specs.Reply.{Finds, Reply, Shows, accepts, at_end, before_end, course_of}
use Rattle.sw_see.specs.Reply.{exits_of, file_course, file_exits, finds, found_outcome, paint_of}
use Rattle.sw_see.specs.Reply.{refuses, replay_course, usage}
use Rattle.sw_see.specs.View.{InSteps, IsViewOf, View, Views, as_page, as_picture, as_steps}
use Rattle.sw_see.specs.View.{drawn_view, steps_replay, views}

-- the last parts refuse nothing
shows_nothing_else : (Q : Outcome → Type 0) (paint : Paint) (rule : AsyncDefault)
    (file text : List ℕ) (other : Outcome) → Shows paint rule file text (Err other) → Q other
shows_nothing_else Q paint rule file text other is = elim is [ ]

views_nothing_else : (Q : Outcome → Type 0) (view : View) (text : List ℕ) (passed : Passed)
    (items : List ℕ) (other : Outcome) → Views view text passed items (Err other) → Q other
views_nothing_else Q view text passed items other is = elim is [ ]

finds_nothing_else : (Q : Outcome → Type 0) (graph : Graph) (other : Outcome)
    → Finds graph (Err other) → Q other
finds_nothing_else Q graph other is = elim is [ ]

-- the refusals of a command that shows a replay, with these exits of what it shows
replay_refusals : (rule : AsyncDefault) (file schedule_file : List ℕ) (view : View)
    (last : List Exit)
    → RefusesBy (HasExit (exits.TooLong ∷ exits.Breached ∷ exits.BadSchedule ∷ last))
    (replay_course rule file schedule_file view)
replay_refusals rule file schedule_file view last =
    program_refusals _ rule phases_to_size file _ (inl refl) (inr (inl refl))
    (λ text passed. items_refusals _ schedule_file (Views view text passed) (inl refl)
    (inr (inr (inl refl))) (views_nothing_else _ view text passed))

-- the refusals of a command on a file
file_refusals : (rule : AsyncDefault) (file : List ℕ) (action : Action)
    → RefusesBy (HasExit (file_exits action)) (file_course rule file action)
file_refusals rule file (Breaches color) =
    refuses_then _ (Fetched file PROGRAM_LIMIT) _
    (refuses_fetched _ file PROGRAM_LIMIT (too_long_exit _ (inl refl)))
    (λ text. refuses_alone _ (Shows (paint_of color) rule file text)
    (shows_nothing_else _ (paint_of color) rule file text))
file_refusals rule file (Steps schedule_file) =
    replay_refusals rule file schedule_file InSteps
    (exits.Done ∷ exits.Trapped ∷ exits.Raced ∷ [])
file_refusals rule file Find =
    program_refusals _ rule phases_to_size file _ (inl refl) (inr (inl refl))
    (λ text passed. refuses_alone _ (Finds passed.graph) (finds_nothing_else _ passed.graph))
file_refusals rule file (Draw schedule_file in_page) =
    replay_refusals rule file schedule_file (drawn_view in_page rule file) (exits.Done ∷ [])

refusals : (command : Option Command) → RefusesBy (HasExit (exits_of command)) (course_of command)
refusals None = refuses_alone _ (EndsWithReply usage) (answers_nothing_else _ usage)
refusals (Some (OnFile rule file action)) = file_refusals rule file action

-- the replies at the end
shows_end : (color : Bool) (paint : Paint) (rule : AsyncDefault) (file text : List ℕ)
    (outcome : Outcome) → Shows paint rule file text (Ok outcome)
    → HasEndExit (file_exits (Breaches color)) outcome
shows_end color paint rule file text _ (accepts is) =
    record { exit = inr (inr (inl refl)); plain = refl; speaks = refl }
shows_end color paint rule file text _ (refuses list some are) =
    record { exit = inr (inl refl); plain = refl; speaks = refl }

steps_end : (text schedule_file : List ℕ) (replay : Replay)
    → HasEndExit (file_exits (Steps schedule_file)) (replay_outcome text replay)
steps_end text schedule_file replay = by replay.race where
  by : (race : Option Race) → HasEndExit (file_exits (Steps schedule_file))
      (watched_outcome text replay.output race)
  by None = run_ends _ (inr (inr (inr (inl refl)))) (inr (inr (inr (inr (inl refl))))) text
      replay.output
  by (Some race) =
      record { exit = inr (inr (inr (inr (inr (inl refl))))); plain = refl; speaks = refl }

told_end : (schedule_file text : List ℕ) (passed : Passed) (watched : Watched) (outcome : Outcome)
    → IsViewOf text passed watched InSteps outcome
    → HasEndExit (file_exits (Steps schedule_file)) outcome
told_end schedule_file text passed watched _ as_steps =
    steps_end text schedule_file (steps_replay text passed watched)

drawn_end : (schedule_file : List ℕ) (in_page : Bool) (rule : AsyncDefault) (file text : List ℕ)
    (passed : Passed) (watched : Watched) (outcome : Outcome)
    → IsViewOf text passed watched (drawn_view in_page rule file) outcome
    → HasEndExit (file_exits (Draw schedule_file in_page)) outcome
drawn_end schedule_file true rule file text passed watched _ (as_page _ _ breaches are) =
    record { exit = inr (inr (inr (inl refl))); plain = refl; speaks = refl }
drawn_end schedule_file false rule file text passed watched _ as_picture =
    record { exit = inr (inr (inr (inl refl))); plain = refl; speaks = refl }

-- the replies at the end of a command that shows a replay
replay_ends : (among : List Exit) (rule : AsyncDefault) (file schedule_file : List ℕ) (view : View)
    → ((text : List ℕ) (passed : Passed) (watched : Watched) (outcome : Outcome)
    → IsViewOf text passed watched view outcome → HasEndExit among outcome)
    → EndsBy (HasEndExit among) (replay_course rule file schedule_file view)
replay_ends among rule file schedule_file view ends =
    program_ends _ rule phases_to_size file
    (λ text passed. by_items schedule_file (Views view text passed))
    (λ text passed. items_end _ schedule_file (Views view text passed)
    (views_end text passed)) where
      views_end : (text : List ℕ) (passed : Passed) (items : List ℕ) (outcome : Outcome)
          → Views view text passed items (Ok outcome) → HasEndExit among outcome
      views_end text passed items _ (views watched outcome is shown) =
          ends text passed watched outcome shown

finds_end : (graph : Graph) (outcome : Outcome) → Finds graph (Ok outcome)
    → HasEndExit (file_exits Find) outcome
finds_end graph _ (finds found is) = by found where
  by : (found : Found) → HasEndExit (file_exits Find) (found_outcome found)
  by (RaceFound schedule) =
      record { exit = inr (inr (inr (inl refl))); plain = refl; speaks = refl }
  by (Nothing tries) = record { exit = inr (inr (inl refl)); plain = refl; speaks = refl }

file_ends : (rule : AsyncDefault) (file : List ℕ) (action : Action)
    → EndsBy (HasEndExit (file_exits action)) (file_course rule file action)
file_ends rule file (Breaches color) =
    ends_then _ (Fetched file PROGRAM_LIMIT) _
    (λ _ text _. ends_alone _ (Shows (paint_of color) rule file text)
    (shows_end color (paint_of color) rule file text))
file_ends rule file (Steps schedule_file) =
    replay_ends _ rule file schedule_file InSteps (told_end schedule_file)
file_ends rule file Find =
    program_ends _ rule phases_to_size file (λ text passed. Alone (Finds passed.graph))
    (λ text passed. ends_alone _ (Finds passed.graph) (finds_end passed.graph))
file_ends rule file (Draw schedule_file in_page) =
    replay_ends _ rule file schedule_file (drawn_view in_page rule file)
    (drawn_end schedule_file in_page rule file)

at_ends : (command : Option Command) → EndsBy (HasEndExit (exits_of command)) (course_of command)
at_ends None = ends_alone _ (EndsWithReply usage)
    (λ outcome is. answers_end _ usage outcome
    (record { exit = inl refl; plain = refl; speaks = refl }) is)
at_ends (Some (OnFile rule file action)) = file_ends rule file action

pub end_exit : (command : Option Command) (reads : List Read) (outcome : Outcome)
    → course_of command reads (Ended (Ok outcome)) → IsOneOf (exits_of command) outcome.exit
end_exit command reads outcome ended = (at_ends command reads outcome ended).exit

pub end_plain : (command : Option Command) (reads : List Read) (outcome : Outcome)
    → course_of command reads (Ended (Ok outcome)) → is_failure outcome.exit ≡ false
end_plain command reads outcome ended = (at_ends command reads outcome ended).plain

-- no file is too long at the end of a command
pub end_short : (command : Option Command) (reads : List Read) (outcome : Outcome)
    → course_of command reads (Ended (Ok outcome)) → outcome.exit ≢ exits.TooLong
end_short command reads outcome ended long =
    cc ((at_ends command reads outcome ended).speaks, ap is_silent long)

pub refusal_exit : (command : Option Command) (reads : List Read) (outcome : Outcome)
    → course_of command reads (Ended (Err outcome)) → IsOneOf (exits_of command) outcome.exit
refusal_exit command reads outcome ended = (refusals command reads outcome ended).exit

pub refusal_plain : (command : Option Command) (reads : List Read) (outcome : Outcome)
    → course_of command reads (Ended (Err outcome)) → is_failure outcome.exit ≡ false
refusal_plain command reads outcome ended = (refusals command reads outcome ended).plain

reply_silent : (command : Option Command) (reads : List Read) (outcome : Outcome)
    → Reply command reads outcome → is_silent outcome.exit ≡ true → outcome.bytes ≡ []
reply_silent command reads outcome (at_end ended) silent =
    cc ((at_ends command reads outcome ended).speaks, silent)
reply_silent command reads outcome (before_end ended) silent =
    (refusals command reads outcome ended).silent silent

-- a whole reply with such an exit leaves a sink as it was
pub silent_written : (command : Option Command) (reads : List Read) (outcome : Outcome)
    (before after : Option (List ℕ)) → Reply command reads outcome
    → Appended outcome.bytes before after → is_silent outcome.exit ≡ true → after ≡ before
silent_written command reads outcome before after reply appended silent =
    appended ∙ ap (λ bytes. option_map (λ written. written ++ bytes) before)
    (reply_silent command reads outcome reply silent) ∙ nothing before where
      nothing : (written : Option (List ℕ)) → option_map (λ bytes. bytes ++ []) written ≡ written
      nothing None = refl
      nothing (Some bytes) = ap Some (append-nil bytes)
