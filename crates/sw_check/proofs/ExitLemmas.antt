-- The exits of replies.
use Rattle.std.proofs.Common.{◌≡◌, ◌≢◌, inl, inr, true, false, ℕ, List, [], ◌++◌}
use Rattle.std.proofs.Common.{Option, Some, None, option_map, Ok, Err, refl, ap, ◌∙◌, subst}
use Rattle.std.proofs.Common.{◌∷◌, Result, append-nil, arith, length}
use Rattle.std.specs.List.{AllByRecursion}
use Rattle.sw_graph.specs.declared.graph.Graph.{Graph}
use Rattle.sw_replay.specs.declared.output.End.{End}
use Rattle.sw_replay.specs.declared.output.End.TheVariants.{Ran, Trapped}
use Rattle.sw_replay.specs.declared.output.Output.{Output}
use Rattle.sw_replay.specs.declared.output.Replay.{Replay}
use Rattle.sw_replay.specs.declared.text.TheConstants.{SCHEDULE_LIMIT}
use Rattle.sw_replay.specs.Output.{output_of}
use Rattle.sw_value.specs.declared.race.Race.{Race}
use Rattle.sw_check_parts.specs.declared.TheConstants.{PROGRAM_LIMIT}
use Rattle.sw_check_parts.specs.declared.exit.Exit.{Exit}
use Rattle.sw_check_parts.specs.declared.exit.Exit.TheVariants as exits
use Rattle.sw_check_parts.specs.declared.outcome.Outcome.{Outcome}
use Rattle.sw_check_parts.specs.Course.{Read, Ended, Part, Alone, Fetched, too_long_file}
use Rattle.sw_check_parts.specs.Exit.{IsOneOf, is_failure, is_silent}
use Rattle.sw_check_parts.specs.Lawful.{RefusesBy}
use Rattle.sw_check_parts.specs.Written.{Appended}
use Rattle.sw_check_parts.proofs.Inversions.{EndsBy, refuses_alone}
use Rattle.sw_check_parts.proofs.Inversions.{refuses_fetched, refuses_then, ends_alone, ends_then}
use Rattle.sw_decls.specs.declared.signature.AsyncDefault.{AsyncDefault}
use Rattle.sw_decls.specs.declared.signature.AsyncDefault.TheVariants.{Concurrent}
use Rattle.sw_hb.specs.declared.ordering.OrderReplay.{OrderReplay}
use Rattle.sw_hb.specs.declared.ordering.OrderReplay.TheVariants as replays
use Rattle.sw_cert.specs.declared.verdict.CertFault.{CertFault}
use Rattle.sw_cert.specs.declared.verdict.TheConstants.{CERTIFICATE_LIMIT}
use Rattle.sw_verdict.specs.Phases.{Phase, all_phases, phases_to_sharing, phases_to_size}
use Rattle.sw_owners.specs.Lines.{owner_lines}
use Rattle.sw_owners.specs.Replay.{owner_replay}
use Rattle.sw_check.specs.Claims.{phases_of}
use Rattle.sw_check.specs.Programs.{Passed}
use Rattle.sw_check.specs.Reply.{usage, accepted, end_outcome, EndsWithReply, IsJudgement, breached}
use Rattle.sw_check.specs.Reply.{Scheduled, has_fault, Runs, Traces, ends, course_of, Reply, at_end}
use Rattle.sw_check.specs.Reply.{before_end, by_items, demo_course, demo_end, demo_exits, demo_items}
use Rattle.sw_check.specs.Reply.{demo_outcome, exits_of, file_course, file_exits, items_in}
use Rattle.sw_check.specs.Reply.{Owns, owners_reply, replay_outcome, run_exits, run_outcome}
use Rattle.sw_check.specs.Reply.{Certifies, Orders, Verifies, by_certificate, certificate_outcome}
use Rattle.sw_check.specs.Reply.{in_order, order_outcome, prints, tests, verified_outcome}
use Rattle.sw_check.specs.Reply.{watched_outcome}
use Rattle.sw_gen.specs.Program.{program}
use Rattle.sw_check_words.specs.Words.{Action, Check, Certify, Verify, Run, Trace, Owners, Order}
use Rattle.sw_check_words.specs.Words.{Command, OnFile, Demo}
use Rattle.sw_check.proofs.Pieces.{program_then}

-- a reply that has one of these exits: it reports no failure, and nothing is written where the exit
-- says so
pub record HasExit (among : List Exit) (outcome : Outcome) : Type 0 where
  pub exit : IsOneOf among outcome.exit
  pub plain : is_failure outcome.exit ≡ false
  pub silent : is_silent outcome.exit ≡ true → outcome.bytes ≡ []

-- the same of a reply at the end of a command, which writes something
pub record HasEndExit (among : List Exit) (outcome : Outcome) : Type 0 where
  pub exit : IsOneOf among outcome.exit
  pub plain : is_failure outcome.exit ≡ false
  pub speaks : is_silent outcome.exit ≡ false

-- the refusals of parts
pub too_long_exit : (among : List Exit) → IsOneOf among exits.TooLong → HasExit among too_long_file
too_long_exit among one = record { exit = one; plain = refl; silent = λ _. refl }

judged_exit : (among : List Exit) (rule : AsyncDefault) (phases : List Phase) (text : List ℕ)
    → IsOneOf among exits.Breached → (outcome : Outcome)
    → IsJudgement rule phases text (Err outcome)
    → HasExit among outcome
judged_exit among rule phases text one _ (breached list _) =
    record { exit = one; plain = refl; silent = λ e. cc }

scheduled_exit : (among : List Exit) (schedule : List ℕ) → IsOneOf among exits.BadSchedule
    → (outcome : Outcome) → Scheduled schedule (Err outcome) → HasExit among outcome
scheduled_exit among schedule one _ (has_fault fault _) =
    record { exit = one; plain = refl; silent = λ e. cc }

-- the last parts refuse nothing
pub answers_nothing_else : (Q : Outcome → Type 0) (outcome other : Outcome)
    → EndsWithReply outcome (Err other) → Q other
answers_nothing_else Q outcome other is = cc

traces_nothing_else : (Q : Outcome → Type 0) (text : List ℕ) (graph : Graph) (items : List ℕ)
    (other : Outcome) → Traces text graph items (Err other) → Q other
traces_nothing_else Q text graph items other is = elim is [ ]

orders_nothing_else : (Q : Outcome → Type 0) (text : List ℕ) (graph : Graph) (items : List ℕ)
    (other : Outcome) → Orders text graph items (Err other) → Q other
orders_nothing_else Q text graph items other is = elim is [ ]

certifies_nothing_else : (Q : Outcome → Type 0) (graph : Graph) (other : Outcome)
    → Certifies graph (Err other) → Q other
certifies_nothing_else Q graph other is = elim is [ ]

verifies_nothing_else : (Q : Outcome → Type 0) (graph : Graph) (certificate : List ℕ)
    (other : Outcome) → Verifies graph certificate (Err other) → Q other
verifies_nothing_else Q graph certificate other is = elim is [ ]

-- a program that is fetched and judged, and the rest
pub program_refusals : (among : List Exit) (rule : AsyncDefault) (phases : List Phase) (file : List ℕ)
    (rest : List ℕ → Passed → Part Outcome) → IsOneOf among exits.TooLong
    → IsOneOf among exits.Breached
    → ((text : List ℕ) (passed : Passed) → RefusesBy (HasExit among) (rest text passed))
    → RefusesBy (HasExit among) (program_then rule phases file rest)
program_refusals among rule phases file rest long refused others =
    refuses_then (HasExit among) (Fetched file PROGRAM_LIMIT) _
    (refuses_fetched (HasExit among) file PROGRAM_LIMIT (too_long_exit among long))
    (λ text. refuses_then (HasExit among) (Alone (IsJudgement rule phases text)) (rest text)
    (refuses_alone (HasExit among) (IsJudgement rule phases text)
    (judged_exit among rule phases text refused))
    (others text))

-- a schedule that is fetched, and what is answered
pub items_refusals : (among : List Exit) (file : List ℕ)
    (Answers : List ℕ → Result Outcome Outcome → Type 0)
    → IsOneOf among exits.TooLong → IsOneOf among exits.BadSchedule
    → ((items : List ℕ) (other : Outcome) → Answers items (Err other) → HasExit among other)
    → RefusesBy (HasExit among) (by_items file Answers)
items_refusals among file Answers long bad nothing_else =
    refuses_then (HasExit among) (items_in file) _
    (refuses_then (HasExit among) (Fetched file SCHEDULE_LIMIT) _
    (refuses_fetched (HasExit among) file SCHEDULE_LIMIT (too_long_exit among long))
    (λ schedule. refuses_alone (HasExit among) (Scheduled schedule)
    (scheduled_exit among schedule bad)))
    (λ items. refuses_alone (HasExit among) (Answers items) (nothing_else items))

-- the refusals of a command on a file
file_refusals : (rule : AsyncDefault) (file : List ℕ) (action : Action)
    → RefusesBy (HasExit (file_exits action)) (file_course rule file action)
file_refusals rule file Check =
    program_refusals _ rule all_phases file _ (inl refl) (inr (inl refl))
    (λ text passed. refuses_alone _ (EndsWithReply accepted) (answers_nothing_else _ accepted))
file_refusals rule file Certify =
    program_refusals _ rule all_phases file _ (inl refl) (inr (inl refl))
    (λ text passed. refuses_alone _ (Certifies passed.graph)
    (certifies_nothing_else _ passed.graph))
file_refusals rule file (Verify certificate_file) =
    program_refusals _ rule phases_to_sharing file _ (inl refl) (inr (inl refl))
    (λ text passed. refuses_then _ (Fetched certificate_file CERTIFICATE_LIMIT) _
    (refuses_fetched _ certificate_file CERTIFICATE_LIMIT (too_long_exit _ (inl refl)))
    (λ bytes. refuses_alone _ (Verifies passed.graph bytes)
    (verifies_nothing_else _ passed.graph bytes)))
file_refusals rule file (Run schedule_file) =
    program_refusals _ rule all_phases file _ (inl refl) (inr (inl refl))
    (λ text passed. items_refusals _ schedule_file (Runs text passed.graph) (inl refl)
    (inr (inr (inl refl)))
    (λ items. answers_nothing_else _ (run_outcome text (output_of passed.graph items))))
file_refusals rule file (Trace schedule_file) =
    program_refusals _ rule phases_to_size file _ (inl refl) (inr (inl refl))
    (λ text passed. items_refusals _ schedule_file (Traces text passed.graph) (inl refl)
    (inr (inr (inl refl))) (traces_nothing_else _ text passed.graph))
file_refusals rule file (Owners schedule_file) =
    program_refusals _ rule all_phases file _ (inl refl) (inr (inl refl))
    (λ text passed. items_refusals _ schedule_file (Owns text passed) (inl refl)
    (inr (inr (inl refl)))
    (λ items. answers_nothing_else _ (owners_reply text passed items)))
file_refusals rule file (Order schedule_file) =
    program_refusals _ rule phases_to_size file _ (inl refl) (inr (inl refl))
    (λ text passed. items_refusals _ schedule_file (Orders text passed.graph) (inl refl)
    (inr (inr (inl refl))) (orders_nothing_else _ text passed.graph))

demo_refusals : (actors : ℕ) → RefusesBy (HasExit demo_exits) (demo_course actors)
demo_refusals actors =
    refuses_then (HasExit demo_exits) (Alone (IsJudgement Concurrent all_phases (program actors))) _
    (refuses_alone (HasExit demo_exits) (IsJudgement Concurrent all_phases (program actors))
    (judged_exit demo_exits Concurrent all_phases (program actors) (inl refl)))
    (λ passed. refuses_alone (HasExit demo_exits)
    (EndsWithReply (demo_outcome actors (output_of passed.graph (demo_items actors))))
    (answers_nothing_else _ (demo_outcome actors (output_of passed.graph (demo_items actors)))))

refusals : (command : Option Command) → RefusesBy (HasExit (exits_of command)) (course_of command)
refusals None = refuses_alone _ (EndsWithReply usage) (answers_nothing_else _ usage)
refusals (Some (OnFile rule file action)) = file_refusals rule file action
refusals (Some (Demo actors)) = demo_refusals actors

-- the replies at the end
pub answers_end : (among : List Exit) (outcome other : Outcome) → HasEndExit among outcome
    → EndsWithReply outcome (Ok other) → HasEndExit among other
answers_end among outcome other end is =
    let same : outcome ≡ other = cc (is) in
    subst (HasEndExit among) same end

pub run_ends : (among : List Exit) → IsOneOf among exits.Done → IsOneOf among exits.Trapped
    → (text : List ℕ) (output : Output) → HasEndExit among (run_outcome text output)
run_ends among done trapped text output = by output.end where
  by : (end : End)
      → HasEndExit among (end_outcome text output.lines output.ended output.jobs end)
  by Ran = record { exit = done; plain = refl; speaks = refl }
  by (Trapped kind at) = record { exit = trapped; plain = refl; speaks = refl }

a_run_ends : (text : List ℕ) (output : Output) → HasEndExit run_exits (run_outcome text output)
a_run_ends = run_ends run_exits (inr (inr (inr (inl refl)))) (inr (inr (inr (inr (inl refl)))))

-- the same of a reply with more lines
with_lines : (lines : List ℕ) (outcome : Outcome) → HasEndExit run_exits outcome
    → HasEndExit run_exits (record { exit = outcome.exit; bytes = outcome.bytes ++ lines })
with_lines lines outcome has =
    record { exit = has.exit; plain = has.plain; speaks = has.speaks }

replay_end : (text schedule_file : List ℕ) (replay : Replay)
    → HasEndExit (file_exits (Trace schedule_file)) (replay_outcome text replay)
replay_end text schedule_file replay = by replay.race where
  by : (race : Option Race) → HasEndExit (file_exits (Trace schedule_file))
      (watched_outcome text replay.output race)
  by None = run_ends _ (inr (inr (inr (inl refl)))) (inr (inr (inr (inr (inl refl))))) text
      replay.output
  by (Some race) =
      record { exit = inr (inr (inr (inr (inr (inl refl))))); plain = refl; speaks = refl }

trace_ends : (schedule_file text : List ℕ) (graph : Graph) (items : List ℕ) (outcome : Outcome)
    → Traces text graph items (Ok outcome)
    → HasEndExit (file_exits (Trace schedule_file)) outcome
trace_ends schedule_file text graph items _ (ends replay is) = replay_end text schedule_file replay

demo_ends : (actors : ℕ) (output : Output) → HasEndExit demo_exits (demo_outcome actors output)
demo_ends actors output = by output.end where
  by : (end : End)
      → HasEndExit demo_exits (demo_end actors output.lines output.ended output.jobs end)
  by Ran = record { exit = inr (inl refl); plain = refl; speaks = refl }
  by (Trapped kind at) = record { exit = inr (inr (inl refl)); plain = refl; speaks = refl }

pub program_ends : (among : List Exit) (rule : AsyncDefault) (phases : List Phase) (file : List ℕ)
    (rest : List ℕ → Passed → Part Outcome)
    → ((text : List ℕ) (passed : Passed) → EndsBy (HasEndExit among) (rest text passed))
    → EndsBy (HasEndExit among) (program_then rule phases file rest)
program_ends among rule phases file rest others =
    ends_then (HasEndExit among) (Fetched file PROGRAM_LIMIT) _
    (λ _ text _. ends_then (HasEndExit among) (Alone (IsJudgement rule phases text)) (rest text)
    (λ _ passed _. others text passed))

pub items_end : (among : List Exit) (file : List ℕ)
    (Answers : List ℕ → Result Outcome Outcome → Type 0)
    → ((items : List ℕ) (outcome : Outcome) → Answers items (Ok outcome) → HasEndExit among outcome)
    → EndsBy (HasEndExit among) (by_items file Answers)
items_end among file Answers each =
    ends_then (HasEndExit among) (items_in file) _
    (λ _ items _. ends_alone (HasEndExit among) (Answers items) (each items))

-- the reply about an order
order_ends : (schedule_file text : List ℕ) (graph : Graph) (items : List ℕ) (outcome : Outcome)
    → Orders text graph items (Ok outcome) → HasEndExit (file_exits (Order schedule_file)) outcome
order_ends schedule_file text graph items _ (in_order replay is) = by replay where
  by : (replay : OrderReplay)
      → HasEndExit (file_exits (Order schedule_file)) (order_outcome text replay)
  by replays.ManyJobs =
      record { exit = inr (inr (inr (inr (inr (inl refl))))); plain = refl; speaks = refl }
  by (replays.Unordered lines first second) =
      record { exit = inr (inr (inr (inr (inr (inr (inl refl)))))); plain = refl; speaks = refl }
  by (replays.Trapped lines kind at) =
      record { exit = inr (inr (inr (inr (inl refl)))); plain = refl; speaks = refl }
  by (replays.Ordered lines accesses) =
      record { exit = inr (inr (inr (inl refl))); plain = refl; speaks = refl }

-- the reply with a certificate, and to the test of one
certifies_end : (graph : Graph) (outcome : Outcome) → Certifies graph (Ok outcome)
    → HasEndExit (file_exits Certify) outcome
certifies_end graph _ (prints printed is) = by printed where
  by : (printed : Option (List ℕ)) → HasEndExit (file_exits Certify) (certificate_outcome printed)
  by (Some certificate) = record { exit = inr (inr (inl refl)); plain = refl; speaks = refl }
  by None = record { exit = inr (inr (inr (inl refl))); plain = refl; speaks = refl }

verifies_end : (file : List ℕ) (graph : Graph) (certificate : List ℕ) (outcome : Outcome)
    → Verifies graph certificate (Ok outcome) → HasEndExit (file_exits (Verify file)) outcome
verifies_end file graph certificate _ (tests result is) = by result where
  by : (result : Result (Unit {0}) CertFault)
      → HasEndExit (file_exits (Verify file)) (verified_outcome certificate result)
  by (Ok value) = record { exit = inr (inr (inl refl)); plain = refl; speaks = refl }
  by (Err fault) = record { exit = inr (inr (inr (inl refl))); plain = refl; speaks = refl }

file_ends : (rule : AsyncDefault) (file : List ℕ) (action : Action)
    → EndsBy (HasEndExit (file_exits action)) (file_course rule file action)
file_ends rule file Check =
    program_ends _ rule all_phases file _ (λ text passed. ends_alone _ (EndsWithReply accepted)
    (λ outcome is. answers_end _ accepted outcome
    (record { exit = inr (inr (inl refl)); plain = refl; speaks = refl }) is))
file_ends rule file Certify =
    program_ends _ rule all_phases file (λ text passed. Alone (Certifies passed.graph))
    (λ text passed. ends_alone _ (Certifies passed.graph) (certifies_end passed.graph))
file_ends rule file (Verify certificate_file) =
    program_ends _ rule phases_to_sharing file
    (λ text passed. by_certificate certificate_file passed.graph)
    (λ text passed. ends_then _ (Fetched certificate_file CERTIFICATE_LIMIT) _
    (λ _ bytes _. ends_alone _ (Verifies passed.graph bytes)
    (verifies_end certificate_file passed.graph bytes)))
file_ends rule file (Run schedule_file) =
    program_ends _ rule all_phases file
    (λ text passed. by_items schedule_file (Runs text passed.graph))
    (λ text passed. items_end _ schedule_file (Runs text passed.graph)
    (λ items outcome is. answers_end _ (run_outcome text (output_of passed.graph items)) outcome
    (a_run_ends text (output_of passed.graph items)) is))
file_ends rule file (Trace schedule_file) =
    program_ends _ rule phases_to_size file
    (λ text passed. by_items schedule_file (Traces text passed.graph))
    (λ text passed. items_end _ schedule_file (Traces text passed.graph)
    (trace_ends schedule_file text passed.graph))
file_ends rule file (Owners schedule_file) =
    program_ends _ rule all_phases file (λ text passed. by_items schedule_file (Owns text passed))
    (λ text passed. items_end _ schedule_file (Owns text passed)
    (λ items outcome is. answers_end _ (owners_reply text passed items) outcome
    (with_lines (owner_lines passed.actors (owner_replay passed.graph items).owners)
    (run_outcome text (output_of passed.graph items))
    (a_run_ends text (output_of passed.graph items))) is))
file_ends rule file (Order schedule_file) =
    program_ends _ rule phases_to_size file
    (λ text passed. by_items schedule_file (Orders text passed.graph))
    (λ text passed. items_end _ schedule_file (Orders text passed.graph)
    (order_ends schedule_file text passed.graph))

at_ends : (command : Option Command) → EndsBy (HasEndExit (exits_of command)) (course_of command)
at_ends None = ends_alone _ (EndsWithReply usage)
    (λ outcome is. answers_end _ usage outcome
    (record { exit = inl refl; plain = refl; speaks = refl }) is)
at_ends (Some (OnFile rule file action)) = file_ends rule file action
at_ends (Some (Demo actors)) =
    ends_then (HasEndExit demo_exits) (Alone (IsJudgement Concurrent all_phases (program actors))) _
    (λ _ passed _. ends_alone (HasEndExit demo_exits)
    (EndsWithReply (demo_outcome actors (output_of passed.graph (demo_items actors))))
    (λ outcome is. answers_end _
    (demo_outcome actors (output_of passed.graph (demo_items actors))) outcome
    (demo_ends actors (output_of passed.graph (demo_items actors))) is))

-- a race is none of these exits
unraced : (among : List Exit) → AllByRecursion (λ exit. exits.Raced ≢ exit) among
    → IsOneOf among exits.Raced → ⊥
unraced [] tt is = is
unraced (exit ∷ among) (not, others) (inl is) = not is
unraced (exit ∷ among) (not, others) (inr is) = unraced among others is

runs_unraced : IsOneOf run_exits exits.Raced → ⊥
runs_unraced = unraced run_exits (λ e. cc, (λ e. cc, (λ e. cc, (λ e. cc, (λ e. cc, tt)))))

-- nor is it one of a command for which all phases count
pub exits_unraced : (command : Command) → phases_of command ≡ all_phases
    → IsOneOf (exits_of (Some command)) exits.Raced → ⊥
exits_unraced (OnFile rule file Check) all is =
    unraced (file_exits Check) (λ e. cc, (λ e. cc, (λ e. cc, tt))) is
exits_unraced (OnFile rule file Certify) all is =
    unraced (file_exits Certify) (λ e. cc, (λ e. cc, (λ e. cc, (λ e. cc, tt)))) is
exits_unraced (OnFile rule file (Verify certificate_file)) all is =
    unraced (file_exits (Verify certificate_file))
    (λ e. cc, (λ e. cc, (λ e. cc, (λ e. cc, tt)))) is
exits_unraced (OnFile rule file (Run schedule_file)) all is = runs_unraced is
exits_unraced (OnFile rule file (Owners schedule_file)) all is = runs_unraced is
exits_unraced (OnFile rule file (Trace schedule_file)) all is = omega (arith, ap length all)
exits_unraced (OnFile rule file (Order schedule_file)) all is = omega (arith, ap length all)
exits_unraced (Demo actors) all is = unraced demo_exits (λ e. cc, (λ e. cc, (λ e. cc, tt))) is

pub end_exit : (command : Option Command) (reads : List Read) (outcome : Outcome)
    → course_of command reads (Ended (Ok outcome)) → IsOneOf (exits_of command) outcome.exit
end_exit command reads outcome ended = (at_ends command reads outcome ended).exit

pub end_plain : (command : Option Command) (reads : List Read) (outcome : Outcome)
    → course_of command reads (Ended (Ok outcome)) → is_failure outcome.exit ≡ false
end_plain command reads outcome ended = (at_ends command reads outcome ended).plain

-- no file is too long at the end of a command
pub end_short : (command : Option Command) (reads : List Read) (outcome : Outcome)
    → course_of command reads (Ended (Ok outcome)) → outcome.exit ≢ exits.TooLong
end_short command reads outcome ended long =
    cc ((at_ends command reads outcome ended).speaks, ap is_silent long)

pub refusal_exit : (command : Option Command) (reads : List Read) (outcome : Outcome)
    → course_of command reads (Ended (Err outcome)) → IsOneOf (exits_of command) outcome.exit
refusal_exit command reads outcome ended = (refusals command reads outcome ended).exit

pub refusal_plain : (command : Option Command) (reads : List Read) (outcome : Outcome)
    → course_of command reads (Ended (Err outcome)) → is_failure outcome.exit ≡ false
refusal_plain command reads outcome ended = (refusals command reads outcome ended).plain

reply_silent : (command : Option Command) (reads : List Read) (outcome : Outcome)
    → Reply command reads outcome → is_silent outcome.exit ≡ true → outcome.bytes ≡ []
reply_silent command reads outcome (at_end ended) silent =
    cc ((at_ends command reads outcome ended).speaks, silent)
reply_silent command reads outcome (before_end ended) silent =
    (refusals command reads outcome ended).silent silent

-- a whole reply with such an exit leaves a sink as it was
pub silent_written : (command : Option Command) (reads : List Read) (outcome : Outcome)
    (before after : Option (List ℕ)) → Reply command reads outcome
    → Appended outcome.bytes before after → is_silent outcome.exit ≡ true → after ≡ before
silent_written command reads outcome before after reply appended silent =
    appended ∙ ap (λ bytes. option_map (λ written. written ++ bytes) before)
    (reply_silent command reads outcome reply silent) ∙ nothing before where
      nothing : (written : Option (List ℕ)) → option_map (λ bytes. bytes ++ []) written ≡ written
      nothing None = refl
      nothing (Some bytes) = ap Some (append-nil bytes)
