-- Commands are lawful, and can end.
use Rattle.std.proofs.Common.{◌≡◌, ◌⊎◌, ℕ, List, [], ◌++◌, Option, Some, None, Result, Ok, Err}
use Rattle.sw_cert.specs.declared.verdict.TheConstants.{CERTIFICATE_LIMIT}
use Rattle.sw_graph.specs.declared.graph.Graph.{Graph}
use Rattle.sw_replay.specs.declared.text.TheConstants.{SCHEDULE_LIMIT}
use Rattle.sw_replay.specs.Output.{output_of}
use Rattle.sw_check_parts.specs.declared.TheConstants.{PROGRAM_LIMIT}
use Rattle.sw_check_parts.specs.declared.outcome.Outcome.{Outcome}
use Rattle.sw_check_parts.specs.Course.{Read, AreOf, Underway, Ended, Part, Alone, Fetched, ◌>>=◌}
use Rattle.sw_check_parts.specs.Lawful.{CanEnd, HasOneResult, HasResult, IsLawful, IsPrefixOf}
use Rattle.sw_check_parts.proofs.LawfulParts.{can_end_alone, can_end_fetched, can_end_then}
use Rattle.sw_check_parts.proofs.LawfulParts.{lawful_alone, lawful_fetched, lawful_then}
use Rattle.sw_decls.specs.declared.signature.AsyncDefault.{AsyncDefault}
use Rattle.sw_decls.specs.declared.signature.AsyncDefault.TheVariants.{Concurrent}
use Rattle.sw_verdict.specs.Phases.{Phase, all_phases, phases_to_size}
use Rattle.sw_verdict.specs.Verdict.{Breaches, Refuses}
use Rattle.sw_verdict.proofs.LoweredTexts.{accepted_to_size, decided_to_size, sharing_to_size}
use Rattle.sw_verdict.proofs.Verdicts.{decided, decided_to_sharing}
use Rattle.sw_check.specs.Programs.{Passed}
use Rattle.sw_check.specs.Reply.{usage, accepted, EndsWithReply, IsJudgement, Owns, Runs, Scheduled}
use Rattle.sw_check.specs.Reply.{Traces, after_verdict, by_items, course_of, demo_course, demo_items}
use Rattle.sw_check.specs.Reply.{demo_outcome, items_in, owners_reply, phases_for}
use Rattle.sw_check.specs.Reply.{Certifies, Orders, Verifies, by_certificate, run_outcome}
use Rattle.sw_check.specs.Reply.{Reply, at_end, before_end}
use Rattle.sw_gen.specs.Program.{program}
use Rattle.sw_check_words.specs.Words.{Action, Check, Certify, Verify, Run, Trace, Owners, Order}
use Rattle.sw_check_words.specs.Words.{Command, OnFile, Demo}
use Rattle.sw_check.proofs.Pieces.{program_then}
use Rattle.sw_check.proofs.RuleLemmas.{answers_one, answers_some, certifies_one, certifies_some}
use Rattle.sw_check.proofs.RuleLemmas.{judged_one, judged_some, orders_one, orders_some, verifies_one}
use Rattle.sw_check.proofs.RuleLemmas.{verifies_some}
use Rattle.sw_check.proofs.RuleLemmas.{scheduled_one, scheduled_some, traces_one, traces_some}

-- a program is fetched and judged, and something goes on from its text and what passes
module _ (rule : AsyncDefault) (phases : List Phase) (file : List ℕ)
    (next : List ℕ → Passed → Part Outcome) where
  lawful_program : ((text : List ℕ) (passed : Passed) → IsLawful (next text passed))
      → IsLawful (program_then rule phases file next)
  lawful_program each =
      lawful_then (Fetched file PROGRAM_LIMIT)
      (λ text. Alone (IsJudgement rule phases text) >>= next text)
      (lawful_fetched file PROGRAM_LIMIT)
      (λ text. lawful_then (Alone (IsJudgement rule phases text)) (next text)
      (lawful_alone (IsJudgement rule phases text) (judged_one rule phases text)) (each text))

  can_end_program : ((text : List ℕ) → Breaches rule phases text []
      → Breaches rule phases_to_size text [])
      → ((text : List ℕ) → Breaches rule phases text [] ⊎ Refuses rule phases text)
      → ((text : List ℕ) (passed : Passed) → CanEnd (next text passed))
      → CanEnd (program_then rule phases file next)
  can_end_program to_size either each =
      can_end_then (Fetched file PROGRAM_LIMIT)
      (λ text. Alone (IsJudgement rule phases text) >>= next text)
      (can_end_fetched file PROGRAM_LIMIT)
      (λ text. can_end_then (Alone (IsJudgement rule phases text)) (next text)
      (can_end_alone (IsJudgement rule phases text)
      (judged_some rule phases text (to_size text) (either text)))
      (each text))

-- a schedule is fetched, and what is answered follows from its items
module _ (file : List ℕ) where
  lawful_items : IsLawful (items_in file)
  lawful_items =
      lawful_then (Fetched file SCHEDULE_LIMIT) (λ schedule. Alone (Scheduled schedule))
      (lawful_fetched file SCHEDULE_LIMIT)
      (λ schedule. lawful_alone (Scheduled schedule) (scheduled_one schedule))

  can_end_items : CanEnd (items_in file)
  can_end_items =
      can_end_then (Fetched file SCHEDULE_LIMIT) (λ schedule. Alone (Scheduled schedule))
      (can_end_fetched file SCHEDULE_LIMIT)
      (λ schedule. can_end_alone (Scheduled schedule) (scheduled_some schedule))

  module _ (Answers : List ℕ → Result Outcome Outcome → Type 0) where
    lawful_by : ((items : List ℕ) → HasOneResult (Answers items)) → IsLawful (by_items file Answers)
    lawful_by one =
        lawful_then (items_in file) (λ items. Alone (Answers items)) lawful_items
        (λ items. lawful_alone (Answers items) (one items))

    can_end_by : ((items : List ℕ) → HasResult (Answers items)) → CanEnd (by_items file Answers)
    can_end_by some =
        can_end_then (items_in file) (λ items. Alone (Answers items)) can_end_items
        (λ items. can_end_alone (Answers items) (some items))

-- a certificate is fetched, and tested
module _ (file : List ℕ) (graph : Graph) where
  lawful_certificate : IsLawful (by_certificate file graph)
  lawful_certificate =
      lawful_then (Fetched file CERTIFICATE_LIMIT) (λ bytes. Alone (Verifies graph bytes))
      (lawful_fetched file CERTIFICATE_LIMIT)
      (λ bytes. lawful_alone (Verifies graph bytes) (verifies_one graph bytes))

  can_end_certificate : CanEnd (by_certificate file graph)
  can_end_certificate =
      can_end_then (Fetched file CERTIFICATE_LIMIT) (λ bytes. Alone (Verifies graph bytes))
      (can_end_fetched file CERTIFICATE_LIMIT)
      (λ bytes. can_end_alone (Verifies graph bytes) (verifies_some graph bytes))

-- what follows the verdict
lawful_after : (action : Action) (text : List ℕ) (passed : Passed)
    → IsLawful (after_verdict action text passed)
lawful_after Check text passed = lawful_alone (EndsWithReply accepted) (answers_one accepted)
lawful_after Certify text passed =
    lawful_alone (Certifies passed.graph) (certifies_one passed.graph)
lawful_after (Verify file) text passed = lawful_certificate file passed.graph
lawful_after (Run file) text passed =
    lawful_by file (Runs text passed.graph)
    (λ items. answers_one (run_outcome text (output_of passed.graph items)))
lawful_after (Trace file) text passed =
    lawful_by file (Traces text passed.graph) (traces_one text passed.graph)
lawful_after (Owners file) text passed =
    lawful_by file (Owns text passed) (λ items. answers_one (owners_reply text passed items))
lawful_after (Order file) text passed =
    lawful_by file (Orders text passed.graph) (orders_one text passed.graph)

can_end_after : (action : Action) (text : List ℕ) (passed : Passed)
    → CanEnd (after_verdict action text passed)
can_end_after Check text passed = can_end_alone (EndsWithReply accepted) (answers_some accepted)
can_end_after Certify text passed =
    can_end_alone (Certifies passed.graph) (certifies_some passed.graph)
can_end_after (Verify file) text passed = can_end_certificate file passed.graph
can_end_after (Run file) text passed =
    can_end_by file (Runs text passed.graph)
    (λ items. answers_some (run_outcome text (output_of passed.graph items)))
can_end_after (Trace file) text passed =
    can_end_by file (Traces text passed.graph) (traces_some text passed.graph)
can_end_after (Owners file) text passed =
    can_end_by file (Owns text passed) (λ items. answers_some (owners_reply text passed items))
can_end_after (Order file) text passed =
    can_end_by file (Orders text passed.graph) (orders_some text passed.graph)

-- the phases of an action accept or refuse a text, and one that they accept has a graph
decided_for : (rule : AsyncDefault) (action : Action) (text : List ℕ)
    → Breaches rule (phases_for action) text [] ⊎ Refuses rule (phases_for action) text
decided_for rule Check = decided rule
decided_for rule Certify = decided rule
decided_for rule (Verify certificate_file) = decided_to_sharing rule
decided_for rule (Run schedule_file) = decided rule
decided_for rule (Trace schedule_file) = decided_to_size rule
decided_for rule (Owners schedule_file) = decided rule
decided_for rule (Order schedule_file) = decided_to_size rule

-- where they find none, those up to the size of functions don't
to_size_for : (rule : AsyncDefault) (action : Action) (text : List ℕ)
    → Breaches rule (phases_for action) text [] → Breaches rule phases_to_size text []
to_size_for rule Check = accepted_to_size rule
to_size_for rule Certify = accepted_to_size rule
to_size_for rule (Verify certificate_file) = sharing_to_size rule
to_size_for rule (Run schedule_file) = accepted_to_size rule
to_size_for rule (Trace schedule_file) = λ text passes. passes
to_size_for rule (Owners schedule_file) = accepted_to_size rule
to_size_for rule (Order schedule_file) = λ text passes. passes

-- a program is generated, judged and run
module _ (actors : ℕ) where
  abbrev demo_judged : Result Passed Outcome → Type 0
  demo_judged = IsJudgement Concurrent all_phases (program actors)

  -- what is answered of its graph
  abbrev demo_answer : Passed → Outcome
  demo_answer passed = demo_outcome actors (output_of passed.graph (demo_items actors))

  lawful_demo : IsLawful (demo_course actors)
  lawful_demo =
      lawful_then (Alone demo_judged) (λ passed. Alone (EndsWithReply (demo_answer passed)))
      (lawful_alone demo_judged (judged_one Concurrent all_phases (program actors)))
      (λ passed. lawful_alone (EndsWithReply (demo_answer passed))
      (answers_one (demo_answer passed)))

  can_end_demo : CanEnd (demo_course actors)
  can_end_demo =
      can_end_then (Alone demo_judged) (λ passed. Alone (EndsWithReply (demo_answer passed)))
      (can_end_alone demo_judged (judged_some Concurrent all_phases (program actors)
      (accepted_to_size Concurrent (program actors)) (decided Concurrent (program actors))))
      (λ passed. can_end_alone (EndsWithReply (demo_answer passed))
      (answers_some (demo_answer passed)))

pub lawful : (command : Option Command) → IsLawful (course_of command)
lawful None = lawful_alone (EndsWithReply usage) (answers_one usage)
lawful (Some (OnFile rule file action)) =
    lawful_program rule (phases_for action) file (after_verdict action) (lawful_after action)
lawful (Some (Demo actors)) = lawful_demo actors

pub can_end : (command : Option Command) → CanEnd (course_of command)
can_end None = can_end_alone (EndsWithReply usage) (answers_some usage)
can_end (Some (OnFile rule file action)) =
    can_end_program rule (phases_for action) file (after_verdict action)
    (to_size_for rule action) (decided_for rule action) (can_end_after action)
can_end (Some (Demo actors)) = can_end_demo actors

reply_of : (command : Option Command) (reads : List Read) (result : Result Outcome Outcome)
    → course_of command reads (Ended result) → (outcome : Outcome) × Reply command reads outcome
reply_of command reads (Ok outcome) ended = (outcome, at_end ended)
reply_of command reads (Err outcome) ended = (outcome, before_end ended)

pub some_reply : (command : Option Command) (files : List ℕ → List ℕ)
    → (reads : List Read) × (outcome : Outcome) × AreOf files reads × Reply command reads outcome
some_reply command files =
    let end = (can_end command).completes files [] (can_end command).begins in
    let (outcome, reply) = reply_of command end.others end.result end.ended in
    (end.others, outcome, end.of_files, reply)

pub one_reply : (command : Option Command) (files : List ℕ → List ℕ) (reads others : List Read)
    (a b : Outcome) → AreOf files reads → AreOf files others → Reply command reads a
    → Reply command others b → (reads ≡ others) × (a ≡ b)
one_reply command files reads others a b h k (at_end is_a) (at_end is_b) =
    let same = (lawful command).one_end files reads others (Ok a) (Ok b) h k is_a is_b in
    (same.0, cc (same.1))
one_reply command files reads others a b h k (at_end is_a) (before_end is_b) =
    cc ((lawful command).one_end files reads others (Ok a) (Err b) h k is_a is_b).1
one_reply command files reads others a b h k (before_end is_a) (at_end is_b) =
    cc ((lawful command).one_end files reads others (Err a) (Ok b) h k is_a is_b).1
one_reply command files reads others a b h k (before_end is_a) (before_end is_b) =
    let same = (lawful command).one_end files reads others (Err a) (Err b) h k is_a is_b in
    (same.0, cc (same.1))

pub read_in_order : (command : Option Command) (files : List ℕ → List ℕ) (reads others : List Read)
    (outcome : Outcome) → AreOf files reads → AreOf files others → course_of command reads Underway
    → Reply command others outcome → IsPrefixOf reads others
read_in_order command files reads others outcome h k under (at_end ended) =
    (lawful command).read_in_order files reads others (Ok outcome) h k under ended
read_in_order command files reads others outcome h k under (before_end ended) =
    (lawful command).read_in_order files reads others (Err outcome) h k under ended

pub goes_on : (command : Option Command) (reads : List Read)
    → course_of command reads Underway
    → (others : List Read) × (outcome : Outcome) × Reply command (reads ++ others) outcome
goes_on command reads under =
    let end = (can_end command).completes (λ _. []) reads under in
    let (outcome, reply) = reply_of command (reads ++ end.others) end.result end.ended in
    (end.others, outcome, reply)
