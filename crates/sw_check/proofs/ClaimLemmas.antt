-- What the exit of a reply says.
use Rattle.std.proofs.Common.{◌≡◌, ◌≢◌, ℕ, ◌<◌, ◌≤◌, inl, inr, List, [], length, Option, Some, None}
use Rattle.std.proofs.Common.{Result, Ok, Err, refl, sym, ap, subst, arith}
use Rattle.sw_graph.specs.declared.graph.Graph.{Graph}
use Rattle.sw_hb.specs.declared.ordering.OrderReplay.{OrderReplay}
use Rattle.sw_hb.specs.declared.ordering.OrderReplay.TheVariants as replays
use Rattle.sw_hb.specs.Replay.{IsOrderReplay, many, ordered, trapped, unordered}
use Rattle.sw_value.specs.declared.race.Race.{Race}
use Rattle.sw_replay.specs.declared.text.TheConstants.{SCHEDULE_LIMIT}
use Rattle.sw_replay.specs.declared.output.End.{End}
use Rattle.sw_replay.specs.declared.output.End.TheVariants as ends
use Rattle.sw_replay.specs.Items.{IsItems, IsFirstFault}
use Rattle.sw_replay.specs.declared.text.SchedFault.{SchedFault}
use Rattle.sw_check_parts.specs.declared.TheConstants.{PROGRAM_LIMIT}
use Rattle.sw_check_parts.specs.declared.exit.Exit.{Exit}
use Rattle.sw_check_parts.specs.declared.exit.Exit.TheVariants.{Done, Breached, Usage, NotRead}
use Rattle.sw_check_parts.specs.declared.exit.Exit.TheVariants.{TooLong}
use Rattle.sw_check_parts.specs.declared.exit.Exit.TheVariants.{NotWritten, Memory, Trapped}
use Rattle.sw_check_parts.specs.declared.exit.Exit.TheVariants.{BadSchedule}
use Rattle.sw_check_parts.specs.declared.exit.Exit.TheVariants.{Raced, BadCertificate}
use Rattle.sw_check_parts.specs.declared.exit.Exit.TheVariants.{LongCertificate, ManyJobs}
use Rattle.sw_check_parts.specs.declared.exit.Exit.TheVariants.{Unordered}
use Rattle.sw_check_parts.specs.declared.outcome.Outcome.{Outcome}
use Rattle.sw_check_parts.specs.Course.{Read, AreOf, Ended, Part, Alone, ◌>>=◌}
use Rattle.sw_check_parts.proofs.Inversions.{EndsAfterFetch, too_long, fetched, after_fetch}
use Rattle.sw_check_parts.proofs.Inversions.{EndsAfterRule, refuses, gives, after_rule, by_rule}
use Rattle.sw_decls.specs.declared.signature.AsyncDefault.{AsyncDefault}
use Rattle.sw_decls.specs.declared.signature.AsyncDefault.TheVariants.{Concurrent}
use Rattle.sw_verdict.specs.Phases.{all_phases, IsGraphOf}
use Rattle.sw_verdict.specs.Verdict.{Accepts, Breaches}
use Rattle.sw_verdict.proofs.LoweredTexts.{some_graph_of}
use Rattle.sw_text_facts.proofs.Sound.{accepted_never_races, accepted_ordered}
use Rattle.sw_check.specs.Claims.{NeverRaces, Ends, EndsSo, ProgramPasses, ExitSays, ExitSaysOf}
use Rattle.sw_check.specs.Claims.{Clashes, RunsTo, order_ending}
use Rattle.sw_check.specs.Claims.{Fits, IsLong, ProgramFits, SecondFits, SecondIsLong, Stands}
use Rattle.sw_check.specs.Claims.{ScheduleIsBad, default_of, ending_by, phases_of, program_file_of}
use Rattle.sw_check.specs.Claims.{program_of}
use Rattle.sw_check.proofs.AfterItems.{EndsAfterItems, after_items, bad_schedule, has_schedule}
use Rattle.sw_check.proofs.AfterItems.{long_schedule}
use Rattle.sw_check.proofs.CertificateLemmas.{certifies_say, says_certificate}
use Rattle.sw_check.proofs.Pieces.{outcome_of, program_then}
use Rattle.sw_replay.specs.declared.output.Output.{Output}
use Rattle.sw_replay.specs.Output.{output_of}
use Rattle.sw_check.specs.Programs.{Passed}
use Rattle.sw_check.specs.Reply.{usage, accepted, end_outcome, EndsWithReply, IsJudgement, passes}
use Rattle.sw_check.specs.Reply.{Certifies, breached, by_certificate, by_items}
use Rattle.sw_check.specs.Reply.{Orders, in_order, order_outcome, run_outcome}
use Rattle.sw_check.specs.Reply.{Runs, Traces, ends, course_of}
use Rattle.sw_check.specs.Reply.{Reply, at_end, before_end, demo_end, demo_items, demo_outcome}
use Rattle.sw_check.specs.Reply.{Owns, owners_reply, phases_for, watched_outcome}
use Rattle.sw_gen.specs.Program.{program}
use Rattle.sw_check_words.specs.Words.{Action, Check, Certify, Verify, Run, Trace, Owners, Order}
use Rattle.sw_check_words.specs.Words.{Command, OnFile, Demo}

-- a file that is within its limit isn't too long
pub fits_or_long : (files : List ℕ → List ℕ) (limit : ℕ) (file : Option (List ℕ))
    → Fits files limit file → IsLong files limit file → ⊥
fits_or_long files limit None fits long = long
fits_or_long files limit (Some name) fits long = omega (arith, fits, long)

module _ (files : List ℕ → List ℕ) (rule : AsyncDefault) (file : List ℕ) (action : Action) where
  abbrev on_file : Command
  on_file = OnFile rule file action

  -- what is said of a result
  abbrev SaysSo : Result Outcome Outcome → Type 0
  SaysSo result = ExitSaysOf files on_file (outcome_of result).exit

  -- how a program is judged for the command
  abbrev JudgedSo : List ℕ → Result Passed Outcome → Type 0
  JudgedSo = IsJudgement rule (phases_for action)

  -- The command begins with its program: it is too long, or refused, or the rest ended.
  module _ (rest : List ℕ → Passed → Part Outcome)
      (continues : (passed : Passed) (reads : List Read) (result : Result Outcome Outcome)
      → AreOf files reads → ProgramPasses files on_file → IsGraphOf rule (files file) passed.graph
      → rest (files file) passed reads (Ended result) → SaysSo result) where
    says_judged : (reads : List Read) (result : Result Outcome Outcome) → AreOf files reads
        → length (files file) ≤ PROGRAM_LIMIT
        → EndsAfterRule (JudgedSo (files file)) (rest (files file)) reads result → SaysSo result
    says_judged reads _ of_files short (refuses _ (breached list judges)) =
        record { short = short; breaches = (list, judges.0, judges.1) }
    says_judged reads _ of_files short (gives _ result (passes passed judges _) ended) =
        continues passed reads result of_files (record { short = short; no_breach = judges.0 })
        judges.1 ended

    says_fetched : (result : Result Outcome Outcome)
        → EndsAfterFetch files file PROGRAM_LIMIT
        (λ text. Alone (JudgedSo text) >>= rest text) result → SaysSo result
    says_fetched _ (too_long long) = inl long
    says_fetched _ (fetched others result short of_files ended) =
        says_judged others result of_files short
        (after_rule (JudgedSo (files file)) (rest (files file)) others result ended)

    says_program : (reads : List Read) (result : Result Outcome Outcome) → AreOf files reads
        → program_then rule (phases_for action) file rest reads (Ended result) → SaysSo result
    says_program reads result of_files ended =
        says_fetched result
        (after_fetch files file PROGRAM_LIMIT (λ text. Alone (JudgedSo text) >>= rest text) reads
        result of_files ended)

  -- The command goes on with the items of a schedule.
  module _ (schedule_file : List ℕ) (whole : ProgramPasses files on_file)
      (Answers : List ℕ → Result Outcome Outcome → Type 0)
      (fits : length (files schedule_file) ≤ SCHEDULE_LIMIT → SecondFits files on_file)
      (bad : (fault : SchedFault) → IsFirstFault (files schedule_file) fault
      → ScheduleIsBad files on_file)
      (long : SCHEDULE_LIMIT < length (files schedule_file) → SecondIsLong files on_file)
      (answers : (items : List ℕ) (result : Result Outcome Outcome)
      → SecondFits files on_file → IsItems (files schedule_file) items → Answers items result
      → SaysSo result) where
    says_items : (result : Result Outcome Outcome)
        → EndsAfterItems files schedule_file (λ items. Alone (Answers items)) result
        → SaysSo result
    says_items _ (long_schedule is_long) = inr (whole, long is_long)
    says_items _ (bad_schedule short fault is) = (whole, fits short, bad fault is)
    says_items _ (has_schedule others result items short are ended) =
        answers items result (fits short) are (by_rule (Answers items) others result ended)

    says_by : (reads : List Read) (result : Result Outcome Outcome) → AreOf files reads
        → by_items schedule_file Answers reads (Ended result) → SaysSo result
    says_by reads result of_files ended =
        says_items result
        (after_items files schedule_file (λ items. Alone (Answers items)) reads result of_files
        ended)

answers_exit : (outcome : Outcome) (reads : List Read) (result : Result Outcome Outcome)
    → Alone (EndsWithReply outcome) reads (Ended result) → outcome_of result ≡ outcome
answers_exit outcome reads result ended =
    ap outcome_of (by_rule (EndsWithReply outcome) reads result ended)

-- an accepted program is answered at the end
says_accepted_at : (files : List ℕ → List ℕ) (rule : AsyncDefault) (file : List ℕ)
    (reads : List Read) (result : Result Outcome Outcome)
    → ProgramPasses files (OnFile rule file Check)
    → Alone (EndsWithReply accepted) reads (Ended result)
    → ExitSaysOf files (OnFile rule file Check) (outcome_of result).exit
says_accepted_at files rule file reads result whole ended =
    subst (λ outcome. ExitSaysOf files (OnFile rule file Check) outcome.exit)
    (sym (answers_exit accepted reads result ended)) (whole, (tt, tt), refl)

-- what the reply to a run says, where the program passes
module _ (files : List ℕ → List ℕ) (command : Command) (whole : ProgramPasses files command)
    (fits : SecondFits files command) where
  says_run : (text lines : List ℕ) (ended jobs : ℕ) (end : End)
      → Ends (Stands end) files command
      → ExitSaysOf files command (end_outcome text lines ended jobs end).exit
  says_run text lines ended jobs ends.Ran so = (whole, fits, so)
  says_run text lines ended jobs (ends.Trapped kind at) so = (whole, fits, kind, at, so)

  says_watched : (text : List ℕ) (output : Output) (race : Option Race)
      → Ends (ending_by output race) files command
      → ExitSaysOf files command (watched_outcome text output race).exit
  says_watched text output None so =
      says_run text output.lines output.ended output.jobs output.end so
  says_watched text output (Some race) so = (whole, fits, race, so)

  says_demo_end : (actors : ℕ) (lines : List ℕ) (ended jobs : ℕ) (end : End)
      → Ends (Stands end) files command
      → ExitSaysOf files command (demo_end actors lines ended jobs end).exit
  says_demo_end actors lines ended jobs ends.Ran so = (whole, fits, so)
  says_demo_end actors lines ended jobs (ends.Trapped kind at) so = (whole, fits, kind, at, so)

-- the reply with which one ends
replied : (files : List ℕ → List ℕ) (command : Command) (outcome : Outcome)
    (result : Result Outcome Outcome) → EndsWithReply outcome result
    → ExitSaysOf files command outcome.exit → ExitSaysOf files command (outcome_of result).exit
replied files command outcome result is says =
    subst (λ o. ExitSaysOf files command o.exit) (sym (ap outcome_of is)) says

-- a program is run, or replayed and watched, by a schedule
module _ (files : List ℕ → List ℕ) (rule : AsyncDefault) (file schedule_file : List ℕ)
    (graph : Graph) (of_text : IsGraphOf rule (files file) graph) where
  -- whatever lines follow those of the run
  run_says : (action : Action) → ProgramPasses files (OnFile rule file action)
      → SecondFits files (OnFile rule file action) → (items : List ℕ)
      → (EndsSo rule (files file) (IsItems (files schedule_file))
      (RunsTo (Stands (output_of graph items).end))
      → Ends (Stands (output_of graph items).end) files (OnFile rule file action))
      → IsItems (files schedule_file) items
      → ExitSaysOf files (OnFile rule file action)
      (run_outcome (files file) (output_of graph items)).exit
  run_says action whole fits items comes are =
      let output = output_of graph items in
      says_run files (OnFile rule file action) whole fits (files file) output.lines
      output.ended output.jobs output.end (comes (record {
        graph = graph;
        of_text = of_text;
        items = items;
        are_items = are;
        ends = refl;
      }))

  runs_say : ProgramPasses files (OnFile rule file (Run schedule_file)) → (items : List ℕ)
      (result : Result Outcome Outcome) → SecondFits files (OnFile rule file (Run schedule_file))
      → IsItems (files schedule_file) items → Runs (files file) graph items result
      → ExitSaysOf files (OnFile rule file (Run schedule_file)) (outcome_of result).exit
  runs_say whole items result fits are is =
      replied files (OnFile rule file (Run schedule_file))
      (run_outcome (files file) (output_of graph items)) result is
      (run_says (Run schedule_file) whole fits items (λ so. so) are)

  owners_say : (names : List (List ℕ)) → ProgramPasses files (OnFile rule file (Owners schedule_file))
      → (items : List ℕ)
      (result : Result Outcome Outcome) → SecondFits files (OnFile rule file (Owners schedule_file))
      → IsItems (files schedule_file) items
      → Owns (files file) (record { graph = graph; actors = names }) items result
      → ExitSaysOf files (OnFile rule file (Owners schedule_file)) (outcome_of result).exit
  owners_say names whole items result fits are is =
      replied files (OnFile rule file (Owners schedule_file))
      (owners_reply (files file) (record { graph = graph; actors = names }) items) result is
      (run_says (Owners schedule_file) whole fits items (λ so. so) are)

  traces_say : ProgramPasses files (OnFile rule file (Trace schedule_file)) → (items : List ℕ)
      (result : Result Outcome Outcome) → SecondFits files (OnFile rule file (Trace schedule_file))
      → IsItems (files schedule_file) items → Traces (files file) graph items result
      → ExitSaysOf files (OnFile rule file (Trace schedule_file)) (outcome_of result).exit
  traces_say whole items _ fits are (ends replay is) =
      says_watched files (OnFile rule file (Trace schedule_file)) whole fits (files file)
      replay.output replay.race (record {
        graph = graph;
        of_text = of_text;
        items = items;
        are_items = are;
        ends = (replay, is, refl);
      })

  orders_say : ProgramPasses files (OnFile rule file (Order schedule_file)) → (items : List ℕ)
      (result : Result Outcome Outcome) → SecondFits files (OnFile rule file (Order schedule_file))
      → IsItems (files schedule_file) items → Orders (files file) graph items result
      → ExitSaysOf files (OnFile rule file (Order schedule_file)) (outcome_of result).exit
  orders_say whole items _ fits are (in_order replay is) =
      by replay (record {
        graph = graph;
        of_text = of_text;
        items = items;
        are_items = are;
        ends = (replay, is, refl);
      }) where
        by : (replay : OrderReplay)
            → Ends (order_ending replay) files (OnFile rule file (Order schedule_file))
            → ExitSaysOf files (OnFile rule file (Order schedule_file))
            (order_outcome (files file) replay).exit
        by replays.ManyJobs so = (whole, fits, so)
        by (replays.Unordered lines first second) so = (whole, fits, first, second, so)
        by (replays.Trapped lines kind at) so = (whole, fits, kind, at, so)
        by (replays.Ordered lines accesses) so = (whole, fits, so)

-- a generated program, which was judged, is run
module _ (files : List ℕ → List ℕ) (actors : ℕ) where
  -- what is answered of its graph
  abbrev demo_answer : Passed → Outcome
  demo_answer passed = demo_outcome actors (output_of passed.graph (demo_items actors))

  says_demo : (reads : List Read) (result : Result Outcome Outcome)
      → EndsAfterRule (IsJudgement Concurrent all_phases (program actors))
      (λ passed. Alone (EndsWithReply (demo_answer passed))) reads result
      → ExitSaysOf files (Demo actors) (outcome_of result).exit
  says_demo reads _ (refuses _ (breached list judges)) =
      record { short = tt; breaches = (list, judges.0, judges.1) }
  says_demo reads _ (gives _ result (passes passed judges _) ended) =
      let output = output_of passed.graph (demo_items actors) in
      replied files (Demo actors) (demo_answer passed) result
      (by_rule (EndsWithReply (demo_answer passed)) reads result ended)
      (says_demo_end files (Demo actors) (record { short = tt; no_breach = judges.0 }) (tt, tt) actors
      output.lines output.ended output.jobs output.end (record {
        graph = passed.graph;
        of_text = judges.1;
        items = demo_items actors;
        are_items = refl;
        ends = refl;
      }))

says : (files : List ℕ → List ℕ) (command : Option Command) (reads : List Read)
    (result : Result Outcome Outcome) → AreOf files reads → course_of command reads (Ended result)
    → ExitSays files command (outcome_of result).exit
says files None reads result of_files ended =
    ap (λ o. o.exit) (answers_exit usage reads result ended)
says files (Some (OnFile rule file Check)) reads result of_files ended =
    says_program files rule file Check (λ text passed. Alone (EndsWithReply accepted))
    (λ passed reads result _ whole _. says_accepted_at files rule file reads result whole) reads
    result of_files ended
says files (Some (OnFile rule file Certify)) reads result of_files ended =
    says_program files rule file Certify (λ text passed. Alone (Certifies passed.graph))
    (λ passed reads result _ whole of_text.
    λ ended. certifies_say files rule file passed.graph of_text whole result
    (by_rule (Certifies passed.graph) reads result ended)) reads result of_files ended
says files (Some (OnFile rule file (Verify certificate_file))) reads result of_files ended =
    says_program files rule file (Verify certificate_file)
    (λ text passed. by_certificate certificate_file passed.graph)
    (λ passed reads result of_files whole of_text.
    says_certificate files rule file passed.graph of_text certificate_file whole reads result
    of_files) reads result of_files ended
says files (Some (OnFile rule file (Run schedule_file))) reads result of_files ended =
    says_program files rule file (Run schedule_file)
    (λ text passed. by_items schedule_file (Runs text passed.graph))
    (λ passed reads result of_files whole of_text.
    says_by files rule file (Run schedule_file) schedule_file whole
    (Runs (files file) passed.graph)
    (λ fits. (fits, tt)) (λ fault is. (fault, is)) (λ long. inl long)
    (runs_say files rule file schedule_file passed.graph of_text whole) reads result of_files) reads
    result of_files ended
says files (Some (OnFile rule file (Trace schedule_file))) reads result of_files ended =
    says_program files rule file (Trace schedule_file)
    (λ text passed. by_items schedule_file (Traces text passed.graph))
    (λ passed reads result of_files whole of_text.
    says_by files rule file (Trace schedule_file) schedule_file whole
    (Traces (files file) passed.graph)
    (λ fits. (fits, tt)) (λ fault is. (fault, is)) (λ long. inl long)
    (traces_say files rule file schedule_file passed.graph of_text whole) reads result of_files) reads
    result of_files ended
says files (Some (OnFile rule file (Owners schedule_file))) reads result of_files ended =
    says_program files rule file (Owners schedule_file)
    (λ text passed. by_items schedule_file (Owns text passed))
    (λ passed reads result of_files whole of_text.
    says_by files rule file (Owners schedule_file) schedule_file whole (Owns (files file) passed)
    (λ fits. (fits, tt)) (λ fault is. (fault, is)) (λ long. inl long)
    (owners_say files rule file schedule_file passed.graph of_text passed.actors whole) reads result
    of_files) reads result of_files ended
says files (Some (OnFile rule file (Order schedule_file))) reads result of_files ended =
    says_program files rule file (Order schedule_file)
    (λ text passed. by_items schedule_file (Orders text passed.graph))
    (λ passed reads result of_files whole of_text.
    says_by files rule file (Order schedule_file) schedule_file whole
    (Orders (files file) passed.graph)
    (λ fits. (fits, tt)) (λ fault is. (fault, is)) (λ long. inl long)
    (orders_say files rule file schedule_file passed.graph of_text whole) reads result of_files) reads
    result of_files ended
says files (Some (Demo actors)) reads result of_files ended =
    says_demo files actors reads result
    (after_rule (IsJudgement Concurrent all_phases (program actors))
    (λ passed. Alone (EndsWithReply (demo_answer files actors passed))) reads result ended)

pub reply_says : (files : List ℕ → List ℕ) (command : Option Command) (reads : List Read)
    (outcome : Outcome) → AreOf files reads → Reply command reads outcome
    → ExitSays files command outcome.exit
reply_says files command reads outcome of_files (at_end ended) =
    says files command reads (Ok outcome) of_files ended
reply_says files command reads outcome of_files (before_end ended) =
    says files command reads (Err outcome) of_files ended

-- an exit that isn't that of a refused program says that a program within the limit passes
passes_at : (files : List ℕ → List ℕ) (command : Command) (exit : Exit)
    → ExitSaysOf files command exit → ProgramFits files command → exit ≢ Breached
    → ProgramPasses files command
passes_at files command Done says _ _ = says.0
passes_at files command Breached says _ not = absurd (not refl)
passes_at files command TooLong (inl long) short _ =
    absurd (fits_or_long files PROGRAM_LIMIT (program_file_of command) short long)
passes_at files command TooLong (inr says) _ _ = says.0
passes_at files command Trapped says _ _ = says.0
passes_at files command BadSchedule says _ _ = says.0
passes_at files command Raced says _ _ = says.0
passes_at files command ManyJobs says _ _ = says.0
passes_at files command Unordered says _ _ = says.0
passes_at files command BadCertificate says _ _ = says.0
passes_at files command LongCertificate says _ _ = says.0
passes_at files command Usage says _ _ = absurd says
passes_at files command NotRead says _ _ = absurd says
passes_at files command NotWritten says _ _ = absurd says
passes_at files command Memory says _ _ = absurd says

pub says_no_race : (files : List ℕ → List ℕ) (command : Command) (exit : Exit)
    → ExitSays files (Some command) exit → phases_of command ≡ all_phases
    → ProgramFits files command → exit ≢ Breached → (graph : Graph)
    × IsGraphOf (default_of command) (program_of files command) graph × NeverRaces graph
says_no_race files command exit says all short not_breached =
    let it = passes_at files command exit says short not_breached in
    let accepts = subst (λ phases. Breaches (default_of command) phases (program_of files command)
    []) all it.no_breach in
    let (graph, of_text) = some_graph_of (default_of command) (program_of files command) accepts in (
      graph,
      of_text,
      accepted_never_races (default_of command) (program_of files command) graph accepts of_text,
    )

-- `order` names no two accesses of a program that is accepted
pub says_in_order : (files : List ℕ → List ℕ) (rule : AsyncDefault) (file schedule_file : List ℕ)
    → ExitSaysOf files (OnFile rule file (Order schedule_file)) Unordered
    → Accepts rule (files file) → ⊥
says_in_order files rule file schedule_file (whole, fits, first, second, so) accepts =
    by so.ends.0 so.ends.1 so.ends.2 where
      by : (replay : OrderReplay) → IsOrderReplay so.graph so.items replay
          → Clashes first second ≡ order_ending replay → ⊥
      by _ (many too_many) e = cc (e)
      by _ (unordered few a b is) e =
          accepted_ordered rule (files file) so.graph accepts so.of_text so.items is.p is.q a b is.is
      by _ (trapped few all kind at trap) e = cc (e)
      by _ (ordered few all none) e = cc (e)
