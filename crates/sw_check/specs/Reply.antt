-- What the tool answers. Each command is a sequence of parts, and the first that refuses decides.
use Rattle.std.specs.Prelude.{◌≡◌, ℕ, List, [], ◌∷◌, ◌++◌, Option, Some, None, Result, Ok, Err}
use Rattle.std.specs.Prelude.{codes}
use Rattle.sw_graph.specs.declared.graph.Graph.{Graph}
use Rattle.sw_value.specs.declared.race.Race.{Race}
use Rattle.sw_replay.specs.declared.text.TheConstants.{SCHEDULE_LIMIT}
use Rattle.sw_replay.specs.declared.text.SchedFault.{SchedFault}
use Rattle.sw_replay.specs.declared.output.End.{End}
use Rattle.sw_replay.specs.declared.output.End.TheVariants.{Ran, Trapped}
use Rattle.sw_replay.specs.declared.output.Output.{Output}
use Rattle.sw_replay.specs.declared.output.Replay.{Replay}
use Rattle.sw_replay.specs.Items.{IsItems, IsFirstFault, written_out}
use Rattle.sw_breach.specs.declared.Breach.{Breach}
use Rattle.sw_breach.specs.Lines.{line_feed, verdict_text}
use Rattle.sw_check_parts.specs.declared.exit.Exit.{Exit}
use Rattle.sw_check_parts.specs.declared.exit.Exit.TheVariants as exits
use Rattle.sw_check_parts.specs.declared.outcome.Outcome.{Outcome}
use Rattle.sw_check_parts.specs.declared.TheConstants.{PROGRAM_LIMIT}
use Rattle.sw_check_parts.specs.Course.{Read, Ended, Part, Alone, Fetched, ◌>>=◌}
use Rattle.sw_decls.specs.declared.signature.AsyncDefault.{AsyncDefault}
use Rattle.sw_decls.specs.declared.signature.AsyncDefault.TheVariants.{Concurrent}
use Rattle.sw_verdict.specs.Phases.{Phase, all_phases, phases_to_sharing, phases_to_size}
use Rattle.sw_verdict.specs.ActorNames.{HasActorNames}
use Rattle.sw_verdict.specs.Verdict.{IsVerdict}
use Rattle.sw_replay.specs.Output.{output_of}
use Rattle.sw_replay.specs.Replay.{IsReplay}
use Rattle.sw_owners.specs.declared.replaying.OwnerReplay.{OwnerReplay}
use Rattle.sw_owners.specs.Lines.{owner_lines}
use Rattle.sw_owners.specs.Replay.{owner_replay}
use Rattle.sw_hb.specs.Replay.{IsOrderReplay}
use Rattle.sw_hb.specs.declared.ordering.OrderReplay.{OrderReplay}
use Rattle.sw_hb.specs.declared.ordering.OrderReplay.TheVariants as replays
use Rattle.sw_cert.specs.Verified.{Verified}
use Rattle.sw_cert_making.specs.Printed.{IsPrinted}
use Rattle.sw_cert.specs.declared.verdict.CertFault.{CertFault}
use Rattle.sw_cert.specs.declared.verdict.TheConstants.{CERTIFICATE_LIMIT}
use Rattle.sw_check.specs.Programs.{Passed}
use Rattle.sw_check.specs.Lines.{certificate_line, demo_line, summary, trap_line, race_lines}
use Rattle.sw_check.specs.Lines.{ordered_line, schedule_line, unordered_lines}
use Rattle.sw_gen.specs.Program.{program}
use Rattle.sw_gen.specs.Schedule.{runs}
use Rattle.sw_check_words.specs.Words.{Action, Check, Certify, Verify, Run, Trace, Owners, Order}
use Rattle.sw_check_words.specs.Words.{Command, OnFile, Demo}

-- the one line about words that have no form
abbrev pub usage : Outcome
usage = record {
  exit = exits.Usage;
  bytes = codes "usage: swiftcheck COMMAND FILE [SCHEDULE]"
      ++ line_feed;
}

-- a program is accepted
abbrev pub accepted : Outcome
accepted = record { exit = exits.Done; bytes = codes "accepted" ++ line_feed }

-- a program is refused for these breaches
abbrev pub refusal : List ℕ → List Breach → Outcome
refusal text breaches = record { exit = exits.Breached; bytes = verdict_text text breaches }

-- a program is accepted, and this is its certificate, or it has none that is short enough
abbrev pub certificate_outcome : Option (List ℕ) → Outcome
certificate_outcome (Some certificate) = record { exit = exits.Done; bytes = certificate }
certificate_outcome None =
    record { exit = exits.LongCertificate; bytes = codes "certificate: too long" ++ line_feed }

-- a certificate is accepted, or it has a fault
abbrev pub verified_outcome : List ℕ → Result (Unit {0}) CertFault → Outcome
verified_outcome certificate (Ok _) =
    record { exit = exits.Done; bytes = codes "certificate accepted" ++ line_feed }
verified_outcome certificate (Err fault) =
    record { exit = exits.BadCertificate; bytes = certificate_line certificate fault }

-- the text of a schedule has a fault
abbrev pub bad_schedule_outcome : List ℕ → SchedFault → Outcome
bad_schedule_outcome schedule fault =
    record { exit = exits.BadSchedule; bytes = schedule_line schedule fault }

-- how the machine stands after items, by which these lines were printed, `ended` of `jobs` jobs have
-- ended
abbrev pub end_outcome : List ℕ → List ℕ → ℕ → ℕ → End → Outcome
end_outcome text lines ended jobs Ran =
    record { exit = exits.Done; bytes = lines ++ summary ended jobs }
end_outcome text lines ended jobs (Trapped kind at) =
    record { exit = exits.Trapped; bytes = lines ++ trap_line text kind at }

-- the lines that are printed, and then how the machine stands
abbrev pub run_outcome : List ℕ → Output → Outcome
run_outcome text output = end_outcome text output.lines output.ended output.jobs output.end

-- the same, and then a line for each coloured cell, with its owner
abbrev pub owners_outcome : List ℕ → List (List ℕ) → OwnerReplay → Outcome
owners_outcome text names replay = record {
  exit = (run_outcome text replay.output).exit;
  bytes = (run_outcome text replay.output).bytes ++ owner_lines names replay.owners;
}

-- The answer to a run of a program that was generated for a number of actors: where nothing halts
-- the machine, the reply is one line.
abbrev pub demo_end : ℕ → List ℕ → ℕ → ℕ → End → Outcome
demo_end actors lines ended jobs Ran =
    record { exit = exits.Done; bytes = demo_line actors (program actors) lines ended jobs }
demo_end actors lines ended jobs (Trapped kind at) =
    end_outcome (program actors) lines ended jobs (Trapped kind at)

abbrev pub demo_outcome : ℕ → Output → Outcome
demo_outcome actors output = demo_end actors output.lines output.ended output.jobs output.end

-- a replay that was watched: where it met a race, the lines about that race are the last
abbrev pub watched_outcome : List ℕ → Output → Option Race → Outcome
watched_outcome text output None = run_outcome text output
watched_outcome text output (Some race) =
    record { exit = exits.Raced; bytes = output.lines ++ race_lines text race }

abbrev pub replay_outcome : List ℕ → Replay → Outcome
replay_outcome text replay = watched_outcome text replay.output replay.race

-- Items that were taken whatever races there are: they make too many jobs, or the first two accesses
-- that nothing orders are the last lines, or a trap halted the machine, or each access is ordered.
abbrev pub order_outcome : List ℕ → OrderReplay → Outcome
order_outcome text replays.ManyJobs =
    record { exit = exits.ManyJobs; bytes = codes "order: more than 256 jobs" ++ line_feed }
order_outcome text (replays.Unordered lines first second) =
    record { exit = exits.Unordered; bytes = lines ++ unordered_lines text first second }
order_outcome text (replays.Trapped lines kind at) =
    record { exit = exits.Trapped; bytes = lines ++ trap_line text kind at }
order_outcome text (replays.Ordered lines accesses) =
    record { exit = exits.Done; bytes = lines ++ ordered_line accesses }

-- The part ends with this reply.
abbrev pub EndsWithReply : Outcome → Result Outcome Outcome → Type 0
EndsWithReply outcome result = result ≡ Ok outcome

-- A program is judged by these phases under a default: it has a graph, or it is refused.
pub data IsJudgement (rule : AsyncDefault) (phases : List Phase) (text : List ℕ)
    : Result Passed Outcome → Type 0 where
  passes : (passed : Passed) → IsVerdict rule phases text (Ok passed.graph)
      → HasActorNames text passed.actors → IsJudgement rule phases text (Ok passed)
  breached : (breaches : List Breach) → IsVerdict rule phases text (Err breaches)
      → IsJudgement rule phases text (Err (refusal text breaches))

-- The text of a schedule has items, or a fault.
pub data Scheduled (schedule : List ℕ) : Result (List ℕ) Outcome → Type 0 where
  has_items : (items : List ℕ) → IsItems schedule items → Scheduled schedule (Ok items)
  has_fault : (fault : SchedFault) → IsFirstFault schedule fault
      → Scheduled schedule (Err (bad_schedule_outcome schedule fault))

-- The certificate of a program's graph is printed.
pub data Certifies (graph : Graph) : Result Outcome Outcome → Type 0 where
  prints : (printed : Option (List ℕ)) → IsPrinted graph printed
      → Certifies graph (Ok (certificate_outcome printed))

-- The bytes are tested as a certificate of a program's graph.
pub data Verifies (graph : Graph) (certificate : List ℕ) : Result Outcome Outcome → Type 0 where
  tests : (result : Result (Unit {0}) CertFault) → Verified graph certificate result
      → Verifies graph certificate (Ok (verified_outcome certificate result))

-- The machine of a program's graph takes the items, all of them, and this is answered.
abbrev pub Runs : List ℕ → Graph → List ℕ → Result Outcome Outcome → Type 0
Runs text graph items = EndsWithReply (run_outcome text (output_of graph items))

-- It takes them up to the first state that is racing, and this is answered.
pub data Traces (text : List ℕ) (graph : Graph) (items : List ℕ)
    : Result Outcome Outcome → Type 0 where
  ends : (replay : Replay) → IsReplay graph items replay
      → Traces text graph items (Ok (replay_outcome text replay))

-- It takes all of them, and this is answered about the order of the accesses.
pub data Orders (text : List ℕ) (graph : Graph) (items : List ℕ)
    : Result Outcome Outcome → Type 0 where
  in_order : (replay : OrderReplay) → IsOrderReplay graph items replay
      → Orders text graph items (Ok (order_outcome text replay))

-- The coloured machine takes them, all of them, and the answer of a run is followed by the lines on
-- who owns the coloured cells.
abbrev pub owners_reply : List ℕ → Passed → List ℕ → Outcome
owners_reply text passed items =
    owners_outcome text passed.actors (owner_replay passed.graph items)

abbrev pub Owns : List ℕ → Passed → List ℕ → Result Outcome Outcome → Type 0
Owns text passed items = EndsWithReply (owners_reply text passed items)

-- A schedule is fetched, and has these items.
abbrev pub items_in : List ℕ → Part (List ℕ)
items_in schedule_file = do
  schedule ← Fetched schedule_file SCHEDULE_LIMIT
  Alone (Scheduled schedule)

-- A schedule is fetched, and what is answered follows from its items.
abbrev pub by_items : List ℕ → (List ℕ → Result Outcome Outcome → Type 0) → Part Outcome
by_items schedule_file Answers = do
  items ← items_in schedule_file
  Alone (Answers items)

-- A certificate is fetched, and tested.
abbrev pub by_certificate : List ℕ → Graph → Part Outcome
by_certificate certificate_file graph = do
  certificate ← Fetched certificate_file CERTIFICATE_LIMIT
  Alone (Verifies graph certificate)

-- the phases that count: an action refuses a program in which one of them finds a breach
abbrev pub phases_for : Action → List Phase
phases_for Check = all_phases
phases_for Certify = all_phases
phases_for (Verify certificate_file) = phases_to_sharing
phases_for (Run schedule_file) = all_phases
phases_for (Trace schedule_file) = phases_to_size
phases_for (Owners schedule_file) = all_phases
phases_for (Order schedule_file) = phases_to_size

-- What follows the verdict on a text that has a graph. A program of which all phases find nothing
-- never races, and its run isn't watched.
abbrev pub after_verdict : Action → List ℕ → Passed → Part Outcome
after_verdict Check text passed = Alone (EndsWithReply accepted)
after_verdict Certify text passed = Alone (Certifies passed.graph)
after_verdict (Verify certificate_file) text passed = by_certificate certificate_file passed.graph
after_verdict (Run schedule_file) text passed = by_items schedule_file (Runs text passed.graph)
after_verdict (Trace schedule_file) text passed = by_items schedule_file (Traces text passed.graph)
after_verdict (Owners schedule_file) text passed = by_items schedule_file (Owns text passed)
after_verdict (Order schedule_file) text passed = by_items schedule_file (Orders text passed.graph)

-- A program is fetched and judged by the phases that count, and then comes what follows the verdict.
abbrev pub file_course : AsyncDefault → List ℕ → Action → Part Outcome
file_course rule file action = do
  text ← Fetched file PROGRAM_LIMIT
  passed ← Alone (IsJudgement rule (phases_for action) text)
  after_verdict action text passed

-- the items by which a generated program is run
abbrev pub demo_items : ℕ → List ℕ
demo_items actors = written_out (runs actors)

-- The program that is generated for a number of actors is judged, and run by its own schedule.
abbrev pub demo_course : ℕ → Part Outcome
demo_course actors = do
  passed ← Alone (IsJudgement Concurrent all_phases (program actors))
  Alone (EndsWithReply (demo_outcome actors (output_of passed.graph (demo_items actors))))

-- the parts of each command
abbrev pub course_of : Option Command → Part Outcome
course_of None = Alone (EndsWithReply usage)
course_of (Some (OnFile rule file action)) = file_course rule file action
course_of (Some (Demo actors)) = demo_course actors

-- `Reply command reads outcome`: this is answered to the words, where exactly these files are read
-- for it, in this order.
pub data Reply (command : Option Command) (reads : List Read) (outcome : Outcome) : Type 0 where
  at_end : course_of command reads (Ended (Ok outcome)) → Reply command reads outcome
  before_end : course_of command reads (Ended (Err outcome)) → Reply command reads outcome

-- the exits of the replies to a run by a schedule
abbrev pub run_exits : List Exit
run_exits = exits.TooLong ∷ exits.Breached ∷ exits.BadSchedule ∷ exits.Done ∷ exits.Trapped ∷ []

-- the exits of the replies to a command on a file
abbrev pub file_exits : Action → List Exit
file_exits Check = exits.TooLong ∷ exits.Breached ∷ exits.Done ∷ []
file_exits Certify = exits.TooLong ∷ exits.Breached ∷ exits.Done ∷ exits.LongCertificate ∷ []
file_exits (Verify certificate_file) =
    exits.TooLong ∷ exits.Breached ∷ exits.Done ∷ exits.BadCertificate ∷ []
file_exits (Run schedule_file) = run_exits
file_exits (Owners schedule_file) = run_exits
file_exits (Trace schedule_file) =
    exits.TooLong ∷ exits.Breached ∷ exits.BadSchedule ∷ exits.Done ∷ exits.Trapped ∷ exits.Raced
    ∷ []
file_exits (Order schedule_file) =
    exits.TooLong ∷ exits.Breached ∷ exits.BadSchedule ∷ exits.Done ∷ exits.Trapped ∷ exits.ManyJobs
    ∷ exits.Unordered ∷ []

-- the exits of the replies to `demo`
abbrev pub demo_exits : List Exit
demo_exits = exits.Breached ∷ exits.Done ∷ exits.Trapped ∷ []

-- the exits of the replies to a command
abbrev pub exits_of : Option Command → List Exit
exits_of None = exits.Usage ∷ []
exits_of (Some (OnFile rule file action)) = file_exits action
exits_of (Some (Demo actors)) = demo_exits
