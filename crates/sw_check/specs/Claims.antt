-- What each exit says of the files.
use Rattle.std.specs.Prelude.{◌≡◌, ℕ, ◌<◌, ◌≤◌, ◌⊎◌, List, [], length, Option, Some, None}
use Rattle.std.specs.Prelude.{Result, Ok, Err}
use Rattle.sw_graph.specs.declared.graph.Graph.{Graph}
use Rattle.sw_value.specs.declared.race.Access.{Access}
use Rattle.sw_value.specs.declared.race.Race.{Race}
use Rattle.sw_value.specs.declared.state.TrapKind.{TrapKind}
use Rattle.sw_value.specs.Racing.{Racing}
use Rattle.sw_value.specs.Reach.{reach}
use Rattle.sw_replay.specs.declared.text.TheConstants.{SCHEDULE_LIMIT}
use Rattle.sw_replay.specs.declared.text.SchedFault.{SchedFault}
use Rattle.sw_replay.specs.declared.output.End.{End}
use Rattle.sw_replay.specs.declared.output.End.TheVariants as ends
use Rattle.sw_replay.specs.declared.output.Replay.{Replay}
use Rattle.sw_replay.specs.declared.output.Output.{Output}
use Rattle.sw_replay.specs.Items.{IsItems, IsFirstFault}
use Rattle.sw_replay.specs.Output.{output_of}
use Rattle.sw_check_parts.specs.declared.exit.Exit.{Exit}
use Rattle.sw_check_parts.specs.declared.exit.Exit.TheVariants.{Done, Breached, Usage, NotRead}
use Rattle.sw_check_parts.specs.declared.exit.Exit.TheVariants.{TooLong}
use Rattle.sw_check_parts.specs.declared.exit.Exit.TheVariants.{NotWritten, Memory, Trapped}
use Rattle.sw_check_parts.specs.declared.exit.Exit.TheVariants.{BadSchedule}
use Rattle.sw_check_parts.specs.declared.exit.Exit.TheVariants.{Raced, BadCertificate}
use Rattle.sw_check_parts.specs.declared.exit.Exit.TheVariants.{LongCertificate, ManyJobs}
use Rattle.sw_check_parts.specs.declared.exit.Exit.TheVariants.{Unordered}
use Rattle.sw_hb.specs.Replay.{IsOrderReplay}
use Rattle.sw_hb.specs.declared.ordering.OrderReplay.{OrderReplay}
use Rattle.sw_hb.specs.declared.ordering.OrderReplay.TheVariants as replays
use Rattle.sw_cert.specs.Verified.{Verified}
use Rattle.sw_cert_making.specs.Printed.{IsPrinted}
use Rattle.sw_cert.specs.declared.verdict.CertFault.{CertFault}
use Rattle.sw_cert.specs.declared.verdict.TheConstants.{CERTIFICATE_LIMIT}
use Rattle.sw_check_parts.specs.declared.TheConstants.{PROGRAM_LIMIT}
use Rattle.sw_decls.specs.declared.signature.AsyncDefault.{AsyncDefault}
use Rattle.sw_decls.specs.declared.signature.AsyncDefault.TheVariants.{Concurrent}
use Rattle.sw_verdict.specs.Phases.{Phase, all_phases, IsGraphOf}
use Rattle.sw_verdict.specs.Verdict.{Breaches, Refuses}
use Rattle.sw_replay.specs.Replay.{IsReplay}
use Rattle.sw_gen.specs.Program.{program}
use Rattle.sw_check_words.specs.Words.{Action, Check, Certify, Verify, Run, Trace, Owners, Order}
use Rattle.sw_check_words.specs.Words.{Command, OnFile, Demo}
use Rattle.sw_check.specs.Reply.{demo_items, phases_for}

-- The machine of the graph isn't racing after any list of items, of any length.
abbrev pub NeverRaces : Graph → Type 0
NeverRaces graph = (items : List ℕ) → ¬ Racing graph (reach graph items)

-- the file of the program that a command is about, where it is in a file
abbrev pub program_file_of : Command → Option (List ℕ)
program_file_of (OnFile rule file action) = Some file
program_file_of (Demo actors) = None

-- the text of that program
abbrev pub program_of : (List ℕ → List ℕ) → Command → List ℕ
program_of files (OnFile rule file action) = files file
program_of files (Demo actors) = program actors

-- the default by which a command's program is judged
abbrev pub default_of : Command → AsyncDefault
default_of (OnFile rule file action) = rule
default_of (Demo actors) = Concurrent

-- the phases that count for a command: it refuses a program in which one of them finds a breach
abbrev pub phases_of : Command → List Phase
phases_of (OnFile rule file action) = phases_for action
phases_of (Demo actors) = all_phases

-- the schedule's file of an action, where it has one
abbrev pub schedule_file_in : Action → Option (List ℕ)
schedule_file_in Check = None
schedule_file_in Certify = None
schedule_file_in (Verify certificate_file) = None
schedule_file_in (Run schedule_file) = Some schedule_file
schedule_file_in (Trace schedule_file) = Some schedule_file
schedule_file_in (Owners schedule_file) = Some schedule_file
schedule_file_in (Order schedule_file) = Some schedule_file

-- that of a command
abbrev pub schedule_file_of : Command → Option (List ℕ)
schedule_file_of (OnFile rule file action) = schedule_file_in action
schedule_file_of (Demo actors) = None

-- the certificate's file of an action, where it has one
abbrev pub certificate_file_in : Action → Option (List ℕ)
certificate_file_in Check = None
certificate_file_in Certify = None
certificate_file_in (Verify certificate_file) = Some certificate_file
certificate_file_in (Run schedule_file) = None
certificate_file_in (Trace schedule_file) = None
certificate_file_in (Owners schedule_file) = None
certificate_file_in (Order schedule_file) = None

-- that of a command
abbrev pub certificate_file_of : Command → Option (List ℕ)
certificate_file_of (OnFile rule file action) = certificate_file_in action
certificate_file_of (Demo actors) = None

-- the file of this name, where there is one, is within its limit, or longer
abbrev pub Fits : (List ℕ → List ℕ) → ℕ → Option (List ℕ) → Type 0
Fits files limit None = Unit {0}
Fits files limit (Some name) = length (files name) ≤ limit

abbrev pub IsLong : (List ℕ → List ℕ) → ℕ → Option (List ℕ) → Type 0
IsLong files limit None = ⊥
IsLong files limit (Some name) = limit < length (files name)

-- the program of the command is within the limit, as each generated program is
abbrev pub ProgramFits : (List ℕ → List ℕ) → Command → Type 0
ProgramFits files command = Fits files PROGRAM_LIMIT (program_file_of command)

-- the program of the command is within the limit, and no phase that counts finds a breach in it
pub record ProgramPasses (files : List ℕ → List ℕ) (command : Command) : Type 0 where
  pub short : ProgramFits files command
  pub no_breach : Breaches (default_of command) (phases_of command) (program_of files command) []

-- The program of the command is within the limit, and a phase that counts finds a breach in it.
pub record ProgramIsRefused (files : List ℕ → List ℕ) (command : Command) : Type 0 where
  pub short : ProgramFits files command
  pub breaches : Refuses (default_of command) (phases_of command) (program_of files command)

-- How a command ends that goes to its end.
pub data Ending : Type 0 where
  -- the machine stands so after all items
  Stands : (end : End) → Ending
  -- two jobs are about to race
  Races : (race : Race) → Ending
  -- the items make too many jobs
  Crowds : Ending
  -- nothing orders these two accesses
  Clashes : (first second : Access) → Ending
  -- the certificate has this fault
  Fails : (fault : CertFault) → Ending
  -- the certificate of the program is too long
  Overlong : Ending

-- how a replay ends that is watched
abbrev pub ending_by : Output → Option Race → Ending
ending_by output None = Stands output.end
ending_by output (Some race) = Races race

-- the run of a graph by items, and its replay that is watched, end so
abbrev pub RunsTo : Ending → Graph → List ℕ → Type 0
RunsTo ending graph items = ending ≡ Stands (output_of graph items).end

abbrev pub TracesTo : Ending → Graph → List ℕ → Type 0
TracesTo ending graph items =
    (replay : Replay) × IsReplay graph items replay × (ending ≡ ending_by replay.output replay.race)

-- under a default, so it is with a program's graph and such items
pub record EndsSo (rule : AsyncDefault) (text : List ℕ) (AreItems : List ℕ → Type 0)
    (EndsBy : Graph → List ℕ → Type 0) : Type 0 where
  pub graph : Graph
  pub of_text : IsGraphOf rule text graph
  pub items : List ℕ
  pub are_items : AreItems items
  pub ends : EndsBy graph items

-- how a replay ends that puts accesses in order
abbrev pub order_ending : OrderReplay → Ending
order_ending replays.ManyJobs = Crowds
order_ending (replays.Unordered lines first second) = Clashes first second
order_ending (replays.Trapped lines kind at) = Stands (ends.Trapped kind at)
order_ending (replays.Ordered lines accesses) = Stands ends.Ran

abbrev pub OrdersTo : Ending → Graph → List ℕ → Type 0
OrdersTo ending graph items =
    (replay : OrderReplay) × IsOrderReplay graph items replay × (ending ≡ order_ending replay)

-- how a certificate that is printed ends a command, and one that is tested
abbrev pub printed_ending : Option (List ℕ) → Ending
printed_ending (Some certificate) = Stands ends.Ran
printed_ending None = Overlong

abbrev pub verified_ending : Result (Unit {0}) CertFault → Ending
verified_ending (Ok _) = Stands ends.Ran
verified_ending (Err fault) = Fails fault

-- the printing of a graph's certificate, and the test of one, end so
abbrev pub PrintsTo : Ending → Graph → Type 0
PrintsTo ending graph =
    (printed : Option (List ℕ)) × IsPrinted graph printed × (ending ≡ printed_ending printed)

abbrev pub VerifiesTo : Ending → List ℕ → Graph → Type 0
VerifiesTo ending certificate graph = (result : Result (Unit {0}) CertFault)
    × Verified graph certificate result × (ending ≡ verified_ending result)

-- under a default, so it is with a program's graph
pub record GraphEndsSo (rule : AsyncDefault) (text : List ℕ) (EndsBy : Graph → Type 0)
    : Type 0 where
  pub graph : Graph
  pub of_text : IsGraphOf rule text graph
  pub ends : EndsBy graph

-- How a command on a file ends that goes to its end. `check` has no schedule, and ends in one way.
abbrev pub FileEnds : Ending → (List ℕ → List ℕ) → AsyncDefault → List ℕ → Action → Type 0
FileEnds ending files rule file Check = ending ≡ Stands ends.Ran
FileEnds ending files rule file Certify = GraphEndsSo rule (files file) (PrintsTo ending)
FileEnds ending files rule file (Verify certificate_file) =
    GraphEndsSo rule (files file) (VerifiesTo ending (files certificate_file))
FileEnds ending files rule file (Run schedule_file) =
    EndsSo rule (files file) (IsItems (files schedule_file)) (RunsTo ending)
FileEnds ending files rule file (Trace schedule_file) =
    EndsSo rule (files file) (IsItems (files schedule_file)) (TracesTo ending)
FileEnds ending files rule file (Owners schedule_file) =
    EndsSo rule (files file) (IsItems (files schedule_file)) (RunsTo ending)
FileEnds ending files rule file (Order schedule_file) =
    EndsSo rule (files file) (IsItems (files schedule_file)) (OrdersTo ending)

-- how a command ends that goes to its end
abbrev pub Ends : Ending → (List ℕ → List ℕ) → Command → Type 0
Ends ending files (OnFile rule file action) = FileEnds ending files rule file action
Ends ending files (Demo actors) =
    EndsSo Concurrent (program actors) (λ items. items ≡ demo_items actors) (RunsTo ending)

-- the second file of a command, where it has one, is within its limit
abbrev pub SecondFits : (List ℕ → List ℕ) → Command → Type 0
SecondFits files command = Fits files SCHEDULE_LIMIT (schedule_file_of command)
    × Fits files CERTIFICATE_LIMIT (certificate_file_of command)

-- the second file of a command is longer than it may be
abbrev pub SecondIsLong : (List ℕ → List ℕ) → Command → Type 0
SecondIsLong files command = IsLong files SCHEDULE_LIMIT (schedule_file_of command)
    ⊎ IsLong files CERTIFICATE_LIMIT (certificate_file_of command)

-- the text of the file, where there is one, has a fault
abbrev pub HasFault : (List ℕ → List ℕ) → Option (List ℕ) → Type 0
HasFault files None = ⊥
HasFault files (Some name) = (fault : SchedFault) × IsFirstFault (files name) fault

-- the schedule of a command has a fault
abbrev pub ScheduleIsBad : (List ℕ → List ℕ) → Command → Type 0
ScheduleIsBad files command = HasFault files (schedule_file_of command)

-- What an exit says of a command and its files: how the command ends over them. No two exits say
-- what holds of the same command and files. Those that report a failure say nothing of them; they
-- are no exits of a reply.
abbrev pub ExitSaysOf : (List ℕ → List ℕ) → Command → Exit → Type 0
-- The program passes. `check` accepts it, and its certificate isn't too long, if it is to be printed;
-- or the certificate is accepted; or all items are taken and no trap halts the machine.
ExitSaysOf files command Done =
    ProgramPasses files command × SecondFits files command × Ends (Stands ends.Ran) files command
ExitSaysOf files command Breached = ProgramIsRefused files command
-- the program's file is too long, or the program passes and the file of the schedule or of the
-- certificate is too long
ExitSaysOf files command TooLong = IsLong files PROGRAM_LIMIT (program_file_of command)
    ⊎ (ProgramPasses files command × SecondIsLong files command)
-- the program passes, all items are taken, and a trap halts it
ExitSaysOf files command Trapped = ProgramPasses files command × SecondFits files command
    × (kind : TrapKind) × (at : ℕ) × Ends (Stands (ends.Trapped kind at)) files command
-- the program passes, and the schedule's text has a fault
ExitSaysOf files command BadSchedule =
    ProgramPasses files command × SecondFits files command × ScheduleIsBad files command
-- the program passes, and its replay, which is watched, ends with a race
ExitSaysOf files command Raced = ProgramPasses files command × SecondFits files command
    × (race : Race) × Ends (Races race) files command
-- the program passes, and the items make too many jobs
ExitSaysOf files command ManyJobs =
    ProgramPasses files command × SecondFits files command × Ends Crowds files command
-- the program passes, and nothing orders two accesses of its replay
ExitSaysOf files command Unordered = ProgramPasses files command × SecondFits files command
    × (first : Access) × (second : Access) × Ends (Clashes first second) files command
-- the program passes, and the certificate has a fault
ExitSaysOf files command BadCertificate = ProgramPasses files command × SecondFits files command
    × (fault : CertFault) × Ends (Fails fault) files command
-- the program passes, and its certificate is too long
ExitSaysOf files command LongCertificate =
    ProgramPasses files command × SecondFits files command × Ends Overlong files command
ExitSaysOf files command Usage = ⊥
ExitSaysOf files command NotRead = ⊥
ExitSaysOf files command NotWritten = ⊥
ExitSaysOf files command Memory = ⊥

-- The same of any words. Those without a form have one exit.
abbrev pub ExitSays : (List ℕ → List ℕ) → Option Command → Exit → Type 0
ExitSays files None exit = exit ≡ Usage
ExitSays files (Some command) exit = ExitSaysOf files command exit
