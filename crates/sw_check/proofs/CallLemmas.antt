-- What a call answers, from what the command's function did.
use Rattle.std.proofs.Common.{◌≡◌, ◌≢◌, ℕ, ◌≤◌, List, length, Option, Some, None, IfSome, ap, subst}
use Rattle.std.specs.Prelude.{String, string_bytes, map}
use Rattle.std.specs.declared.alloc.Global.{Global}
use Rattle.sw_graph.specs.declared.graph.Graph.{Graph}
use Rattle.sw_outside.specs.Shelf.{KnownShelf, file_of}
use Rattle.sw_check_parts.specs.declared.TheConstants.{PROGRAM_LIMIT}
use Rattle.sw_check_parts.specs.declared.exit.Exit.{Exit}
use Rattle.sw_check_parts.specs.declared.exit.Exit.TheVariants.{Done, Breached, Raced, Unordered}
use Rattle.sw_check_parts.specs.declared.outcome.Outcome.{Outcome}
use Rattle.sw_check_parts.specs.Course.{Read, AreOf}
use Rattle.sw_check_parts.specs.Exit.{IsOneOf}
use Rattle.sw_decls.specs.declared.signature.AsyncDefault.{AsyncDefault}
use Rattle.sw_verdict.specs.Phases.{all_phases, IsGraphOf}
use Rattle.sw_verdict.specs.Verdict.{Accepts, Refuses}
use Rattle.sw_check.specs.Call.{Answered}
use Rattle.sw_check.specs.Claims.{NeverRaces, ExitSays, ExitSaysOf, ProgramFits, default_of}
use Rattle.sw_check.specs.Claims.{phases_of, program_of}
use Rattle.sw_check.specs.Reply.{Reply, exits_of}
use Rattle.sw_check_words.specs.Words.{Command, Check, OnFile, Order, Verify, command_of}
use Rattle.sw_check_words.specs.Words.{command_in}
use Rattle.sw_check.proofs.CertificateLemmas.{says_certified}
use Rattle.sw_check.proofs.ClaimLemmas.{reply_says, says_in_order, says_no_race}
use Rattle.sw_check.proofs.Courses.{one_reply}
use Rattle.sw_check.proofs.ExitLemmas.{exits_unraced}
use Rattle.sw_check.proofs.OneExit.{one_exit, says_accepted, says_breached}

-- the words as the call has them
pub of_words : (words lent : List (String Global)) {before after : Option KnownShelf}
    {outcome : Outcome}
    → lent ≡ words → Answered (command_of (map string_bytes lent)) before outcome after
    → Answered (command_in words) before outcome after
of_words words lent {before} {after} {outcome} same answered =
    subst (λ words. Answered (command_in words) before outcome after) same answered

pub exits_of_words : (words lent : List (String Global)) (exit : Exit) → lent ≡ words
    → IsOneOf (exits_of (command_of (map string_bytes lent))) exit
    → IsOneOf (exits_of (command_in words)) exit
exits_of_words words lent exit same exits =
    subst (λ words. IsOneOf (exits_of (command_in words)) exit) same exits

-- where the files are known, the reply is one over them
reads_of : {command : Option Command} {before after : Option KnownShelf} {outcome : Outcome}
    (answered : Answered command before outcome after) (known : KnownShelf) → before ≡ Some known
    → AreOf (file_of known.files) answered.reads
reads_of answered known is =
    subst (λ shelf. IfSome shelf (λ known. AreOf (file_of known.files) answered.reads)) is
    answered.has_read.of_files

pub answer_says : {command : Option Command} {before after : Option KnownShelf} {outcome : Outcome}
    → Answered command before outcome after
    → IfSome before (λ known. ExitSays (file_of known.files) command outcome.exit)
answer_says {command} {before} {after} {outcome} answered =
    by before answered.has_read.of_files where
      by : (shelf : Option KnownShelf)
          → IfSome shelf (λ known. AreOf (file_of known.files) answered.reads)
          → IfSome shelf (λ known. ExitSays (file_of known.files) command outcome.exit)
      by None of_files = tt
      by (Some known) of_files =
          reply_says (file_of known.files) command answered.reads outcome of_files answered.reply

answer_says_of : {command : Option Command} {before after : Option KnownShelf} {outcome : Outcome}
    → Answered command before outcome after → (known : KnownShelf) (given : Command)
    → before ≡ Some known → command ≡ Some given
    → ExitSays (file_of known.files) (Some given) outcome.exit
answer_says_of {command} {before} {after} {outcome} answered known given is same =
    subst (λ command. ExitSays (file_of known.files) command outcome.exit) same
    (reply_says (file_of known.files) command answered.reads outcome
    (reads_of answered known is) answered.reply)

pub answer_only : {command : Option Command} {before after : Option KnownShelf} {outcome : Outcome}
    → Answered command before outcome after → (known : KnownShelf) (exit : Exit)
    → before ≡ Some known → ExitSays (file_of known.files) command exit → outcome.exit ≡ exit
answer_only {command} {outcome = outcome} answered known exit is =
    one_exit (file_of known.files) command outcome.exit exit
    (reply_says (file_of known.files) command answered.reads outcome
    (reads_of answered known is) answered.reply)

pub answer_no_race : {command : Option Command} {before after : Option KnownShelf}
    {outcome : Outcome}
    → Answered command before outcome after → (known : KnownShelf) (given : Command)
    → before ≡ Some known → command ≡ Some given → phases_of given ≡ all_phases
    → ProgramFits (file_of known.files) given → outcome.exit ≢ Breached
    → (graph : Graph) × IsGraphOf (default_of given) (program_of (file_of known.files) given) graph
    × NeverRaces graph
answer_no_race {outcome = outcome} answered known given is same all =
    says_no_race (file_of known.files) given outcome.exit
    (answer_says_of answered known given is same) all

-- a command for which all phases count has no exit of a race
pub answer_not_raced : (command : Option Command) (exit : Exit)
    → IsOneOf (exits_of command) exit → (given : Command) → command ≡ Some given
    → phases_of given ≡ all_phases → exit ≢ Raced
answer_not_raced command exit exits given same all raced =
    exits_unraced given all (subst (λ exit. IsOneOf (exits_of (Some given)) exit) raced
    (subst (λ command. IsOneOf (exits_of command) exit) same exits))

pub answer_exact : {command : Option Command} {before after : Option KnownShelf} {outcome : Outcome}
    → Answered command before outcome after → (known : KnownShelf) (reads : List Read)
    (other : Outcome)
    → before ≡ Some known → AreOf (file_of known.files) reads → Reply command reads other
    → outcome.exit ≡ other.exit
answer_exact {command} {outcome = outcome} answered known reads other is of_files reply =
    ap (λ o. o.exit) (one_reply command (file_of known.files) answered.reads reads outcome other
    (reads_of answered known is) of_files answered.reply reply).1

pub answer_breached : {command : Option Command} {before after : Option KnownShelf}
    {outcome : Outcome}
    → Answered command before outcome after → (known : KnownShelf) (given : Command)
    → before ≡ Some known → command ≡ Some given
    → ProgramFits (file_of known.files) given
    → Refuses (default_of given) (phases_of given) (program_of (file_of known.files) given)
    → outcome.exit ≡ Breached
answer_breached {outcome = outcome} answered known given is same =
    says_breached (file_of known.files) given outcome.exit
    (answer_says_of answered known given is same)

pub answer_accepted : {command : Option Command} {before after : Option KnownShelf}
    {outcome : Outcome}
    → Answered command before outcome after → (known : KnownShelf) (rule : AsyncDefault)
    (file : List ℕ)
    → before ≡ Some known
    → command ≡ Some (OnFile rule file Check) → length (file_of known.files file) ≤ PROGRAM_LIMIT
    → Accepts rule (file_of known.files file) → outcome.exit ≡ Done
answer_accepted {outcome = outcome} answered known rule file is same =
    says_accepted (file_of known.files) rule file outcome.exit
    (answer_says_of answered known (OnFile rule file Check) is same)

pub answer_certified : {command : Option Command} {before after : Option KnownShelf}
    {outcome : Outcome}
    → Answered command before outcome after → (known : KnownShelf) (rule : AsyncDefault)
    (file certificate_file : List ℕ) → before ≡ Some known
    → command ≡ Some (OnFile rule file (Verify certificate_file)) → outcome.exit ≡ Done
    → Accepts rule (file_of known.files file)
answer_certified answered known rule file certificate_file is same done =
    let command = OnFile rule file (Verify certificate_file) in
    says_certified (file_of known.files) rule file certificate_file
    (subst (ExitSaysOf (file_of known.files) command) done
    (answer_says_of answered known command is same))

pub answer_in_order : {command : Option Command} {before after : Option KnownShelf}
    {outcome : Outcome}
    → Answered command before outcome after → (known : KnownShelf) (rule : AsyncDefault)
    (file schedule_file : List ℕ) → before ≡ Some known
    → command ≡ Some (OnFile rule file (Order schedule_file))
    → Accepts rule (file_of known.files file) → outcome.exit ≢ Unordered
answer_in_order answered known rule file schedule_file is same accepts unordered =
    let command = OnFile rule file (Order schedule_file) in
    says_in_order (file_of known.files) rule file schedule_file
    (subst (ExitSaysOf (file_of known.files) command) unordered
    (answer_says_of answered known command is same)) accepts
