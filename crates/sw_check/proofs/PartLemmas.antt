-- What the functions of the parts decide.
use Rattle.std.proofs.Common.{◌≡◌, ◌≢◌, ◌<◌, ℕ, List, [], ◌∷◌, length, Option, None, Result, Ok}
use Rattle.std.proofs.Common.{Err, IfOk, refl, sym, subst, arith}
use Rattle.std.specs.declared.alloc.AllocError.{AllocError}
use Rattle.sw_hb.specs.Replay.{IsOrderReplay}
use Rattle.sw_hb.specs.declared.ordering.OrderReplay.{OrderReplay}
use Rattle.sw_cert.specs.Verified.{Verified}
use Rattle.sw_cert_making.specs.Printed.{IsPrinted}
use Rattle.sw_cert.specs.declared.verdict.CertFault.{CertFault}
use Rattle.sw_cert.specs.declared.verdict.CertFault.TheVariants.{Memory as NoMemoryLeft}
use Rattle.sw_graph.specs.declared.graph.Graph.{Graph}
use Rattle.sw_breach.specs.declared.Breach.{Breach}
use Rattle.sw_replay.specs.declared.text.SchedFault.{SchedFault}
use Rattle.sw_replay.specs.declared.text.SchedFault.TheVariants.{Memory as NoMemory}
use Rattle.sw_replay.specs.declared.output.Replay.{Replay}
use Rattle.sw_replay.specs.Items.{IsFirstFault}
use Rattle.sw_check_parts.specs.declared.exit.Exit.TheVariants.{TooLong}
use Rattle.sw_check_parts.specs.declared.outcome.Outcome.{Outcome}
use Rattle.sw_check_parts.specs.declared.stop.Stop.{Stop}
use Rattle.sw_check_parts.specs.declared.stop.Stop.TheVariants.{Memory}
use Rattle.sw_check_parts.specs.Leaves.{SeenShelf, Does, Decides}
use Rattle.sw_check_parts.proofs.Doing.{does_alone}
use Rattle.sw_check_parts.proofs.ReadLemmas.{has_read_nothing}
use Rattle.sw_check.proofs.Courses.{can_end}
use Rattle.sw_decls.specs.declared.signature.AsyncDefault.{AsyncDefault}
use Rattle.sw_verdict.specs.Phases.{Phase}
use Rattle.sw_verdict.specs.Verdict.{IsVerdict}
use Rattle.sw_replay.specs.Replay.{IsReplay}
use Rattle.sw_check_words.specs.Words.{Action, Command}
use Rattle.sw_check.specs.Programs.{Passed}
use Rattle.sw_check.specs.Reply.{usage, course_of, EndsWithReply, refusal, bad_schedule_outcome}
use Rattle.sw_check.specs.Reply.{IsJudgement, breached, Scheduled, has_fault}
use Rattle.sw_check.specs.Reply.{Traces, Verifies, after_verdict, ends, replay_outcome, tests}
use Rattle.sw_check.specs.Reply.{Certifies, Orders, certificate_outcome, in_order, order_outcome}
use Rattle.sw_check.specs.Reply.{prints, verified_outcome}

pub judged_refused : (rule : AsyncDefault) (phases : List Phase) (text : List ℕ)
    (breaches : List Breach)
    (outcome : Outcome) → outcome ≡ refusal text breaches
    → IsVerdict rule phases text (Err breaches)
    → IsJudgement rule phases text (Err outcome) × (outcome.exit ≢ TooLong)
judged_refused rule phases text breaches outcome is judges =
    subst (λ outcome. IsJudgement rule phases text (Err outcome) × (outcome.exit ≢ TooLong))
    (sym is)
    (breached breaches judges, λ e. cc)

pub scheduled_refused : (text : List ℕ) (fault : SchedFault) (outcome : Outcome)
    → (fault ≢ NoMemory) × (outcome ≡ bad_schedule_outcome text fault) → (fault ≢ NoMemory → IsFirstFault text fault)
    → Scheduled text (Err outcome) × (outcome.exit ≢ TooLong)
scheduled_refused text fault outcome (not, is) bad =
    subst (λ outcome. Scheduled text (Err outcome) × (outcome.exit ≢ TooLong)) (sym is)
    (has_fault fault (bad not), λ e. cc)

pub trace_answered : (text : List ℕ) (graph : Graph) (items : List ℕ) (replay : Replay)
    (result : Result Outcome AllocError) → IsReplay graph items replay
    → IfOk result (λ outcome. outcome ≡ replay_outcome text replay)
    → IfOk result (λ outcome. Traces text graph items (Ok outcome))
trace_answered text graph items replay (Ok outcome) is same =
    subst (λ outcome. Traces text graph items (Ok outcome)) (sym same) (ends replay is)
trace_answered text graph items replay (Err error) is same = tt

pub order_answered : (text : List ℕ) (graph : Graph) (items : List ℕ) (replay : OrderReplay)
    (result : Result Outcome AllocError) → IsOrderReplay graph items replay
    → IfOk result (λ outcome. outcome ≡ order_outcome text replay)
    → IfOk result (λ outcome. Orders text graph items (Ok outcome))
order_answered text graph items replay (Ok outcome) is same =
    subst (λ outcome. Orders text graph items (Ok outcome)) (sym same) (in_order replay is)
order_answered text graph items replay (Err error) is same = tt

pub long_answered : (graph : Graph) (result : Result Outcome AllocError) → IsPrinted graph None
    → IfOk result (λ outcome. outcome ≡ certificate_outcome None)
    → IfOk result (λ outcome. Certifies graph (Ok outcome))
long_answered graph (Ok outcome) printed is =
    subst (λ outcome. Certifies graph (Ok outcome)) (sym is) (prints None printed)
long_answered graph (Err error) printed is = tt

pub verified_answered : (graph : Graph) (bytes : List ℕ) (value : Unit {0})
    (result : Result Outcome AllocError) → Verified graph bytes (Ok value)
    → IfOk result (λ outcome. outcome ≡ verified_outcome bytes (Ok value))
    → IfOk result (λ outcome. Verifies graph bytes (Ok outcome))
verified_answered graph bytes value (Ok outcome) verified is =
    subst (λ outcome. Verifies graph bytes (Ok outcome)) (sym is) (tests (Ok value) verified)
verified_answered graph bytes value (Err error) verified is = tt

pub verified_refused : (graph : Graph) (bytes : List ℕ) (fault : CertFault)
    (result : Result Outcome AllocError)
    → IfOk result (λ outcome. (fault ≢ NoMemoryLeft) × (outcome ≡ verified_outcome bytes (Err fault)))
    → (fault ≢ NoMemoryLeft → Verified graph bytes (Err fault))
    → IfOk result (λ outcome. Verifies graph bytes (Ok outcome))
verified_refused graph bytes fault (Ok outcome) (not, is) verified =
    subst (λ outcome. Verifies graph bytes (Ok outcome)) (sym is)
    (tests (Err fault) (verified not))
verified_refused graph bytes fault (Err error) is verified = tt

-- what follows the verdict, for a text that was lent
pub follows_lent : {text lent : List ℕ} {before after : SeenShelf} {result : Result Outcome Stop}
    (action : Action) (passed : Passed) → lent ≡ text
    → Does (after_verdict action lent passed) before result after
    → Does (after_verdict action text passed) before result after
follows_lent {before = before} {after} {result} action passed same does =
    subst (λ text. Does (after_verdict action text passed) before result after) same does

-- words of no form
pub no_form : {command : Option Command} {shelf : SeenShelf} → None ≡ command
    → (result : Result Outcome Stop) → Decides (EndsWithReply usage) result
    → Does (course_of command) shelf result shelf
no_form {shelf = shelf} is result decides =
    subst (λ command. Does (course_of command) shelf result shelf) is
    (does_alone (EndsWithReply usage) result decides)

-- Memory ran out before the command was known.
pub not_begun : (command : Option Command) {shelf : SeenShelf}
    → Does (course_of command) shelf (Err Memory) shelf
not_begun command {shelf} = record {
  reads = [];
  so_far = (can_end command).begins;
  has_read = has_read_nothing shelf.known;
  counts = refl;
  received_long = tt;
}

-- what is answered has a breach
pub some_breach : (breaches : List Breach) → breaches ≢ [] → 0 < length breaches
some_breach [] some = absurd (some refl)
some_breach (breach ∷ breaches) some = omega arith
