-- What the functions of the parts decide, and what is known before a part began.
use Rattle.std.proofs.Common.{◌≡◌, ℕ, List, [], Option, Some, None, Result, Ok, Err, IfOk, refl, sym}
use Rattle.std.proofs.Common.{subst}
use Rattle.std.specs.Prelude.{String, string_bytes, map}
use Rattle.std.specs.declared.alloc.AllocError.{AllocError}
use Rattle.std.specs.declared.alloc.Global.{Global}
use Rattle.sw_graph.specs.declared.graph.Graph.{Graph}
use Rattle.sw_outside.specs.Shelf.{KnownShelf}
use Rattle.sw_check_parts.specs.declared.exit.Exit.{Exit}
use Rattle.sw_check_parts.specs.declared.outcome.Outcome.{Outcome}
use Rattle.sw_check_parts.specs.declared.stop.Stop.{Stop}
use Rattle.sw_check_parts.specs.declared.stop.Stop.TheVariants.{Memory}
use Rattle.sw_check_parts.specs.Course.{Underway, deciding, in_first, to_fetch}
use Rattle.sw_check_parts.specs.Exit.{IsOneOf}
use Rattle.sw_check_parts.specs.Leaves.{Decides, Does, SeenShelf}
use Rattle.sw_check_parts.proofs.Doing.{does_alone}
use Rattle.sw_check_parts.proofs.ReadLemmas.{has_read_nothing}
use Rattle.sw_check.specs.Programs.{Passed}
use Rattle.sw_check.specs.Reply.{EndsWithReply}
use Rattle.sw_see_events.specs.Watches.{IsWatched}
use Rattle.sw_see_events.specs.declared.watching.Watched.{Watched}
use Rattle.sw_see_find.specs.Found.{IsFound}
use Rattle.sw_see_find.specs.declared.finding.Found.{Found}
use Rattle.sw_see_words.specs.Words.{Breaches, Command, Draw, Find, OnFile, Steps, command_in}
use Rattle.sw_see_words.specs.Words.{command_of}
use Rattle.sw_see.specs.Call.{Answered}
use Rattle.sw_see.specs.Reply.{Finds, course_of, exits_of, finds, found_outcome, usage}
use Rattle.sw_see.specs.View.{IsViewOf, View, Views, views}

pub viewed : (view : View) (text : List ℕ) (passed : Passed) (items : List ℕ) (watched : Watched)
    (result : Result Outcome AllocError) → IsWatched passed.graph items watched
    → IfOk result (IsViewOf text passed watched view)
    → IfOk result (λ outcome. Views view text passed items (Ok outcome))
viewed view text passed items watched (Ok outcome) is shown = views watched outcome is shown
viewed view text passed items watched (Err error) is shown = tt

-- what is known to be a view, if there is a reply
pub shown_as : (text : List ℕ) (passed : Passed) (watched : Watched) (view : View)
    (known : Outcome) (result : Result Outcome AllocError)
    → IsViewOf text passed watched view known → IfOk result (λ outcome. outcome ≡ known)
    → IfOk result (IsViewOf text passed watched view)
shown_as text passed watched view known (Ok outcome) is same =
    subst (IsViewOf text passed watched view) (sym same) is
shown_as text passed watched view known (Err error) is same = tt

pub searched : (graph : Graph) (found : Found) (result : Result Outcome AllocError)
    → IsFound graph found → IfOk result (λ outcome. outcome ≡ found_outcome found)
    → IfOk result (λ outcome. Finds graph (Ok outcome))
searched graph found (Ok outcome) is same =
    subst (λ outcome. Finds graph (Ok outcome)) (sym same) (finds found is)
searched graph found (Err error) is same = tt

-- words of no form
pub no_form : {command : Option Command} {shelf : SeenShelf} → None ≡ command
    → (result : Result Outcome Stop) → Decides (EndsWithReply usage) result
    → Does (course_of command) shelf result shelf
no_form {shelf = shelf} is result decides =
    subst (λ command. Does (course_of command) shelf result shelf) is
    (does_alone (EndsWithReply usage) result decides)

begins : (command : Option Command) → course_of command [] Underway
begins None = deciding
begins (Some (OnFile rule file (Breaches color))) = in_first [] to_fetch
begins (Some (OnFile rule file (Steps schedule_file))) = in_first [] to_fetch
begins (Some (OnFile rule file Find)) = in_first [] to_fetch
begins (Some (OnFile rule file (Draw schedule_file in_page))) = in_first [] to_fetch

-- Memory ran out before the command was known.
pub not_begun : (command : Option Command) {shelf : SeenShelf}
    → Does (course_of command) shelf (Err Memory) shelf
not_begun command {shelf} = record {
  reads = [];
  so_far = begins command;
  has_read = has_read_nothing shelf.known;
  counts = refl;
  received_long = tt;
}

-- the words as the call has them
pub of_words : (words lent : List (String Global)) {before after : Option KnownShelf}
    {outcome : Outcome}
    → lent ≡ words → Answered (command_of (map string_bytes lent)) before outcome after
    → Answered (command_in words) before outcome after
of_words words lent {before} {after} {outcome} same answered =
    subst (λ words. Answered (command_in words) before outcome after) same answered

pub exits_of_words : (words lent : List (String Global)) (exit : Exit) → lent ≡ words
    → IsOneOf (exits_of (command_of (map string_bytes lent))) exit
    → IsOneOf (exits_of (command_in words)) exit
exits_of_words words lent exit same exits =
    subst (λ words. IsOneOf (exits_of (command_in words)) exit) same exits
