-- No two exits say what holds of the same words and files.
use Rattle.std.proofs.Common.{◌≡◌, ℕ, ◌≤◌, inl, inr, List, length, Option, Some, None, refl}
use Rattle.std.proofs.Common.{sym}
use Rattle.std.proofs.Common.{ap, ◌∙◌, subst}
use Rattle.sw_graph.specs.declared.graph.Graph.{Graph}
use Rattle.sw_replay.specs.declared.output.End.TheVariants as ends
use Rattle.sw_replay.specs.Items.{IsItems}
use Rattle.sw_replay.proofs.ReplayLemmas.{one_replay}
use Rattle.sw_replay.proofs.ScheduleLaws.{one_list as one_items}
use Rattle.sw_verdict.proofs.OneLowered.{one_graph_of}
use Rattle.sw_replay.specs.declared.text.TheConstants.{SCHEDULE_LIMIT}
use Rattle.sw_replay.proofs.ScheduleLaws.{never_both as items_and_fault}
use Rattle.sw_check_parts.specs.declared.TheConstants.{PROGRAM_LIMIT}
use Rattle.sw_check_parts.specs.declared.exit.Exit.{Exit}
use Rattle.sw_check_parts.specs.declared.exit.Exit.TheVariants.{Done, Breached, Usage, NotRead}
use Rattle.sw_check_parts.specs.declared.exit.Exit.TheVariants.{TooLong}
use Rattle.sw_check_parts.specs.declared.exit.Exit.TheVariants.{NotWritten, Memory, Trapped}
use Rattle.sw_check_parts.specs.declared.exit.Exit.TheVariants.{BadSchedule}
use Rattle.sw_check_parts.specs.declared.exit.Exit.TheVariants.{Raced, BadCertificate}
use Rattle.sw_check_parts.specs.declared.exit.Exit.TheVariants.{LongCertificate, ManyJobs}
use Rattle.sw_check_parts.specs.declared.exit.Exit.TheVariants.{Unordered}
use Rattle.sw_cert.proofs.Oneway.{one_verified}
use Rattle.sw_cert_making.proofs.OnePrinted.{one_printed}
use Rattle.sw_hb.proofs.OrderLemmas.{one_order}
use Rattle.sw_cert.specs.declared.verdict.TheConstants.{CERTIFICATE_LIMIT}
use Rattle.sw_decls.specs.declared.signature.AsyncDefault.{AsyncDefault}
use Rattle.sw_decls.specs.declared.signature.AsyncDefault.TheVariants.{Concurrent}
use Rattle.sw_verdict.specs.Verdict.{Accepts, Refuses}
use Rattle.sw_verdict.proofs.Verdicts.{never_both}
use Rattle.sw_check.specs.Claims.{Clashes, Crowds, Ending, Ends, EndsSo, Fails, GraphEndsSo}
use Rattle.sw_check.specs.Claims.{OrdersTo, Overlong, PrintsTo, order_ending}
use Rattle.sw_check.specs.Claims.{ProgramIsRefused, ProgramPasses, Races, VerifiesTo}
use Rattle.sw_check.specs.Claims.{ExitSays, ExitSaysOf, IsLong, ProgramFits, RunsTo, ScheduleIsBad}
use Rattle.sw_check.specs.Claims.{SecondFits, SecondIsLong, Stands, TracesTo, certificate_file_of}
use Rattle.sw_check.specs.Claims.{default_of, ending_by, phases_of, printed_ending, program_of}
use Rattle.sw_check.specs.Claims.{program_file_of, schedule_file_of, verified_ending}
use Rattle.sw_gen.specs.Program.{program}
use Rattle.sw_check_words.specs.Words.{Check, Certify, Verify, Run, Trace, Owners, Order}
use Rattle.sw_check_words.specs.Words.{Command, OnFile, Demo}
use Rattle.sw_check.specs.Reply.{demo_items}
use Rattle.sw_check.proofs.ClaimLemmas.{fits_or_long}

-- by items of which there is one list, so it is with one graph and one list of them
both_so : (AreItems : List ℕ → Type 0)
    → ((a b : List ℕ) → AreItems a → AreItems b → a ≡ b) → (A B : Graph → List ℕ → Type 0)
    (P : Type 0) → ((graph : Graph) (items : List ℕ) → A graph items → B graph items → P)
    → (rule : AsyncDefault) (text : List ℕ) → EndsSo rule text AreItems A
    → EndsSo rule text AreItems B → P
both_so AreItems one A B P both rule text is_a is_b =
    let graph : is_a.graph ≡ is_b.graph =
    one_graph_of rule text is_a.graph is_b.graph is_a.of_text is_b.of_text in
    let items : is_a.items ≡ is_b.items =
    one is_a.items is_b.items is_a.are_items is_b.are_items in
    both is_b.graph is_b.items
    (subst (λ graph. A graph is_b.items) graph (subst (λ items. A is_a.graph items) items is_a.ends))
    is_b.ends

runs_to_one : (a b : Ending) (graph : Graph) (items : List ℕ) → RunsTo a graph items
    → RunsTo b graph items → a ≡ b
runs_to_one a b graph items is_a is_b = is_a ∙ sym is_b

traces_to_one : (a b : Ending) (graph : Graph) (items : List ℕ) → TracesTo a graph items
    → TracesTo b graph items → a ≡ b
traces_to_one a b graph items (replay, is, ends_a) (other, is_other, ends_b) =
    ends_a ∙ ap (λ replay. ending_by replay.output replay.race)
    (one_replay graph items replay other is is_other)
    ∙ sym ends_b

orders_to_one : (a b : Ending) (graph : Graph) (items : List ℕ) → OrdersTo a graph items
    → OrdersTo b graph items → a ≡ b
orders_to_one a b graph items (replay, is, ends_a) (other, is_other, ends_b) =
    ends_a ∙ ap order_ending (one_order graph items replay other is is_other) ∙ sym ends_b

-- by a graph, of which a text has one
both_graphs : (A B : Graph → Type 0) (P : Type 0) → ((graph : Graph) → A graph → B graph → P)
    → (rule : AsyncDefault) (text : List ℕ) → GraphEndsSo rule text A → GraphEndsSo rule text B → P
both_graphs A B P both rule text is_a is_b =
    both is_b.graph
    (subst A (one_graph_of rule text is_a.graph is_b.graph is_a.of_text is_b.of_text) is_a.ends)
    is_b.ends

prints_to_one : (a b : Ending) (graph : Graph) → PrintsTo a graph → PrintsTo b graph → a ≡ b
prints_to_one a b graph (printed, is, ends_a) (other, is_other, ends_b) =
    ends_a ∙ ap printed_ending (one_printed graph printed other is is_other) ∙ sym ends_b

verifies_to_one : (certificate : List ℕ) (a b : Ending) (graph : Graph)
    → VerifiesTo a certificate graph → VerifiesTo b certificate graph → a ≡ b
verifies_to_one certificate a b graph (result, is, ends_a) (other, is_other, ends_b) =
    ends_a ∙ ap verified_ending (one_verified graph certificate result other is is_other)
    ∙ sym ends_b

-- a command ends in one way
pub one_ending : (files : List ℕ → List ℕ) (command : Command) (a b : Ending)
    → Ends a files command → Ends b files command → a ≡ b
one_ending files (OnFile rule file Check) a b is_a is_b = is_a ∙ sym is_b
one_ending files (OnFile rule file Certify) a b is_a is_b =
    both_graphs (PrintsTo a) (PrintsTo b) (a ≡ b) (prints_to_one a b) rule (files file) is_a is_b
one_ending files (OnFile rule file (Verify certificate_file)) a b is_a is_b =
    let certificate = files certificate_file in
    both_graphs (VerifiesTo a certificate) (VerifiesTo b certificate) (a ≡ b)
    (verifies_to_one certificate a b) rule (files file) is_a is_b
one_ending files (OnFile rule file (Run schedule_file)) a b is_a is_b =
    both_so (IsItems (files schedule_file)) (one_items (files schedule_file)) (RunsTo a) (RunsTo b)
    (a ≡ b) (runs_to_one a b) rule (files file) is_a is_b
one_ending files (OnFile rule file (Trace schedule_file)) a b is_a is_b =
    both_so (IsItems (files schedule_file)) (one_items (files schedule_file)) (TracesTo a)
    (TracesTo b) (a ≡ b) (traces_to_one a b) rule (files file) is_a is_b
one_ending files (OnFile rule file (Owners schedule_file)) a b is_a is_b =
    both_so (IsItems (files schedule_file)) (one_items (files schedule_file)) (RunsTo a) (RunsTo b)
    (a ≡ b) (runs_to_one a b) rule (files file) is_a is_b
one_ending files (OnFile rule file (Order schedule_file)) a b is_a is_b =
    both_so (IsItems (files schedule_file)) (one_items (files schedule_file)) (OrdersTo a)
    (OrdersTo b) (a ≡ b) (orders_to_one a b) rule (files file) is_a is_b
one_ending files (Demo actors) a b is_a is_b =
    both_so (λ items. items ≡ demo_items actors) (λ items others is_those are. is_those ∙ sym are)
    (RunsTo a) (RunsTo b) (a ≡ b) (runs_to_one a b) Concurrent (program actors) is_a is_b

-- a command whose schedule has a fault doesn't come to its end
ends_or_bad : (files : List ℕ → List ℕ) (command : Command) (ending : Ending)
    → Ends ending files command → ScheduleIsBad files command → ⊥
ends_or_bad files (OnFile rule file Check) ending so bad = bad
ends_or_bad files (OnFile rule file Certify) ending so bad = bad
ends_or_bad files (OnFile rule file (Verify certificate_file)) ending so bad = bad
ends_or_bad files (OnFile rule file (Run schedule_file)) ending so (fault, is) =
    items_and_fault (files schedule_file) so.items fault so.are_items is
ends_or_bad files (OnFile rule file (Trace schedule_file)) ending so (fault, is) =
    items_and_fault (files schedule_file) so.items fault so.are_items is
ends_or_bad files (OnFile rule file (Owners schedule_file)) ending so (fault, is) =
    items_and_fault (files schedule_file) so.items fault so.are_items is
ends_or_bad files (OnFile rule file (Order schedule_file)) ending so (fault, is) =
    items_and_fault (files schedule_file) so.items fault so.are_items is
ends_or_bad files (Demo actors) ending so bad = bad

-- the exit of each ending
abbrev exit_of : Ending → Exit
exit_of (Stands ends.Ran) = Done
exit_of (Stands (ends.Trapped kind at)) = Trapped
exit_of (Races race) = Raced
exit_of Crowds = ManyJobs
exit_of (Clashes first second) = Unordered
exit_of (Fails fault) = BadCertificate
exit_of Overlong = LongCertificate

-- why a command has an exit over these files
data Cause (files : List ℕ → List ℕ) (command : Command) : Exit → Type 0 where
  refused : ProgramIsRefused files command → Cause files command Breached
  first_long : IsLong files PROGRAM_LIMIT (program_file_of command) → Cause files command TooLong
  second_long : ProgramPasses files command → SecondIsLong files command
      → Cause files command TooLong
  bad : ProgramPasses files command → SecondFits files command → ScheduleIsBad files command
      → Cause files command BadSchedule
  ended : (ending : Ending) → ProgramPasses files command → SecondFits files command
      → Ends ending files command → Cause files command (exit_of ending)

module _ (files : List ℕ → List ℕ) (command : Command) where
  cause_of : (exit : Exit) → ExitSaysOf files command exit → Cause files command exit
  cause_of Done (passes, fits, is) = ended (Stands ends.Ran) passes fits is
  cause_of Breached it = refused it
  cause_of TooLong (inl long) = first_long long
  cause_of TooLong (inr (passes, long)) = second_long passes long
  cause_of Trapped (passes, fits, kind, at, is) =
      ended (Stands (ends.Trapped kind at)) passes fits is
  cause_of BadSchedule (passes, fits, is_bad) = bad passes fits is_bad
  cause_of Raced (passes, fits, race, is) = ended (Races race) passes fits is
  cause_of ManyJobs (passes, fits, is) = ended Crowds passes fits is
  cause_of Unordered (passes, fits, first, second, is) =
      ended (Clashes first second) passes fits is
  cause_of BadCertificate (passes, fits, fault, is) = ended (Fails fault) passes fits is
  cause_of LongCertificate (passes, fits, is) = ended Overlong passes fits is
  cause_of Usage says = absurd says
  cause_of NotRead says = absurd says
  cause_of NotWritten says = absurd says
  cause_of Memory says = absurd says

  first_fits : ProgramFits files command → IsLong files PROGRAM_LIMIT (program_file_of command) → ⊥
  first_fits = fits_or_long files PROGRAM_LIMIT (program_file_of command)

  second_fits : SecondFits files command → SecondIsLong files command → ⊥
  second_fits fits (inl long) =
      fits_or_long files SCHEDULE_LIMIT (schedule_file_of command) fits.0 long
  second_fits fits (inr long) =
      fits_or_long files CERTIFICATE_LIMIT (certificate_file_of command) fits.1 long

  passes_or_refused : ProgramPasses files command → ProgramIsRefused files command → ⊥
  passes_or_refused passes it =
      never_both (default_of command) (phases_of command) (program_of files command)
      passes.no_breach it.breaches

  one_cause : (a b : Exit) → Cause files command a → Cause files command b → a ≡ b
  one_cause _ _ (refused it) (refused _) = refl
  one_cause _ _ (refused it) (first_long long) = absurd (first_fits it.short long)
  one_cause _ _ (refused it) (second_long passes _) = absurd (passes_or_refused passes it)
  one_cause _ _ (refused it) (bad passes _ _) = absurd (passes_or_refused passes it)
  one_cause _ _ (refused it) (ended _ passes _ _) = absurd (passes_or_refused passes it)
  one_cause _ _ (first_long long) (refused it) = absurd (first_fits it.short long)
  one_cause _ _ (first_long _) (first_long _) = refl
  one_cause _ _ (first_long _) (second_long _ _) = refl
  one_cause _ _ (first_long long) (bad passes _ _) = absurd (first_fits passes.short long)
  one_cause _ _ (first_long long) (ended _ passes _ _) =
      absurd (first_fits passes.short long)
  one_cause _ _ (second_long passes _) (refused it) = absurd (passes_or_refused passes it)
  one_cause _ _ (second_long _ _) (first_long _) = refl
  one_cause _ _ (second_long _ _) (second_long _ _) = refl
  one_cause _ _ (second_long _ long) (bad _ fits _) =
      absurd (second_fits fits long)
  one_cause _ _ (second_long _ long) (ended _ _ fits _) =
      absurd (second_fits fits long)
  one_cause _ _ (bad passes _ _) (refused it) = absurd (passes_or_refused passes it)
  one_cause _ _ (bad passes _ _) (first_long long) = absurd (first_fits passes.short long)
  one_cause _ _ (bad _ fits _) (second_long _ long) =
      absurd (second_fits fits long)
  one_cause _ _ (bad _ _ _) (bad _ _ _) = refl
  one_cause _ _ (bad _ _ is_bad) (ended end _ _ is) =
      absurd (ends_or_bad files command end is is_bad)
  one_cause _ _ (ended _ passes _ _) (refused it) = absurd (passes_or_refused passes it)
  one_cause _ _ (ended _ passes _ _) (first_long long) =
      absurd (first_fits passes.short long)
  one_cause _ _ (ended _ _ fits _) (second_long _ long) =
      absurd (second_fits fits long)
  one_cause _ _ (ended end _ _ is) (bad _ _ is_bad) =
      absurd (ends_or_bad files command end is is_bad)
  one_cause _ _ (ended a _ _ is_a) (ended b _ _ is_b) =
      ap exit_of (one_ending files command a b is_a is_b)

  one_exit_of : (a b : Exit) → ExitSaysOf files command a → ExitSaysOf files command b → a ≡ b
  one_exit_of a b says_a says_b = one_cause a b (cause_of a says_a) (cause_of b says_b)

pub one_exit : (files : List ℕ → List ℕ) (command : Option Command) (a b : Exit)
    → ExitSays files command a → ExitSays files command b → a ≡ b
one_exit files None a b is_a is_b = is_a ∙ sym is_b
one_exit files (Some command) a b says_a says_b = one_exit_of files command a b says_a says_b

-- a program that is refused and within the limit has that exit
pub says_breached : (files : List ℕ → List ℕ) (command : Command) (exit : Exit)
    → ExitSays files (Some command) exit → ProgramFits files command
    → Refuses (default_of command) (phases_of command) (program_of files command)
    → exit ≡ Breached
says_breached files command exit says short found =
    one_exit_of files command exit Breached says (record { short = short; breaches = found })

-- a program that `check` accepts, within the limit, has that exit
pub says_accepted : (files : List ℕ → List ℕ) (rule : AsyncDefault) (file : List ℕ) (exit : Exit)
    → ExitSays files (Some (OnFile rule file Check)) exit → length (files file) ≤ PROGRAM_LIMIT
    → Accepts rule (files file) → exit ≡ Done
says_accepted files rule file exit says short accepts =
    one_exit_of files (OnFile rule file Check) exit Done says
    (record { short = short; no_breach = accepts }, (tt, tt), refl)
