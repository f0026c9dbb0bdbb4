-- How a part has ended that begins with the items of a schedule.
use Rattle.std.proofs.Common.{◌≡◌, ℕ, ◌<◌, ◌≤◌, List, length, Result, Ok, Err, refl, subst}
use Rattle.sw_replay.specs.declared.text.TheConstants.{SCHEDULE_LIMIT}
use Rattle.sw_replay.specs.declared.text.SchedFault.{SchedFault}
use Rattle.sw_replay.specs.Items.{IsItems, IsFirstFault}
use Rattle.sw_check_parts.specs.declared.outcome.Outcome.{Outcome}
use Rattle.sw_check_parts.specs.Course.{Read, AreOf, Ended, Part, Alone, Then, refused, goes_on}
use Rattle.sw_check_parts.specs.Course.{too_long_file}
use Rattle.sw_check_parts.proofs.Inversions.{EndsAfterFetch, too_long, fetched, after_fetch, by_rule}
use Rattle.sw_check_parts.proofs.ReadLemmas.{AreOf-prefix}
use Rattle.sw_check.specs.Reply.{Scheduled, bad_schedule_outcome, has_fault, has_items, items_in}

-- how a part ends that begins with a schedule
pub data EndsAfterItems (files : List ℕ → List ℕ) (file : List ℕ) (second : List ℕ → Part Outcome)
    : Result Outcome Outcome → Type 0 where
  long_schedule : SCHEDULE_LIMIT < length (files file)
      → EndsAfterItems files file second (Err too_long_file)
  bad_schedule : length (files file) ≤ SCHEDULE_LIMIT → (fault : SchedFault)
      → IsFirstFault (files file) fault
      → EndsAfterItems files file second (Err (bad_schedule_outcome (files file) fault))
  has_schedule : (others : List Read) (result : Result Outcome Outcome) (items : List ℕ)
      → length (files file) ≤ SCHEDULE_LIMIT → IsItems (files file) items
      → second items others (Ended result) → EndsAfterItems files file second result

module _ (files : List ℕ → List ℕ) (file : List ℕ) (second : List ℕ → Part Outcome) where
  items_refused : (result : Result (List ℕ) Outcome) (outcome : Outcome)
      → EndsAfterFetch files file SCHEDULE_LIMIT (λ schedule. Alone (Scheduled schedule)) result
      → result ≡ Err outcome → EndsAfterItems files file second (Err outcome)
  items_refused _ outcome (too_long long) e =
      subst (λ outcome. EndsAfterItems files file second (Err outcome)) (cc e) (long_schedule long)
  items_refused _ outcome (fetched others result short of_files ended) e =
      by result (by_rule (Scheduled (files file)) others result ended) e where
        by : (result : Result (List ℕ) Outcome) → Scheduled (files file) result
            → result ≡ Err outcome → EndsAfterItems files file second (Err outcome)
        by _ (has_items items are) e = cc
        by _ (has_fault fault is) e =
            subst (λ outcome. EndsAfterItems files file second (Err outcome)) (cc e)
            (bad_schedule short fault is)

  items_given : (result : Result (List ℕ) Outcome) (items : List ℕ)
      → EndsAfterFetch files file SCHEDULE_LIMIT (λ schedule. Alone (Scheduled schedule)) result
      → result ≡ Ok items → (length (files file) ≤ SCHEDULE_LIMIT) × IsItems (files file) items
  items_given _ items (too_long long) e = cc
  items_given _ items (fetched others result short of_files ended) e =
      (short, by result (by_rule (Scheduled (files file)) others result ended) e) where
        by : (result : Result (List ℕ) Outcome) → Scheduled (files file) result
            → result ≡ Ok items → IsItems (files file) items
        by _ (has_items others are) e = subst (IsItems (files file)) (cc e) are
        by _ (has_fault fault is) e = cc

  pub after_items : (reads : List Read) (result : Result Outcome Outcome) → AreOf files reads
      → Then (items_in file) second reads (Ended result)
      → EndsAfterItems files file second result
  after_items _ _ of_files (refused reads outcome first) =
      items_refused (Err outcome) outcome
      (after_fetch files file SCHEDULE_LIMIT (λ schedule. Alone (Scheduled schedule)) reads
      (Err outcome) of_files first) refl
  after_items _ result of_files (goes_on reads others items _ first rest) =
      let (short, are) = items_given (Ok items) items
      (after_fetch files file SCHEDULE_LIMIT (λ schedule. Alone (Scheduled schedule)) reads
      (Ok items) (AreOf-prefix files reads others of_files) first) refl in
      has_schedule others result items short are rest
