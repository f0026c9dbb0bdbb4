-- How a part has ended.
use Rattle.std.proofs.Common.{◌<◌, ◌≤◌, ℕ, List, length, Result, Ok, Err, subst}
use Rattle.sw_check_parts.specs.declared.outcome.Outcome.{Outcome}
use Rattle.sw_check_parts.specs.Course.{Read, AreOf, Ended, Part, Alone, decided, Fetched, within, above}
use Rattle.sw_check_parts.specs.Course.{too_long_file, Then, refused, goes_on}
use Rattle.sw_check_parts.specs.Lawful.{RefusesBy}

-- a part that fetches a file, and then another: the file is too long, or the other ended
pub data EndsAfterFetch {B : Type 0} (files : List ℕ → List ℕ) (name : List ℕ) (limit : ℕ)
    (second : List ℕ → Part B) : Result B Outcome → Type 0 where
  too_long : limit < length (files name)
      → EndsAfterFetch files name limit second (Err too_long_file)
  fetched : (others : List Read) (result : Result B Outcome) → length (files name) ≤ limit
      → AreOf files others
      → second (files name) others (Ended result) → EndsAfterFetch files name limit second result

pub after_fetch : {B : Type 0} (files : List ℕ → List ℕ) (name : List ℕ) (limit : ℕ)
    (second : List ℕ → Part B) (reads : List Read) (result : Result B Outcome) → AreOf files reads
    → Then (Fetched name limit) second reads (Ended result)
    → EndsAfterFetch files name limit second result
after_fetch files name limit second _ _ of_files (refused _ _ (above text long)) =
    too_long (subst (λ text. limit < length text) of_files.0 long)
after_fetch files name limit second _ result of_files
    (goes_on _ others _ _ (within text short) ended) =
    fetched others result (subst (λ text. length text ≤ limit) of_files.0 short) of_files.1
    (subst (λ text. second text others (Ended result)) of_files.0 ended)

-- a part that reads no file, and then another: the first refused, or the other ended
pub data EndsAfterRule {A B : Type 0} (Rule : Result A Outcome → Type 0) (second : A → Part B)
    (reads : List Read) : Result B Outcome → Type 0 where
  refuses : (outcome : Outcome) → Rule (Err outcome) → EndsAfterRule Rule second reads (Err outcome)
  gives : (value : A) (result : Result B Outcome) → Rule (Ok value)
      → second value reads (Ended result)
      → EndsAfterRule Rule second reads result

pub after_rule : {A B : Type 0} (Rule : Result A Outcome → Type 0) (second : A → Part B)
    (reads : List Read) (result : Result B Outcome) → Then (Alone Rule) second reads (Ended result)
    → EndsAfterRule Rule second reads result
after_rule Rule second _ _ (refused _ outcome (decided _ rule)) = refuses outcome rule
after_rule Rule second _ result (goes_on _ others _ _ (decided (Ok value) rule) ended) =
    gives value result rule ended

-- what a part gave that fetches a file, or reads none
pub within_limit : (name : List ℕ) (limit : ℕ) (reads : List Read) (text : List ℕ)
    → Fetched name limit reads (Ended (Ok text)) → length text ≤ limit
within_limit name limit _ _ (within text short) = short

pub by_rule : {A : Type 0} (Rule : Result A Outcome → Type 0) (reads : List Read)
    (result : Result A Outcome) → Alone Rule reads (Ended result) → Rule result
by_rule Rule _ _ (decided result rule) = rule

-- each reply that the part gives at its end is so
abbrev pub EndsBy : (Outcome → Type 0) → Part Outcome → Type 0
EndsBy Q part = (reads : List Read) (outcome : Outcome) → part reads (Ended (Ok outcome))
    → Q outcome

module _ (Q : Outcome → Type 0) where
  pub refuses_alone : {A : Type 0} (Rule : Result A Outcome → Type 0)
      → ((outcome : Outcome) → Rule (Err outcome) → Q outcome) → RefusesBy Q (Alone Rule)
  refuses_alone Rule each _ _ (decided (Err outcome) is) = each outcome is

  pub refuses_fetched : (name : List ℕ) (limit : ℕ) → Q too_long_file
      → RefusesBy Q (Fetched name limit)
  refuses_fetched name limit long _ _ (above text _) = long

  pub refuses_then : {A B : Type 0} (first : Part A) (second : A → Part B) → RefusesBy Q first
      → ((value : A) → RefusesBy Q (second value)) → RefusesBy Q (Then first second)
  refuses_then first second one next _ _ (refused reads outcome is) = one reads outcome is
  refuses_then first second one next _ outcome (goes_on reads others value _ gave is) =
      next value others outcome is

  pub ends_alone : (Rule : Result Outcome Outcome → Type 0)
      → ((outcome : Outcome) → Rule (Ok outcome) → Q outcome) → EndsBy Q (Alone Rule)
  ends_alone Rule each _ _ (decided (Ok outcome) is) = each outcome is

  pub ends_then : {A : Type 0} (first : Part A) (second : A → Part Outcome)
      → ((reads : List Read) (value : A) → first reads (Ended (Ok value)) → EndsBy Q (second value))
      → EndsBy Q (Then first second)
  ends_then first second next _ outcome (goes_on reads others value _ gave is) =
      next reads value gave others outcome is
