-- The run that bytes begin with: what the definitions say is found.
use Rattle.std.proofs.Common.{◌≡◌, ◌≢◌, ℕ, ◌+◌, ◌^◌, ◌≤◌, true, false, eqb, List, [], ◌∷◌, ◌++◌}
use Rattle.std.proofs.Common.{length, Ok, Err, refl, ◌∙◌, arith}
use Rattle.std.specs.Bool.{IsFalse}
use Rattle.std.proofs.lemmas.Bool.Decides.{nat_tests}
use Rattle.std.proofs.lemmas.List.{append-nil, drop_at, take_at, drop_all, take_all}
use Rattle.sw_scan.specs.Classes.{is_blank, is_digit}
use Rattle.sw_scan.specs.Decimal.{number_of}
use Rattle.sw_scan.specs.Prefixes.{BeginsWithout}
use Rattle.sw_replay.specs.declared.runs.Number.{Number}
use Rattle.sw_replay.specs.declared.runs.Run.{Run}
use Rattle.sw_replay.specs.declared.text.SchedFault.TheVariants.{BadItem, TooBig}
use Rattle.sw_replay.specs.Items.{BeginsApart, IsNumber, IsFitting, star, job_of, count_of}
use Rattle.sw_replay.specs.Reading.{number_at, counted, ending, run_past, run_at}
use Rattle.sw_replay.proofs.NumberSteps.{number_len, fitting_number, big_number, no_number}

-- the number of these digits
abbrev pub number : List ℕ → Number
number digits = record { value = number_of digits; len = length digits }

-- the run of a job that stands in the list once, and as often as a count says
abbrev pub once : List ℕ → Run
once job = record { job = number_of job; count = 1; len = length job }

abbrev pub often : List ℕ → List ℕ → Run
often job count =
    record { job = number_of job; count = number_of count; len = length job + 1 + length count }

past_job : (at : ℕ) (job after : List ℕ) → IsFitting job after
    → run_at at (job ++ after) ≡ run_past (at + length job) after (number job)
unfolding run_at
past_job at job after is =
    rw (fitting_number at job after is, drop_at job after (length job) refl) refl

blank_is_no_star : (byte : ℕ) → is_blank byte ≡ true → eqb byte star ≡ false
unfolding is_blank
blank_is_no_star byte is = grind (arith, nat_tests)

pub run_once : (at : ℕ) (job after : List ℕ) → IsFitting job after → BeginsApart after
    → run_at at (job ++ after) ≡ Ok (once job)
unfolding run_past
run_once at job [] is apart = past_job at job [] is
run_once at job (byte ∷ more) is apart =
    past_job at job (byte ∷ more) is ∙ rw (blank_is_no_star byte apart, apart) refl

pub run_bad : (at : ℕ) (job : List ℕ) (byte : ℕ) (after : List ℕ) → IsFitting job (byte ∷ after)
    → IsFalse (is_blank byte) → byte ≢ star
    → run_at at (job ++ byte ∷ after) ≡ Err (BadItem (at + length job))
unfolding run_past
run_bad at job byte after is blank other =
    let no : eqb byte star ≡ false = grind (arith, nat_tests) in
    past_job at job (byte ∷ after) is ∙ rw (no, blank) refl

past_star : (at : ℕ) (job after : List ℕ) → IsFitting job (star ∷ after)
    → run_at at (job ++ star ∷ after)
    ≡ counted (at + length job + 1) after (number job) (number_at (at + length job + 1) after)
unfolding run_past
past_star at job after is = past_job at job (star ∷ after) is

pub run_often : (at : ℕ) (job count after : List ℕ) → IsFitting job (star ∷ (count ++ after))
    → IsFitting count after → BeginsApart after
    → run_at at (job ++ star ∷ (count ++ after)) ≡ Ok (often job count)
run_often at job count after is counts apart =
    past_star at job (count ++ after) is
    ∙ rw (
      fitting_number (at + length job + 1) count after counts,
      drop_at count after (length count) refl,
    ) (ends after apart) where
      ends : (after : List ℕ) → BeginsApart after
          → ending (at + length job + 1 + length count) after (often job count)
          ≡ Ok (often job count)
      ends [] apart = refl
      ends (byte ∷ more) apart = rw apart refl

pub run_uncounted : (at : ℕ) (job after : List ℕ) → IsFitting job (star ∷ after)
    → BeginsWithout is_digit after
    → run_at at (job ++ star ∷ after) ≡ Err (BadItem (at + length job + 1))
run_uncounted at job after is none =
    past_star at job after is ∙ rw (no_number (at + length job + 1) after none) refl

pub run_big_count : (at : ℕ) (job count after : List ℕ) → IsFitting job (star ∷ (count ++ after))
    → IsNumber count after → 2 ^ 32 ≤ number_of count
    → run_at at (job ++ star ∷ (count ++ after)) ≡ Err (TooBig (at + length job + 1))
run_big_count at job count after is counts big =
    past_star at job (count ++ after) is
    ∙ rw (big_number (at + length job + 1) count after counts big) refl

pub run_bad_count : (at : ℕ) (job count : List ℕ) (byte : ℕ) (after : List ℕ)
    → IsFitting job (star ∷ (count ++ byte ∷ after)) → IsFitting count (byte ∷ after)
    → IsFalse (is_blank byte)
    → run_at at (job ++ star ∷ (count ++ byte ∷ after))
    ≡ Err (BadItem (at + length job + 1 + length count))
run_bad_count at job count byte after is counts blank =
    past_star at job (count ++ byte ∷ after) is
    ∙ rw (
      fitting_number (at + length job + 1) count (byte ∷ after) counts,
      drop_at count (byte ∷ after) (length count) refl,
      blank,
    ) refl

pub run_big : (at : ℕ) (job after : List ℕ) → IsNumber job after → 2 ^ 32 ≤ number_of job
    → run_at at (job ++ after) ≡ Err (TooBig at)
unfolding run_at
run_big at job after is big = rw (big_number at job after is big) refl

-- the job and the count of a run's text

no_more : (job after : List ℕ) → IsNumber job after → IsNumber job []
no_more job after is = record { digits_alone = is.digits_alone; some = is.some; whole = tt }

pub once_is : (job after : List ℕ) → IsNumber job after
    → (job_of job ≡ number_of job) × (count_of job ≡ 1)
once_is job after is =
    let len = rw append-nil at (number_len job [] (no_more job after is)) in (
      rw (len, take_all (length job) job (omega arith)) refl,
      rw (len, drop_all (length job) job (omega arith)) refl,
    )

pub often_is : (job count after : List ℕ) → IsNumber job (star ∷ (count ++ after))
    → (job_of (job ++ star ∷ count) ≡ number_of job)
    × (count_of (job ++ star ∷ count) ≡ number_of count)
often_is job count after is =
    let alone : IsNumber job (star ∷ count) =
    record { digits_alone = is.digits_alone; some = is.some; whole = is.whole } in
    let len = number_len job (star ∷ count) alone in (
      rw (len, take_at job (star ∷ count) (length job) refl) refl,
      rw (len, drop_at job (star ∷ count) (length job) refl) refl,
    )
