-- The items of a schedule text as a function: what `schedule` answers unless memory runs out. Laws
-- say that it finds what the definitions of `Items` say, and all of it.
use Rattle.std.specs.Prelude.{◌≡◌, ◌≢◌, ℕ, ◌+◌, ◌==◌, ◌^◌, nat_lt, if◌then◌else◌, List, [], ◌∷◌}
use Rattle.std.specs.Prelude.{take, drop, Option, Some, None, Result, Ok, Err}
use Rattle.std.specs.List.{prefix_len}
use Rattle.sw_scan.specs.Classes.{is_blank, is_digit}
use Rattle.sw_scan.specs.Decimal.{number_of}
use Rattle.sw_scan.specs.declared.Step.{Step}
use Rattle.sw_scan.specs.declared.Step.TheVariants.{End, Skip, Take}
use Rattle.sw_scan.specs.Reading.{StepOf, scan}
use Rattle.sw_replay.specs.declared.items.TheConstants.{MAX_ITEMS}
use Rattle.sw_replay.specs.declared.text.SchedFault.{SchedFault}
use Rattle.sw_replay.specs.declared.text.SchedFault.TheVariants.{BadItem, TooBig, TooMany, Memory}
use Rattle.sw_replay.specs.Items.{schedule_form, star, written_out}
use Rattle.sw_replay.specs.declared.runs.Run.{Run}
use Rattle.sw_replay.specs.declared.runs.Number.{Number}
use Rattle.sw_replay.specs.declared.text.Found.{Found}
use Rattle.sw_replay.specs.declared.text.Found.TheVariants as found

-- a number, if it has 32 bits
abbrev pub fitting : ℕ → Option ℕ
fitting n = if nat_lt n (2 ^ 32) then Some n else None

-- the number of this many digits at the offset `at`, if it fits
abbrev pub number_by : ℕ → ℕ → Option ℕ → Result Number SchedFault
number_by at len None = Err (TooBig at)
number_by at len (Some value) = Ok (record { value = value; len = len })

-- the number that the bytes at the offset `at` begin with
unfoldable pub number_at : ℕ → List ℕ → Result Number SchedFault
number_at at bytes =
    let len = prefix_len is_digit bytes in
    if len == 0 then Err (BadItem at) else number_by at len (fitting (number_of (take len bytes)))

-- the run, where its text ends at the offset `at`, before these bytes
abbrev pub ending : ℕ → List ℕ → Run → Result Run SchedFault
ending at [] run = Ok run
ending at (byte ∷ _) run = if is_blank byte then Ok run else Err (BadItem at)

-- the run of a job and of the count that was found after the star, where the bytes follow the star
-- at the offset `at`
abbrev pub counted : ℕ → List ℕ → Number → Result Number SchedFault → Result Run SchedFault
counted at bytes job (Err fault) = Err fault
counted at bytes job (Ok count) = ending (at + count.len) (drop count.len bytes)
    (record { job = job.value; count = count.value; len = job.len + 1 + count.len })

-- the run of a job, where the bytes follow it at the offset `at`
unfoldable pub run_past : ℕ → List ℕ → Number → Result Run SchedFault
run_past at [] job = Ok (record { job = job.value; count = 1; len = job.len })
run_past at (byte ∷ more) job =
    if byte == star then counted (at + 1) more job (number_at (at + 1) more)
    else ending at (byte ∷ more) (record { job = job.value; count = 1; len = job.len })

abbrev pub run_by : ℕ → List ℕ → Result Number SchedFault → Result Run SchedFault
run_by at bytes (Err fault) = Err fault
run_by at bytes (Ok job) = run_past (at + job.len) (drop job.len bytes) job

-- the run that the bytes at the offset `at` begin with
unfoldable pub run_at : ℕ → List ℕ → Result Run SchedFault
run_at at bytes = run_by at bytes (number_at at bytes)

-- the run, where there is room for it after `before` items
abbrev pub roomed : ℕ → ℕ → Result Run SchedFault → Result Found SchedFault
roomed at before (Err fault) = Err fault
roomed at before (Ok run) =
    if nat_lt MAX_ITEMS (before + run.count) then Err (TooMany at) else Ok (found.Run run)

-- what the bytes, which stand at the offset `at`, begin with after `before` items
unfoldable pub found_at : ℕ → ℕ → List ℕ → Result Found SchedFault
found_at at before [] = Ok found.End
found_at at before (byte ∷ more) =
    if is_blank byte then Ok found.Separator else roomed at before (run_at at (byte ∷ more))

abbrev pub step_to : Found → Step
step_to found.End = End
step_to found.Separator = Skip 1
step_to (found.Run run) = Take run.len

abbrev pub stepped : Result Found SchedFault → Result Step SchedFault
stepped (Err fault) = Err fault
stepped (Ok there) = Ok (step_to there)

-- the same as a step of a scan
unfoldable pub step : StepOf ℕ SchedFault
step at before bytes = stepped (found_at at before bytes)

-- the runs of a text, or its first fault
unfoldable pub runs_or_fault : List ℕ → Result (List (ℕ × ℕ)) SchedFault
runs_or_fault bytes = scan schedule_form step 0 0 bytes

abbrev pub written : Result (List (ℕ × ℕ)) SchedFault → Result (List ℕ) SchedFault
written (Ok runs) = Ok (written_out runs)
written (Err fault) = Err fault

-- the items of a text, or its first fault
unfoldable pub items_or_fault : List ℕ → Result (List ℕ) SchedFault
items_or_fault bytes = written (runs_or_fault bytes)

-- A call answered this outcome, unless memory ran out.
abbrev pub Schedules : Result (List ℕ) SchedFault → Result (List ℕ) SchedFault → Type 0
Schedules outcome (Ok items) = outcome ≡ Ok items
Schedules outcome (Err fault) = fault ≢ Memory → outcome ≡ Err fault
