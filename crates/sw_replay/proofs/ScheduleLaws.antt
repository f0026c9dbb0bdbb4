-- The laws of schedule texts, and what a call's answer says.
use Rattle.std.proofs.Common.{◌≡◌, ◌≢◌, ℕ, ◌+◌, ◌^◌, ◌<◌, ◌≤◌, zero, suc, List, [], ◌∷◌, ◌++◌}
use Rattle.std.proofs.Common.{length, replicate, Result, Ok, Err, refl, sym, ap}
use Rattle.std.proofs.Common.{◌∙◌, arith, length-append}
use Rattle.std.proofs.lemmas.List.{length-replicate, append-nil, append_assoc}
use Rattle.std.specs.List.{All}
use Rattle.std.specs.Result.{IfOk, IfErr}
use Rattle.std.proofs.lemmas.List.Elements.{All-nil, All-cons}
use Rattle.sw_scan.specs.Scan.{Splits, Scans}
use Rattle.sw_scan.specs.Scan as scans
use Rattle.sw_scan.proofs.ScanLaws as laws
use Rattle.sw_scan.proofs.Positions.{IsRefusedIn, Fails-refused}
use Rattle.sw_replay.specs.declared.items.TheConstants.{MAX_ITEMS}
use Rattle.sw_replay.specs.declared.text.SchedFault.{SchedFault}
use Rattle.sw_replay.specs.declared.text.SchedFault.TheVariants.{Memory}
use Rattle.sw_replay.specs.Items.{IsItems, IsFirstFault, HasItems, IsItemFault, IsJobRun, star}
use Rattle.sw_replay.specs.Items.{job_of}
use Rattle.sw_replay.specs.Items.{count_of, schedule_form, written_out, position_of}
use Rattle.sw_replay.specs.Items as items
use Rattle.sw_replay.specs.Reading.{runs_or_fault, written, items_or_fault, Schedules}
use Rattle.sw_replay.proofs.RunSteps.{once_is, often_is}
use Rattle.sw_replay.proofs.ScheduleSteps.{agrees}

runs_or_fault-Splits : (bytes : List ℕ) (runs : List (ℕ × ℕ)) → Splits schedule_form 0 0 bytes runs
    → runs_or_fault bytes ≡ Ok runs
unfolding runs_or_fault
runs_or_fault-Splits bytes runs h = laws.scan-Splits agrees 0 0 bytes runs h

runs_or_fault-Scans : (bytes : List ℕ) → Scans schedule_form 0 0 bytes (runs_or_fault bytes)
unfolding runs_or_fault
runs_or_fault-Scans bytes = laws.scan_holds agrees 0 0 bytes tt

pub items_or_fault-IsItems : (bytes items : List ℕ) → IsItems bytes items
    → items_or_fault bytes ≡ Ok items
unfolding items_or_fault
items_or_fault-IsItems bytes items h =
    ap written (runs_or_fault-Splits bytes h.runs h.splits) ∙ ap Ok (sym h.written)

has_written : (bytes : List ℕ) (outcome : Result (List (ℕ × ℕ)) SchedFault)
    → Scans schedule_form 0 0 bytes outcome → HasItems bytes (written outcome)
has_written bytes (Ok runs) h = record { runs = runs; splits = h; written = refl }
has_written bytes (Err fault) h = h

-- every text has items or a first fault: what `items_or_fault` gives
pub items_or_fault-HasItems : (bytes : List ℕ) → HasItems bytes (items_or_fault bytes)
unfolding items_or_fault
items_or_fault-HasItems bytes =
    has_written bytes (runs_or_fault bytes) (runs_or_fault-Scans bytes)

pub one_list : (bytes a b : List ℕ) → IsItems bytes a → IsItems bytes b → a ≡ b
one_list bytes a b h k =
    let one = items_or_fault-IsItems bytes a h in
    let other = items_or_fault-IsItems bytes b k in
    cc

pub one_fault : (bytes : List ℕ) (a b : SchedFault) → IsFirstFault bytes a → IsFirstFault bytes b
    → a ≡ b
one_fault bytes a b h k = laws.one_fault agrees 0 0 bytes a b h k

pub never_both : (bytes items : List ℕ) (fault : SchedFault) → IsItems bytes items
    → IsFirstFault bytes fault → ⊥
never_both bytes items fault h k = laws.never_both agrees 0 0 bytes h.runs fault h.splits k

-- a first fault is inside the text

fault_inside : (at before : ℕ) (bytes : List ℕ) (fault : SchedFault)
    → IsItemFault at before bytes fault → position_of fault ≤ at + length bytes
fault_inside at before _ _ (items.bad_start byte after blank digit) = omega arith
fault_inside at before _ _ (items.big_job job after is big) = omega arith
fault_inside at before _ _ (items.bad_after_job job byte after is blank other) =
    omega (arith, length-append job (byte ∷ after))
fault_inside at before _ _ (items.no_count job after is none) =
    omega (arith, length-append job (star ∷ after))
fault_inside at before _ _ (items.big_count job count after is counts big) =
    omega (arith, length-append job (star ∷ (count ++ after)))
fault_inside at before _ _ (items.bad_after_count job count byte after is counts blank) =
    omega (
      arith,
      length-append job (star ∷ (count ++ byte ∷ after)),
      length-append count (byte ∷ after),
    )
fault_inside at before _ _ (items.too_many text after is full) = omega arith

pub IsFirstFault-inside : (bytes : List ℕ) (fault : SchedFault) → IsFirstFault bytes fault
    → position_of fault ≤ length bytes
IsFirstFault-inside bytes fault h =
    let is : IsRefusedIn schedule_form bytes fault =
    Fails-refused schedule_form [] 0 0 bytes fault h refl in
    let inside = fault_inside (length is.prefix) is.before is.rest fault is.is_refused in
    omega (arith, inside, length-append is.prefix is.rest, ap length is.whole_is)

-- items have 32 bits and are few

All-replicate : (P : ℕ → Type 0) (count job : ℕ) (more : List ℕ) → P job → All P more
    → All P (replicate count job ++ more)
All-replicate P zero job more is rest = rest
All-replicate P (suc count) job more is rest =
    All-cons P job (replicate count job ++ more) is (All-replicate P count job more is rest)

run_fits : (text after : List ℕ) → IsJobRun text after → job_of text < 2 ^ 32
run_fits _ _ (items.once job after is apart) =
    rw (once_is job after is.is_number).0 is.fits
run_fits _ _ (items.often job count after is counts apart) =
    rw (often_is job count after is.is_number).0 is.fits

Splits-fit : (at before : ℕ) (bytes : List ℕ) (runs : List (ℕ × ℕ))
    → Splits schedule_form at before bytes runs → All (λ n. n < 2 ^ 32) (written_out runs)
Splits-fit _ _ _ _ (scans.nothing at before) = All-nil (λ n. n < 2 ^ 32)
Splits-fit _ _ _ _ (scans.piece at before p after runs is rest) = Splits-fit _ _ _ _ rest
Splits-fit _ _ _ _ (scans.item at before text after runs is rest) =
    All-replicate (λ n. n < 2 ^ 32) (count_of text) (job_of text) (written_out runs)
    (run_fits text after is.is_run) (Splits-fit _ _ _ _ rest)

pub IsItems-fit : (bytes items : List ℕ) → IsItems bytes items → All (λ n. n < 2 ^ 32) items
IsItems-fit bytes items h = rw h.written (Splits-fit 0 0 bytes h.runs h.splits)

Splits-few : (at before : ℕ) (bytes : List ℕ) (runs : List (ℕ × ℕ))
    → Splits schedule_form at before bytes runs
    → before ≤ MAX_ITEMS → before + length (written_out runs) ≤ MAX_ITEMS
Splits-few _ _ _ _ (scans.nothing at before) few = omega arith
Splits-few _ _ _ _ (scans.piece at before p after runs is rest) few = Splits-few _ _ _ _ rest few
Splits-few _ _ _ _ (scans.item at before text after runs is rest) few =
    let more = Splits-few _ _ _ _ rest is.few in
    omega (
      arith,
      more,
      length-append (replicate (count_of text) (job_of text)) (written_out runs),
      length-replicate (count_of text) (job_of text),
    )

pub IsItems-few : (bytes items : List ℕ) → IsItems bytes items → length items ≤ MAX_ITEMS
IsItems-few bytes items h =
    let few = Splits-few 0 0 bytes h.runs h.splits (omega arith) in
    rw h.written (omega (arith, few))

-- one run more
written_out-append : (runs : List (ℕ × ℕ)) (run : ℕ × ℕ)
    → written_out (runs ++ run ∷ []) ≡ written_out runs ++ replicate run.1 run.0
written_out-append [] run = append-nil (replicate run.1 run.0)
written_out-append (first ∷ runs) run =
    ap (λ rest. replicate first.1 first.0 ++ rest) (written_out-append runs run)
    ∙ sym (append_assoc (replicate first.1 first.0) (written_out runs) (replicate run.1 run.0))

pub written_out-push : (runs : List (ℕ × ℕ)) (job count : ℕ)
    → length (written_out (runs ++ (job, count) ∷ [])) ≡ length (written_out runs) + count
written_out-push runs job count =
    omega (
      arith,
      ap length (written_out-append runs (job, count)),
      length-append (written_out runs) (replicate count job),
      length-replicate count job,
    )

-- what a call answered

pub IsItems-scheduled : (bytes : List ℕ) (answer : Result (List ℕ) SchedFault)
    → Schedules (items_or_fault bytes) answer → IfOk answer (IsItems bytes)
IsItems-scheduled bytes (Ok numbers) e = rw e at (items_or_fault-HasItems bytes)
IsItems-scheduled bytes (Err fault) e = tt

pub IsFirstFault-scheduled : (bytes : List ℕ) (answer : Result (List ℕ) SchedFault)
    → Schedules (items_or_fault bytes) answer
    → IfErr answer (λ fault. fault ≢ Memory → IsFirstFault bytes fault)
IsFirstFault-scheduled bytes (Ok numbers) e = tt
IsFirstFault-scheduled bytes (Err fault) e =
    λ other. (let is = e other in rw is at (items_or_fault-HasItems bytes))
