-- The steps of a scan find what the definitions of schedule texts say: so the laws of scans hold of
-- schedule texts.
use Rattle.std.proofs.Common.{◌≡◌, ◌≢◌, ℕ, ◌+◌, ◌<◌, Bool, true, false, eqb, ltb, List, [], ◌∷◌}
use Rattle.std.proofs.Common.{◌++◌, length, take, drop, Result, Ok, Err, refl, sym, ap, subst, ◌∙◌}
use Rattle.std.proofs.Common.{arith, length-append}
use Rattle.std.proofs.lemmas.Bool.Decides.{nat_tests}
use Rattle.std.proofs.lemmas.List.{append_assoc, take_at, drop_at, take-append-drop}
use Rattle.sw_scan.specs.Classes.{is_blank, is_digit}
use Rattle.sw_scan.specs.declared.Step.TheVariants.{Skip, Take}
use Rattle.sw_scan.proofs.Agreement.{StepHolds, Agrees, IsAny}
use Rattle.sw_replay.specs.declared.items.TheConstants.{MAX_ITEMS}
use Rattle.sw_replay.specs.declared.runs.Run.{Run}
use Rattle.sw_replay.specs.declared.text.SchedFault.{SchedFault}
use Rattle.sw_replay.specs.declared.text.SchedFault.TheVariants.{BadItem, TooBig, TooMany}
use Rattle.sw_replay.specs.declared.text.Found.{Found}
use Rattle.sw_replay.specs.declared.text.Found.TheVariants as found
use Rattle.sw_replay.specs.Items.{IsSeparator, BeginsApart, IsNumber, IsFitting, IsJobRun, IsItem}
use Rattle.sw_replay.specs.Items.{IsItemFault, star, job_of, count_of, schedule_form}
use Rattle.sw_replay.specs.Items as items
use Rattle.sw_replay.specs.Reading.{run_at, roomed, found_at, stepped, step}
use Rattle.sw_replay.proofs.NumberSteps.{number_begins, no_number, Begins, begins}
use Rattle.sw_replay.proofs.NumberSteps as numbers
use Rattle.sw_replay.proofs.RunSteps.{run_once, run_bad, run_often, run_uncounted, run_big_count}
use Rattle.sw_replay.proofs.RunSteps.{run_bad_count, run_big, once_is, often_is}

-- a run's text with its job, its count and its length
abbrev run_of : List ℕ → Run
run_of text = record { job = job_of text; count = count_of text; len = length text }

-- a run begins with no separator
run_begins : (text after : List ℕ) → IsJobRun text after
    → (b : ℕ) × (more : List ℕ) × (text ++ after ≡ b ∷ more) × (is_blank b ≡ false)
run_begins _ _ (items.once job after is apart) =
    let begin = number_begins job after is.is_number in
    (begin.0, begin.1 ++ after, ap (λ xs. xs ++ after) begin.2, begin.3)
run_begins _ _ (items.often job count after is counts apart) =
    let begin = number_begins job (star ∷ (count ++ after)) is.is_number in (
      begin.0,
      (begin.1 ++ star ∷ count) ++ after,
      ap (λ xs. (xs ++ star ∷ count) ++ after) begin.2,
      begin.3,
    )

run_found : (at : ℕ) (text after : List ℕ) → IsJobRun text after
    → run_at at (text ++ after) ≡ Ok (run_of text)
run_found at _ _ (items.once job after is apart) =
    let parts = once_is job after is.is_number in
    run_once at job after is apart ∙ rw (parts.0, parts.1) refl
run_found at _ _ (items.often job count after is counts apart) =
    let parts = often_is job count after is.is_number in
    let long : length (job ++ star ∷ count) ≡ length job + 1 + length count =
    omega (arith, length-append job (star ∷ count)) in
    ap (run_at at) (append_assoc job (star ∷ count) after)
    ∙ (run_often at job count after is counts apart ∙ rw (parts.0, parts.1, long) refl)

past_blanks : (at before : ℕ) (bytes : List ℕ) (b : ℕ) (more : List ℕ) → bytes ≡ b ∷ more
    → is_blank b ≡ false → step at before bytes ≡ stepped (roomed at before (run_at at bytes))
unfolding step found_at
past_blanks at before bytes b more e none = rw (e, none) refl

item_found : (at before : ℕ) (text after : List ℕ) → IsItem before text after
    → found_at at before (text ++ after) ≡ Ok (found.Run (run_of text))
unfolding found_at
item_found at before text after is =
    let room : ltb MAX_ITEMS (before + count_of text) ≡ false =
    grind (arith, nat_tests, is.few) in
    let begin = run_begins text after is.is_run in
    let there = rw begin.2 at (run_found at text after is.is_run) in
    rw (begin.2, begin.3, there, room) refl

-- what the form says is found

skips : (at before : ℕ) (piece after : List ℕ) → IsSeparator piece after
    → step at before (piece ++ after) ≡ Ok (Skip (length piece))
unfolding step found_at
skips at before _ _ (items.separator byte after is) = rw is refl

run_step : (at before : ℕ) (text after : List ℕ) → IsJobRun text after
    → step at before (text ++ after) ≡ stepped (roomed at before (Ok (run_of text)))
run_step at before text after is =
    let begin = run_begins text after is in
    past_blanks at before (text ++ after) begin.0 begin.1 begin.2 begin.3
    ∙ ap (λ o. stepped (roomed at before o)) (run_found at text after is)

takes : (at before : ℕ) (text after : List ℕ) → IsItem before text after
    → step at before (text ++ after) ≡ Ok (Take (length text))
takes at before text after is =
    let room : ltb MAX_ITEMS (before + count_of text) ≡ false =
    grind (arith, nat_tests, is.few) in
    run_step at before text after is.is_run ∙ rw room refl

-- a fault of a run that begins with a number
refused_by : (at before : ℕ) (job after : List ℕ) (fault : SchedFault) → IsNumber job after
    → run_at at (job ++ after) ≡ Err fault → step at before (job ++ after) ≡ Err fault
refused_by at before job after fault is e =
    let begin = number_begins job after is in
    past_blanks at before (job ++ after) begin.0 (begin.1 ++ after)
    (ap (λ xs. xs ++ after) begin.2) begin.3
    ∙ ap (λ o. stepped (roomed at before o)) e

bad_start_at : (at byte : ℕ) (after : List ℕ) → is_digit byte ≡ false
    → run_at at (byte ∷ after) ≡ Err (BadItem at)
unfolding run_at
bad_start_at at byte after none = rw (no_number at (byte ∷ after) none) refl

refuses : (at before : ℕ) (bytes : List ℕ) (fault : SchedFault) → IsItemFault at before bytes fault
    → step at before bytes ≡ Err fault
refuses at before _ _ (items.bad_start byte after blank digit) =
    past_blanks at before (byte ∷ after) byte after refl blank
    ∙ ap (λ o. stepped (roomed at before o)) (bad_start_at at byte after digit)
refuses at before _ _ (items.big_job job after is big) =
    refused_by at before job after _ is (run_big at job after is big)
refuses at before _ _ (items.bad_after_job job byte after is blank other) =
    refused_by at before job (byte ∷ after) _ is.is_number
    (run_bad at job byte after is blank other)
refuses at before _ _ (items.no_count job after is none) =
    refused_by at before job (star ∷ after) _ is.is_number (run_uncounted at job after is none)
refuses at before _ _ (items.big_count job count after is counts big) =
    refused_by at before job (star ∷ (count ++ after)) _ is.is_number
    (run_big_count at job count after is counts big)
refuses at before _ _ (items.bad_after_count job count byte after is counts blank) =
    refused_by at before job (star ∷ (count ++ byte ∷ after)) _ is.is_number
    (run_bad_count at job count byte after is counts blank)
refuses at before _ _ (items.too_many text after is full) =
    let room : ltb MAX_ITEMS (before + count_of text) ≡ true = grind (arith, nat_tests) in
    run_step at before text after is ∙ rw room refl

-- Bytes are empty, or begin with a separator, an item or a fault.
data Finds (at before : ℕ) (bytes : List ℕ) : Type 0 where
  nothing : bytes ≡ [] → Finds at before bytes
  piece : (text after : List ℕ) → bytes ≡ text ++ after → IsSeparator text after
      → Finds at before bytes
  item : (text after : List ℕ) → bytes ≡ text ++ after → IsItem before text after
      → Finds at before bytes
  fault : (it : SchedFault) → IsItemFault at before bytes it → Finds at before bytes

-- a run is an item, or one too many
by_room : (at before : ℕ) (text after : List ℕ) → IsJobRun text after
    → Finds at before (text ++ after)
by_room at before text after is = by (ltb MAX_ITEMS (before + count_of text)) refl where
  by : (full : Bool) → ltb MAX_ITEMS (before + count_of text) ≡ full
      → Finds at before (text ++ after)
  by true e = fault (TooMany at) (items.too_many text after is (grind (arith, nat_tests)))
  by false e =
      item text after refl (record { is_run = is; few = grind (arith, nat_tests) })

-- after a count
finds_count : (at before : ℕ) (job count after : List ℕ) → IsFitting job (star ∷ (count ++ after))
    → IsFitting count after → Finds at before (job ++ star ∷ (count ++ after))
finds_count at before job count [] is counts =
    subst (Finds at before) (append_assoc job (star ∷ count) [])
    (by_room at before (job ++ star ∷ count) [] (items.often job count [] is counts tt))
finds_count at before job count (byte ∷ more) is counts = by (is_blank byte) refl where
  by : (blank : Bool) → is_blank byte ≡ blank
      → Finds at before (job ++ star ∷ (count ++ byte ∷ more))
  by true e =
      subst (Finds at before) (append_assoc job (star ∷ count) (byte ∷ more))
      (by_room at before (job ++ star ∷ count) (byte ∷ more)
      (items.often job count (byte ∷ more) is counts e))
  by false e = fault _ (items.bad_after_count job count byte more is counts e)

-- after a star
finds_star : (at before : ℕ) (job after : List ℕ) → IsFitting job (star ∷ after)
    → Finds at before (job ++ star ∷ after)
finds_star at before job after is = by (begins after) where
  by : Begins after → Finds at before (job ++ star ∷ after)
  by (numbers.fit count rest e counts) =
      subst (λ xs. Finds at before (job ++ star ∷ xs)) (sym e)
      (finds_count at before job count rest (rw e at is) counts)
  by (numbers.big count rest e counts big) =
      subst (λ xs. Finds at before (job ++ star ∷ xs)) (sym e)
      (fault _ (items.big_count job count rest (rw e at is) counts big))
  by (numbers.none none) = fault _ (items.no_count job after is none)

-- after a job
finds_job : (at before : ℕ) (job after : List ℕ) → IsFitting job after
    → Finds at before (job ++ after)
finds_job at before job [] is = by_room at before job [] (items.once job [] is tt)
finds_job at before job (byte ∷ more) is = by_blank (is_blank byte) refl where
  by_star : is_blank byte ≡ false → (starred : Bool) → eqb byte star ≡ starred
      → Finds at before (job ++ byte ∷ more)
  by_star blank true e =
      let same : byte ≡ star = grind (arith, nat_tests) in
      subst (λ b. Finds at before (job ++ b ∷ more)) (sym same)
      (finds_star at before job more (subst (λ b. IsFitting job (b ∷ more)) same is))
  by_star blank false e =
      let other : byte ≢ star = λ same. grind (arith, nat_tests) in
      fault _ (items.bad_after_job job byte more is blank other)

  by_blank : (blank : Bool) → is_blank byte ≡ blank → Finds at before (job ++ byte ∷ more)
  by_blank true e = by_room at before job (byte ∷ more) (items.once job (byte ∷ more) is e)
  by_blank false e = by_star e (eqb byte star) refl

finds : (at before : ℕ) (bytes : List ℕ) → Finds at before bytes
finds at before [] = nothing refl
finds at before (byte ∷ more) = by_blank (is_blank byte) refl where
  by_number : is_blank byte ≡ false → Begins (byte ∷ more) → Finds at before (byte ∷ more)
  by_number blank (numbers.fit job after e is) =
      subst (Finds at before) (sym e) (finds_job at before job after is)
  by_number blank (numbers.big job after e is big) =
      subst (Finds at before) (sym e) (fault (TooBig at) (items.big_job job after is big))
  by_number blank (numbers.none none) = fault _ (items.bad_start byte more blank none)

  by_blank : (blank : Bool) → is_blank byte ≡ blank → Finds at before (byte ∷ more)
  by_blank true e = piece (byte ∷ []) more refl (items.separator byte more e)
  by_blank false e = by_number e (begins (byte ∷ more))

at_end : (at before : ℕ) → StepHolds schedule_form at before [] (step at before [])
unfolding step found_at
at_end at before = refl

-- what is found the form says
step_holds : (at before : ℕ) (bytes : List ℕ)
    → StepHolds schedule_form at before bytes (step at before bytes)
step_holds at before bytes = by (finds at before bytes) where
  by : Finds at before bytes → StepHolds schedule_form at before bytes (step at before bytes)
  by (nothing e) =
      subst (λ xs. StepHolds schedule_form at before xs (step at before xs)) (sym e)
      (at_end at before)
  by (piece text after e is) =
      subst (λ xs. StepHolds schedule_form at before xs (step at before xs)) (sym e)
      (rw (
        skips at before text after is,
        take_at text after (length text) refl,
        drop_at text after (length text) refl,
      ) is)
  by (item text after e is) =
      subst (λ xs. StepHolds schedule_form at before xs (step at before xs)) (sym e)
      (rw (
        takes at before text after is,
        take_at text after (length text) refl,
        drop_at text after (length text) refl,
      ) is)
  by (fault it is) = rw (refuses at before bytes it is) is

some_separator : (piece after : List ℕ) → IsSeparator piece after → 0 < length piece
some_separator _ _ (items.separator byte after is) = omega arith

some_run : (text after : List ℕ) → IsJobRun text after → 0 < length text
some_run _ _ (items.once job after is apart) = is.is_number.some
some_run _ _ (items.often job count after is counts apart) =
    omega (arith, is.is_number.some, length-append job (star ∷ count))

pub agrees : Agrees schedule_form IsAny step
unfolding step found_at
agrees = record {
  ends = λ at before. refl;
  skips = skips;
  takes = takes;
  refuses = refuses;
  holds = λ at before bytes sound. step_holds at before bytes;
  some_piece = some_separator;
  some_item = λ before text after is. some_run text after is.is_run;
  sound_piece = λ piece after is sound. tt;
  sound_item = λ before text after is sound. tt;
}

-- a run that was found is an item
pub found_item : (at before : ℕ) (bytes : List ℕ) (n : ℕ) → step at before bytes ≡ Ok (Take n)
    → IsItem before (take n bytes) (drop n bytes)
found_item at before bytes n e = rw e at (step_holds at before bytes)

same_run : (a b : Run) (one other : Result Found SchedFault) → one ≡ Ok (found.Run a)
    → other ≡ Ok (found.Run b) → one ≡ other → a ≡ b
same_run a b one other e f g = cc

-- with its job and its count
pub found_run : (at before : ℕ) (bytes : List ℕ) (run : Run)
    → found_at at before bytes ≡ Ok (found.Run run)
    → (run.job ≡ job_of (take run.len bytes)) × (run.count ≡ count_of (take run.len bytes))
unfolding step
found_run at before bytes run e =
    let is = found_item at before bytes run.len (ap stepped e) in
    let there = rw take-append-drop at (item_found at before (take run.len bytes)
    (drop run.len bytes) is) in
    let same = same_run run (run_of (take run.len bytes)) (found_at at before bytes)
    (found_at at before bytes) e there refl in
    (ap (λ r. r.job) same, ap (λ r. r.count) same)
