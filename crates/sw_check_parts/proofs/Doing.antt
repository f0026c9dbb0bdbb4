-- What a function leaves that does one part after another.
use Rattle.std.proofs.Common.{◌≡◌, ℕ, List, [], ◌++◌, Result, Ok, Err, refl, ◌∙◌, subst, arith}
use Rattle.std.proofs.Common.{length-append}
use Rattle.sw_outside.specs.Rise.{Rose}
use Rattle.sw_check_parts.specs.declared.outcome.Outcome.{Outcome}
use Rattle.sw_check_parts.specs.declared.stop.Stop.{Stop}
use Rattle.sw_check_parts.specs.declared.stop.Stop.TheVariants as stops
use Rattle.sw_check_parts.specs.Course.{Read, Part, Alone, deciding, decided, in_first, refused, goes_on}
use Rattle.sw_check_parts.specs.Course.{◌>>=◌}
use Rattle.sw_check_parts.specs.Leaves.{SeenShelf, HasRead, progress_of, CountsFaults, ReceivedLong}
use Rattle.sw_check_parts.specs.Leaves.{Does, Decides}
use Rattle.sw_check_parts.proofs.ReadLemmas.{has_read_nothing, HasRead-append, stays_unknown}

counts_on : {A : Type 0} (result : Result A Stop) (reads others : List Read)
    (before middle after : ℕ) → middle ≡ before → CountsFaults result others middle after
    → CountsFaults result (reads ++ others) before after
counts_on (Ok value) reads others before middle after steady k = k ∙ steady
counts_on (Err (stops.Refused outcome)) reads others before middle after steady k = k ∙ steady
counts_on (Err stops.NotRead) reads others before middle after steady k =
    (omega (arith, k.0, length-append reads others), subst (λ count. Rose count after) steady k.1)
counts_on (Err stops.Memory) reads others before middle after steady k = k ∙ steady

received_long_on : {A : Type 0} (result : Result A Stop) (reads : List Read)
    (before middle after : SeenShelf) → HasRead reads before.known middle.known
    → ReceivedLong result middle after → ReceivedLong result before after
received_long_on (Ok value) reads before middle after h k = tt
received_long_on (Err (stops.Refused outcome)) reads before middle after h k =
    λ long. stays_unknown reads _ before.known middle.known h (k long)
received_long_on (Err stops.NotRead) reads before middle after h k = tt
received_long_on (Err stops.Memory) reads before middle after h k = tt

-- the first part gave a value, and the second goes on from there
pub does_on : {A B : Type 0} {first : Part A} {second : A → Part B} {value : A}
    {result : Result B Stop} {before middle after : SeenShelf}
    → Does first before (Ok value) middle → Does (second value) middle result after
    → Does (first >>= second) before result after
does_on {value = value} {result} {before} {middle} {after} one other = record {
  reads = one.reads ++ other.reads;
  so_far = goes_on one.reads other.reads value (progress_of result) one.so_far other.so_far;
  has_read = HasRead-append one.reads other.reads before.known middle.known after.known one.has_read
      other.has_read;
  counts = counts_on result one.reads other.reads before.faults middle.faults after.faults
      one.counts other.counts;
  received_long = received_long_on result one.reads before middle after one.has_read
      other.received_long;
}

-- the first part stopped
pub does_stop : {A B : Type 0} {first : Part A} (second : A → Part B)
    (stop : Stop) {before after : SeenShelf} → Does first before (Err stop) after
    → Does (first >>= second) before (Err stop) after
does_stop second (stops.Refused outcome) one = record {
  reads = one.reads;
  so_far = refused one.reads outcome one.so_far;
  has_read = one.has_read;
  counts = one.counts;
  received_long = one.received_long;
}
does_stop second stops.NotRead one = record {
  reads = one.reads;
  so_far = in_first one.reads one.so_far;
  has_read = one.has_read;
  counts = one.counts;
  received_long = one.received_long;
}
does_stop second stops.Memory one = record {
  reads = one.reads;
  so_far = in_first one.reads one.so_far;
  has_read = one.has_read;
  counts = one.counts;
  received_long = one.received_long;
}

-- a part that reads no file
pub does_alone : {A : Type 0} (Rule : Result A Outcome → Type 0)
    (result : Result A Stop) {shelf : SeenShelf} → Decides Rule result
    → Does (Alone Rule) shelf result shelf
does_alone Rule (Ok value) {shelf} rule =
    record {
      reads = [];
      so_far = decided (Ok value) rule;
      has_read =
          has_read_nothing shelf.known;
      counts = refl;
      received_long = tt;
    }
does_alone Rule (Err (stops.Refused outcome)) {shelf} rule = record {
  reads = [];
  so_far = decided (Err outcome) rule.0;
  has_read = has_read_nothing shelf.known;
  counts = refl;
  received_long = λ long. absurd (rule.1 long);
}
does_alone Rule (Err stops.NotRead) never = absurd never
does_alone Rule (Err stops.Memory) {shelf} rule =
    record {
      reads = [];
      so_far = deciding;
      has_read = has_read_nothing shelf.known;
      counts =
          refl;
      received_long = tt;
    }

-- such a part first, and then another
pub decides_on : {A B : Type 0} (Rule : Result A Outcome → Type 0) {second : A → Part B}
    {value : A} {result : Result B Stop} {before after : SeenShelf} → Rule (Ok value)
    → Does (second value) before result after → Does (Alone Rule >>= second) before result after
decides_on Rule {value = value} rule other = does_on (does_alone Rule (Ok value) rule) other

pub decides_stop : {A B : Type 0} (Rule : Result A Outcome → Type 0) (second : A → Part B)
    (stop : Stop) {shelf : SeenShelf} → Decides {A = A} Rule (Err stop)
    → Does (Alone Rule >>= second) shelf (Err stop) shelf
decides_stop Rule second stop rule = does_stop second stop (does_alone Rule (Err stop) rule)
