-- What a function that does a part of a command leaves: how far the part has come, and what the
-- shelf shows.
use Rattle.std.specs.Prelude.{◌≡◌, ◌<◌, ◌≤◌, ℕ, List, ◌++◌, length, map, Option, option_map, IfSome}
use Rattle.std.specs.Prelude.{IfNone, Result, Ok, Err}
use Rattle.sw_outside.specs.Rise.{Rose}
use Rattle.sw_outside.specs.Shelf.{KnownShelf, file_of}
use Rattle.sw_check_parts.specs.declared.exit.Exit.TheVariants.{TooLong}
use Rattle.sw_check_parts.specs.declared.outcome.Outcome.{Outcome}
use Rattle.sw_check_parts.specs.declared.stop.Stop.{Stop}
use Rattle.sw_check_parts.specs.declared.stop.Stop.TheVariants as stops
use Rattle.sw_check_parts.specs.declared.TheConstants.{PROGRAM_LIMIT}
use Rattle.sw_check_parts.specs.Course.{Read, AreOf, Course, Underway, Ended, Part}

-- what contracts see of a shelf
pub record SeenShelf : Type 0 where
  pub known : Option KnownShelf
  pub received : ℕ
  pub faults : ℕ

-- what they see of this shelf
abbrev pub seen : {S : Type 0} → (S → Option KnownShelf) → (S → ℕ) → (S → ℕ) → S → SeenShelf
seen known received faults shelf =
    record { known = known shelf; received = received shelf; faults = faults shelf }

-- these names were requested too, in this order
abbrev pub with_requests : List Read → KnownShelf → KnownShelf
with_requests reads known =
    record known { requested = known.requested ++ map (λ one. one.name) reads }

-- exactly these files were read, where the shelf's contents are known
pub record HasRead (reads : List Read) (before after : Option KnownShelf) : Type 0 where
  pub of_files : IfSome before (λ known. AreOf (file_of known.files) reads)
  pub requested : after ≡ option_map (with_requests reads) before

-- how far the part has come when its function returns
abbrev pub progress_of : {A : Type 0} → Result A Stop → Course A
progress_of (Ok value) = Ended (Ok value)
progress_of (Err (stops.Refused outcome)) = Ended (Err outcome)
progress_of (Err stops.NotRead) = Underway
progress_of (Err stops.Memory) = Underway

-- Only a fetch that failed raises the count of faults; its file is the last that was read.
abbrev pub CountsFaults : {A : Type 0} → Result A Stop → List Read → ℕ → ℕ → Type 0
CountsFaults (Ok value) reads before after = after ≡ before
CountsFaults (Err (stops.Refused outcome)) reads before after = after ≡ before
CountsFaults (Err stops.NotRead) reads before after = (1 ≤ length reads) × Rose before after
CountsFaults (Err stops.Memory) reads before after = after ≡ before

-- Where the shelf's contents are unknown, a file was too long only where more bytes were received
-- than a program may have.
abbrev pub ReceivedLong : {A : Type 0} → Result A Stop → SeenShelf → SeenShelf → Type 0
ReceivedLong (Ok value) before after = Unit {0}
ReceivedLong (Err (stops.Refused outcome)) before after = outcome.exit ≡ TooLong
    → IfNone before.known (PROGRAM_LIMIT < after.received)
ReceivedLong (Err stops.NotRead) before after = Unit {0}
ReceivedLong (Err stops.Memory) before after = Unit {0}

-- `Does part before result after`: the function did this part, as far as its result says, over a
-- shelf that was seen so before and so after.
pub record Does {A : Type 0} (part : Part A) (before : SeenShelf) (result : Result A Stop)
    (after : SeenShelf) : Type 0 where
  pub reads : List Read
  pub so_far : part reads (progress_of result)
  pub has_read : HasRead reads before.known after.known
  pub counts : CountsFaults result reads before.faults after.faults
  pub received_long : ReceivedLong result before after

-- The function ends as the rule says, unless memory ran out. It reads nothing.
abbrev pub Decides : {A : Type 0} → (Result A Outcome → Type 0) → Result A Stop → Type 0
Decides Rule (Ok value) = Rule (Ok value)
Decides Rule (Err (stops.Refused outcome)) = Rule (Err outcome) × ¬ (outcome.exit ≡ TooLong)
Decides Rule (Err stops.NotRead) = ⊥
Decides Rule (Err stops.Memory) = Unit {0}
