-- What holds of every part of a command: over given files it comes to one end, and what is read on
-- the way is a prefix of what is read in all. And what it is that a part can always come to an end.
use Rattle.std.specs.Prelude.{◌≡◌, ℕ, List, [], ◌++◌, Result, Err}
use Rattle.sw_check_parts.specs.declared.outcome.Outcome.{Outcome}
use Rattle.sw_check_parts.specs.Course.{Read, AreOf, Underway, Ended, Part}

-- The part, which has read these files, ends after it has read some more, which have these texts.
pub record Completes {A : Type 0} (part : Part A) (files : List ℕ → List ℕ)
    (reads : List Read) : Type 0 where
  pub others : List Read
  pub of_files : AreOf files others
  pub result : Result A Outcome
  pub ended : part (reads ++ others) (Ended result)

-- the files are a prefix of the others
pub record IsPrefixOf (reads others : List Read) : Type 0 where
  pub rest : List Read
  pub whole : others ≡ reads ++ rest

-- Wherever the part has come, it can come to an end.
pub record CanEnd {A : Type 0} (part : Part A) : Type 0 where
  pub begins : part [] Underway
  -- whatever texts the files that are still to be read have
  pub completes : (files : List ℕ → List ℕ) (reads : List Read) → part reads Underway
      → Completes part files reads

pub record IsLawful {A : Type 0} (part : Part A) : Type 0 where
  pub one_end : (files : List ℕ → List ℕ) (reads others : List Read) (a b : Result A Outcome)
      → AreOf files reads
      → AreOf files others → part reads (Ended a) → part others (Ended b) → (reads ≡ others)
      × (a ≡ b)
  pub read_in_order : (files : List ℕ → List ℕ) (reads others : List Read)
      (result : Result A Outcome) → AreOf files reads
      → AreOf files others → part reads Underway → part others (Ended result)
      → IsPrefixOf reads others

-- The rule of a part that reads no file says of some result that it ends so.
abbrev pub HasResult : {A : Type 0} → (Result A Outcome → Type 0) → Type 0
HasResult {A} Rule = (result : Result A Outcome) × Rule result

-- It says so of no two results.
abbrev pub HasOneResult : {A : Type 0} → (Result A Outcome → Type 0) → Type 0
HasOneResult {A} Rule = (a b : Result A Outcome) → Rule a → Rule b → a ≡ b

-- each reply with which the part refuses is so
abbrev pub RefusesBy : {A : Type 0} → (Outcome → Type 0) → Part A → Type 0
RefusesBy Q part = (reads : List Read) (outcome : Outcome) → part reads (Ended (Err outcome))
    → Q outcome
