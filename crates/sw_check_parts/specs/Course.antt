-- A command is a sequence of parts. What a part may come to depends on the files that are read for
-- it.
use Rattle.std.specs.Prelude.{◌≡◌, ◌<◌, ◌≤◌, ℕ, List, [], ◌∷◌, ◌++◌, length, Result, Ok, Err}
use Rattle.std.specs.List.{AllByRecursion}
use Rattle.sw_check_parts.specs.declared.exit.Exit.TheVariants as exits
use Rattle.sw_check_parts.specs.declared.outcome.Outcome.{Outcome}

-- a file that was read: its name, and its bytes
pub record Read : Type 0 where
  pub name : List ℕ
  pub text : List ℕ

abbrev pub read : List ℕ → List ℕ → Read
read name text = record { name = name; text = text }

-- Under each name these files have the text that was read.
abbrev pub AreOf : (List ℕ → List ℕ) → List Read → Type 0
AreOf files reads = AllByRecursion (λ one. one.text ≡ files one.name) reads

-- How far a part has come. It is under way, or it has ended: with a value for the next part, or
-- with the reply, where it refuses to go on.
pub data Course (A : Type 0) : Type 0 where
  Underway : Course A
  Ended : Result A Outcome → Course A

-- `part reads course`: where exactly these files are read, in this order, the part may have come so
-- far.
abbrev pub Part : Type 0 → Type 1
Part A = List Read → Course A → Type 0

-- a part that reads no file, by the rule that says how it ends
pub data Alone {A : Type 0} (Rule : Result A Outcome → Type 0) : List Read → Course A → Type 0 where
  deciding : Alone Rule [] Underway
  decided : (result : Result A Outcome) → Rule result → Alone Rule [] (Ended result)

-- a file is longer than it may be
abbrev pub too_long_file : Outcome
too_long_file = record { exit = exits.TooLong; bytes = [] }

-- The file of this name is fetched, and refused where it has more bytes than the limit.
pub data Fetched (name : List ℕ) (limit : ℕ) : List Read → Course (List ℕ) → Type 0 where
  to_fetch : Fetched name limit [] Underway
  -- the fetch failed, and the text is what it would have given
  fetching : (text : List ℕ) → Fetched name limit (read name text ∷ []) Underway
  within : (text : List ℕ) → length text ≤ limit
      → Fetched name limit (read name text ∷ []) (Ended (Ok text))
  above : (text : List ℕ) → limit < length text
      → Fetched name limit (read name text ∷ []) (Ended (Err too_long_file))

-- one part, and after it another that takes its value
pub data Then {A B : Type 0} (first : Part A) (second : A → Part B) : List Read → Course B
    → Type 0 where
  in_first : (reads : List Read) → first reads Underway → Then first second reads Underway
  refused : (reads : List Read) (outcome : Outcome) → first reads (Ended (Err outcome))
      → Then first second reads (Ended (Err outcome))
  goes_on : (reads others : List Read) (value : A) (course : Course B)
      → first reads (Ended (Ok value))
      → second value others course → Then first second (reads ++ others) course

infixl 10 ◌>>=◌
abbrev pub ◌>>=◌ : {A B : Type 0} → Part A → (A → Part B) → Part B
first >>= second = Then first second
