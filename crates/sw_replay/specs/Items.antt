-- The items of a schedule text: it is scanned as separators and runs in turn, where a run names a
-- job and how often the job stands in the list. Where the text can't be scanned so to its end, or
-- the list goes past its limit, it has a first fault.
use Rattle.std.specs.Prelude.{◌≡◌, ◌≢◌, ℕ, ◌+◌, ◌^◌, ◌<◌, ◌≤◌, IsTrue, List, [], ◌∷◌, ◌++◌, length}
use Rattle.std.specs.Prelude.{take, drop, replicate, Result, Ok, Err}
use Rattle.std.specs.Bool.{IsFalse}
use Rattle.std.specs.List.{list_all, prefix_len}
use Rattle.sw_scan.specs.Classes.{is_blank, is_digit}
use Rattle.sw_scan.specs.Decimal.{number_of}
use Rattle.sw_scan.specs.Prefixes.{BeginsWithout}
use Rattle.sw_scan.specs.Scan.{TextForm, Splits, Fails}
use Rattle.sw_replay.specs.declared.items.TheConstants.{MAX_ITEMS}
use Rattle.sw_replay.specs.declared.text.SchedFault.{SchedFault}
use Rattle.sw_replay.specs.declared.text.SchedFault.TheVariants.{BadItem, TooBig, TooMany, Memory}

-- Separators are spaces, tabs, carriage returns and line feeds.
pub data IsSeparator : List ℕ → List ℕ → Type 0 where
  separator : (byte : ℕ) (after : List ℕ) → IsTrue (is_blank byte) → IsSeparator (byte ∷ []) after

-- nothing follows, or a separator
abbrev pub BeginsApart : List ℕ → Type 0
BeginsApart [] = Unit {0}
BeginsApart (byte ∷ _) = IsTrue (is_blank byte)

-- some digits, where `after` follows, which begins with no digit
pub record IsNumber (digits after : List ℕ) : Type 0 where
  pub digits_alone : IsTrue (list_all is_digit digits)
  pub some : 0 < length digits
  pub whole : BeginsWithout is_digit after

-- a number of 32 bits
pub record IsFitting (digits after : List ℕ) : Type 0 where
  pub is_number : IsNumber digits after
  pub fits : number_of digits < 2 ^ 32

-- the byte `*`
abbrev pub star : ℕ
star = 42

-- a job, or a job and how often it stands in the list, with a star between them
pub data IsJobRun : List ℕ → List ℕ → Type 0 where
  once : (job after : List ℕ) → IsFitting job after → BeginsApart after → IsJobRun job after
  often : (job count after : List ℕ) → IsFitting job (star ∷ (count ++ after))
      → IsFitting count after → BeginsApart after → IsJobRun (job ++ star ∷ count) after

-- the job of a run's text
abbrev pub job_of : List ℕ → ℕ
job_of text = number_of (take (prefix_len is_digit text) text)

abbrev pub count_past : List ℕ → ℕ
count_past [] = 1
count_past (_ ∷ count) = number_of count

-- how often the job stands in the list: once, or as often as the number past the star says
abbrev pub count_of : List ℕ → ℕ
count_of text = count_past (drop (prefix_len is_digit text) text)

-- `IsItem before text after`: the text is a run, and the list has room for it after `before` items.
pub record IsItem (before : ℕ) (text after : List ℕ) : Type 0 where
  pub is_run : IsJobRun text after
  pub few : before + count_of text ≤ MAX_ITEMS

-- `IsItemFault at before bytes fault`: the bytes, which stand at the offset `at` after `before`
-- items, begin with neither a separator nor a run for which there is room.
pub data IsItemFault (at before : ℕ) : List ℕ → SchedFault → Type 0 where
  -- a byte that begins no run
  bad_start : (byte : ℕ) (after : List ℕ) → IsFalse (is_blank byte) → IsFalse (is_digit byte)
      → IsItemFault at before (byte ∷ after) (BadItem at)
  -- a job that has more than 32 bits
  big_job : (job after : List ℕ) → IsNumber job after → 2 ^ 32 ≤ number_of job
      → IsItemFault at before (job ++ after) (TooBig at)
  -- a byte after a job that is neither a separator nor a star
  bad_after_job : (job : List ℕ) (byte : ℕ) (after : List ℕ) → IsFitting job (byte ∷ after)
      → IsFalse (is_blank byte) → byte ≢ star
      → IsItemFault at before (job ++ byte ∷ after) (BadItem (at + length job))
  -- no digit after a star
  no_count : (job after : List ℕ) → IsFitting job (star ∷ after) → BeginsWithout is_digit after
      → IsItemFault at before (job ++ star ∷ after) (BadItem (at + length job + 1))
  -- a count that has more than 32 bits
  big_count : (job count after : List ℕ) → IsFitting job (star ∷ (count ++ after))
      → IsNumber count after → 2 ^ 32 ≤ number_of count
      → IsItemFault at before (job ++ star ∷ (count ++ after)) (TooBig (at + length job + 1))
  -- a byte after a count that is no separator
  bad_after_count : (job count : List ℕ) (byte : ℕ) (after : List ℕ)
      → IsFitting job (star ∷ (count ++ byte ∷ after)) → IsFitting count (byte ∷ after)
      → IsFalse (is_blank byte)
      → IsItemFault at before (job ++ star ∷ (count ++ byte ∷ after))
      (BadItem (at + length job + 1 + length count))
  -- a run for which there is no room
  too_many : (text after : List ℕ) → IsJobRun text after → MAX_ITEMS < before + count_of text
      → IsItemFault at before (text ++ after) (TooMany at)

-- The form that schedule texts have. What it knows of the bytes before an offset is the number of
-- items that they name.
abbrev pub schedule_form : TextForm ℕ (ℕ × ℕ) SchedFault
schedule_form = record {
  IsPiece = IsSeparator;
  IsItem = IsItem;
  IsRefused = IsItemFault;
  item_of = λ at before text after. (job_of text, count_of text);
  past_piece = λ before piece. before;
  past_item = λ before text. before + count_of text;
}

-- the list that runs name: each job as often as its run says
abbrev pub written_out : List (ℕ × ℕ) → List ℕ
written_out [] = []
written_out (run ∷ runs) = replicate run.1 run.0 ++ written_out runs

-- the items of a whole text
pub record IsItems (bytes items : List ℕ) : Type 0 where
  pub runs : List (ℕ × ℕ)
  pub splits : Splits schedule_form 0 0 bytes runs
  pub written : items ≡ written_out runs

-- the first fault of a text: the first byte that can't stand where it does, or the first digit of
-- the first number or run that can't
abbrev pub IsFirstFault : List ℕ → SchedFault → Type 0
IsFirstFault bytes fault = Fails schedule_form 0 0 bytes fault

-- what a text has: items, or a first fault
abbrev pub HasItems : List ℕ → Result (List ℕ) SchedFault → Type 0
HasItems bytes (Ok items) = IsItems bytes items
HasItems bytes (Err fault) = IsFirstFault bytes fault

-- the offset of the byte that a fault names
abbrev pub position_of : SchedFault → ℕ
position_of (BadItem at) = at
position_of (TooBig at) = at
position_of (TooMany at) = at
position_of Memory = 0
