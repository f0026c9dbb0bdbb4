-- A text as it is scanned from its start to its end: pieces that are skipped and items, in turn.
-- Where neither stands, the text has its first fault.
use Rattle.std.specs.Prelude.{ℕ, ◌+◌, List, [], ◌∷◌, ◌++◌, length, Result, Ok, Err}

-- A form of texts. `B` is what the form knows of the bytes before an offset, `T` is an item, `F` is
-- a fault.
pub record TextForm (B T F : Type 0) : Type 1 where
  -- `IsPiece piece after`: `piece` is skipped where `after` follows it.
  pub IsPiece : List ℕ → List ℕ → Type 0
  -- `IsItem before text after`: `text` is an item where `after` follows it.
  pub IsItem : B → List ℕ → List ℕ → Type 0
  -- `IsRefused at before bytes fault`: the bytes, which stand at the offset `at`, begin with
  -- neither.
  pub IsRefused : ℕ → B → List ℕ → F → Type 0
  -- the item of this text, which stands at an offset and is followed by bytes
  pub item_of : ℕ → B → List ℕ → List ℕ → T
  -- what is known past a piece, and past an item
  pub past_piece : B → List ℕ → B
  pub past_item : B → List ℕ → B

-- `Splits form at before bytes items`: the bytes, which stand at the offset `at`, are pieces and
-- these items in turn.
pub data Splits {B T F : Type 0} (form : TextForm B T F) : ℕ → B → List ℕ → List T → Type 0 where
  nothing : (at : ℕ) (before : B) → Splits form at before [] []
  piece : (at : ℕ) (before : B) (piece after : List ℕ) (items : List T) → form.IsPiece piece after
      → Splits form (at + length piece) (form.past_piece before piece) after items
      → Splits form at before (piece ++ after) items
  item : (at : ℕ) (before : B) (text after : List ℕ) (items : List T)
      → form.IsItem before text after
      → Splits form (at + length text) (form.past_item before text) after items
      → Splits form at before (text ++ after) (form.item_of at before text after ∷ items)

-- `Fails form at before bytes fault`: pieces and items in turn lead to bytes that are refused with
-- this fault.
pub data Fails {B T F : Type 0} (form : TextForm B T F) : ℕ → B → List ℕ → F → Type 0 where
  here : (at : ℕ) (before : B) (bytes : List ℕ) (fault : F) → form.IsRefused at before bytes fault
      → Fails form at before bytes fault
  past_piece : (at : ℕ) (before : B) (piece after : List ℕ) (fault : F) → form.IsPiece piece after
      → Fails form (at + length piece) (form.past_piece before piece) after fault
      → Fails form at before (piece ++ after) fault
  past_item : (at : ℕ) (before : B) (text after : List ℕ) (fault : F)
      → form.IsItem before text after
      → Fails form (at + length text) (form.past_item before text) after fault
      → Fails form at before (text ++ after) fault

-- what the bytes have: items, or a first fault
abbrev pub Scans : {B T F : Type 0} → TextForm B T F → ℕ → B → List ℕ → Result (List T) F → Type 0
Scans form at before bytes (Ok items) = Splits form at before bytes items
Scans form at before bytes (Err fault) = Fails form at before bytes fault
