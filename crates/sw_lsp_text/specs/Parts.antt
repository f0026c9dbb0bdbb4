-- Parts of messages: texts, numbers and places in JSON.
use Rattle.std.specs.Prelude.{ℕ, ◌^◌, nat_lt, if◌then◌else◌, List, codes, Option, Some, None}
use Rattle.std.specs.Prelude.{option_and_then}
use Rattle.serde_json.specs.Data.{Data}
use Rattle.serde_json.specs.Find.{get, pointer, as_number, as_str, as_u64}
use Rattle.sw_lsp_text.specs.declared.place.Place.{Place}
use Rattle.sw_lsp_text.specs.declared.place.Range.{Range}

infixl 10 ◌>>=◌
abbrev pub ◌>>=◌ : {A B : Type 0} → Option A → (A → Option B) → Option B
o >>= f = option_and_then f o

-- the text of a member, and the one at the end of a path
abbrev pub text_at : List ℕ → Data → Option (List ℕ)
text_at name d = option_and_then as_str (get name d)

abbrev pub text_behind : List ℕ → Data → Option (List ℕ)
text_behind path d = option_and_then as_str (pointer path d)

-- the number, if it is below 2^32
abbrev pub small : ℕ → Option ℕ
small n = if nat_lt n (2 ^ 32) then Some n else None

-- the whole number of a member, if it is below 2^32
abbrev pub small_at : List ℕ → Data → Option ℕ
small_at name d = option_and_then small (option_and_then as_u64 (option_and_then as_number (get name d)))

abbrev pub place : ℕ → ℕ → Place
place line character = record { line = line; character = character }

-- the place that a JSON is
abbrev pub place_in : Data → Option Place
place_in d = do
  line ← small_at (codes "line") d
  character ← small_at (codes "character") d
  Some (place line character)

abbrev pub range : Place → Place → Range
range start end = record { start = start; end = end }

-- the range that a JSON is
unfoldable pub range_in : Data → Option Range
range_in d = do
  first ← get (codes "start") d
  start ← place_in first
  last ← get (codes "end") d
  end ← place_in last
  Some (range start end)
