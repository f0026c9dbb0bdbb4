-- Places of a text, which is a list of bytes, as the Language Server Protocol counts them. A line
-- ends after a line feed, and so after a carriage return and a line feed too.
use Rattle.std.specs.Prelude.{◌≡◌, ◌≤◌, ℕ, ◌+◌, nat_lt, if◌then◌else◌, List, length, map, sum, take}
use Rattle.std.specs.Prelude.{count_by, slice_index_or}
use Rattle.std.specs.List.{after_last}
use Rattle.sw_lsp_text.specs.declared.place.Place.{Place}
use Rattle.sw_text.specs.Text.{is_line_feed}

-- How many units of UTF-16 a byte of a text in UTF-8 brings. A byte that begins a character brings
-- all of them: two where the character has four bytes, and else one.
abbrev pub units : ℕ → ℕ
units byte =
    if nat_lt byte 128 then 1
    else (if nat_lt byte 192 then 0 else (if nat_lt byte 240 then 1 else 2))

-- the line of the position `at`, from 0: the line feeds before it
abbrev pub line_in : List ℕ → ℕ → ℕ
line_in text at = count_by is_line_feed (take at text)

-- the character of the position `at`, from 0: the units since the last line feed before it, or
-- since the start where no line feed is before it
abbrev pub character_in : List ℕ → ℕ → ℕ
character_in text at = sum (map units (after_last is_line_feed (take at text)))

-- the place of the position `at`, a byte offset
abbrev pub place_in : List ℕ → ℕ → Place
place_in text at = record { line = line_in text at; character = character_in text at }

-- the first place of each text
abbrev pub origin : Place
origin = record { line = 0; character = 0 }

-- the places of a text's positions, from its first byte to its end
pub record ArePlaces (text : List ℕ) (places : List Place) : Type 0 where
  pub all : length places ≡ length text + 1
  pub each : (at : ℕ) → at ≤ length text → slice_index_or places at origin ≡ place_in text at
