-- The words of the source, at positions of it.
use Rattle.std.specs.Prelude.{ℕ, ◌==◌, ◌&&◌, ◌||◌, not, Bool, List, [], Option, Some, None, take}
use Rattle.std.specs.Prelude.{drop}
use Rattle.std.specs.Char.{is_ascii, is_ascii_alphanumeric}
use Rattle.std.specs.List.{before_first}
use Rattle.sw_see_lines.specs.Shown.{shown_text}
use Rattle.sw_see_steps.specs.declared.words.TheConstants.{MOST_OF_A_WORD}

-- A word is made of the letters and digits of ASCII, `_`, and all characters outside ASCII. Each
-- other byte ends it.
abbrev pub ends_word : ℕ → Bool
ends_word byte = is_ascii byte && not (is_ascii_alphanumeric byte || (byte == 95))

-- the word with which the bytes begin, as far as it is shown
abbrev pub first_word : List ℕ → List ℕ
first_word bytes = take MOST_OF_A_WORD (before_first ends_word bytes)

-- the word at the position `at`, a byte offset, as a terminal shows it
abbrev pub word_at : List ℕ → ℕ → List ℕ
word_at text at = shown_text (first_word (drop at text))

-- the word at a position that may be none
abbrev pub word_of : List ℕ → Option ℕ → List ℕ
word_of text None = []
word_of text (Some at) = word_at text at
