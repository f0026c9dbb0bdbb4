-- Texts as a terminal shows them, and what is as wide.
use Rattle.std.specs.Prelude.{ℕ, ◌==◌, ◌||◌, List, [], ◌∷◌, ◌++◌, map, replicate, chars}
use Rattle.std.specs.Prelude.{false, encode_utf8_all}
use Rattle.std.specs.Prelude.{Option, Some, None, is_some, if◌then◌else◌}
use Rattle.std.specs.Str.Lossy.{utf8_lossy}
use Rattle.unicode_width.specs.Width.{char_width}

abbrev pub tab : ℕ
tab = 9

abbrev pub space : ℕ
space = 32

-- A control character has no width, and is shown as a question mark, except for a tab. So a text
-- can't steer the terminal.
abbrev pub shown_char : ℕ → ℕ
shown_char c = if (c == tab) || is_some (char_width false c) then c else 63

-- The characters of the bytes as they are shown. Bytes that aren't UTF-8 are U+FFFD.
abbrev pub shown_text : List ℕ → List ℕ
shown_text bytes = encode_utf8_all (map shown_char (chars (utf8_lossy bytes)))

-- as many spaces as a width says
abbrev pub spaces_of : Option ℕ → List ℕ
spaces_of None = space ∷ []
spaces_of (Some width) = replicate width space

-- What is as wide as a character, and shows nothing: a tab for a tab.
abbrev pub blank_of : ℕ → List ℕ
blank_of c = if c == tab then tab ∷ [] else spaces_of (char_width false c)

-- what is as wide as characters
abbrev pub blanks_of : List ℕ → List ℕ
blanks_of [] = []
blanks_of (c ∷ cs) = blank_of c ++ blanks_of cs
