-- Words, by characters: those that Unicode Standard Annex 31 lets begin and continue an identifier.
use Rattle.std.specs.Prelude.{ℕ, ◌==◌, Bool, false, ◌||◌, IsTrue, List, [], ◌∷◌, take_while}
use Rattle.std.specs.Prelude.{length, encode_utf8_all}
use Rattle.std.specs.Bool.{IsFalse}
use Rattle.std.specs.List.{list_all}
use Rattle.std.specs.Str.{chars, all_scalars}
use Rattle.unicode_ident.specs.Ident.{is_xid_start, is_xid_continue}

-- a character that begins a word
unfoldable pub is_word_start : ℕ → Bool
is_word_start char = is_xid_start char || char == 95

-- a character that a word goes on with
unfoldable pub is_word_char : ℕ → Bool
is_word_char char = is_xid_continue char

-- whether the first of some characters passes a test
abbrev pub first_passes : (ℕ → Bool) → List ℕ → Bool
first_passes test [] = false
first_passes test (char ∷ _) = test char

-- whether bytes begin with a character that begins a word
unfoldable pub begins_word : List ℕ → Bool
begins_word bytes = first_passes is_word_start (chars bytes)

-- whether bytes begin with a character that a word goes on with
unfoldable pub goes_on : List ℕ → Bool
goes_on bytes = first_passes is_word_char (chars bytes)

-- `IsWord text after`: `text` is a word where `after` follows it, and the longest one there.
pub data IsWord : List ℕ → List ℕ → Type 0 where
  word : (start : ℕ) (more after : List ℕ) → IsTrue (all_scalars (start ∷ more))
      → IsTrue (is_word_start start) → IsTrue (list_all is_word_char more) → IsFalse (goes_on after)
      → IsWord (encode_utf8_all (start ∷ more)) after

-- the length in bytes of the longest prefix of characters that words go on with
unfoldable pub word_len : List ℕ → ℕ
word_len bytes = length (encode_utf8_all (take_while is_word_char (chars bytes)))
