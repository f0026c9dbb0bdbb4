-- Where the lines of a text begin.
use Rattle.std.specs.Prelude.{ℕ, ◌≡◌, ◌≤◌, ◌<◌, ◌+◌, List, length, slice_index}
use Rattle.sw_text.specs.Text.{line_of, column_of}

-- the offsets, in order, at which the lines begin that begin at `end` at the latest
pub record AreLineStarts (bytes : List ℕ) (end : ℕ) (starts : List ℕ) : Type 0 where
  pub all : length starts ≡ line_of bytes end
  pub within : (k : ℕ) → k < length starts → slice_index starts k ≤ end
  pub line : (k : ℕ) → k < length starts → line_of bytes (slice_index starts k) ≡ k + 1
  pub first_column : (k : ℕ) → k < length starts → column_of bytes (slice_index starts k) ≡ 1
