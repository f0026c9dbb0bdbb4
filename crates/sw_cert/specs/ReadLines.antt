-- The lines of a certificate while they are read.
use Rattle.std.specs.Prelude.{◌≡◌, ℕ, ◌-◌, ◌<◌, ◌≤◌, Some, List, [], ◌∷◌, ◌++◌, length, take, drop}
use Rattle.std.specs.Prelude.{slice_get, slice_index, flat_map}
use Rattle.sw_dictation.specs.Lines.{line_text}
use Rattle.sw_cert.specs.Certificate.{start, behind, IsLineAt, numbers_of}
use Rattle.sw_cert.specs.Tails.{IsTail}
use Rattle.sw_cert.specs.declared.line.Extent.{Extent}
use Rattle.sw_cert.specs.declared.line.Line.{Line}
use Rattle.sw_cert.specs.declared.line.Spot.{Spot}
use Rattle.sw_cert.specs.declared.reading.Lines.{Lines}

-- the text of lines
abbrev pub text_of : List Line → List ℕ
text_of lines = flat_map (λ line. line_text (numbers_of line)) lines

-- lines that rise from a place on, and the place behind the last
abbrev pub AreLinesTo : List Extent → Spot → List Line → Spot → Type 0
AreLinesTo extents from [] to = to ≡ from
AreLinesTo extents from (line ∷ lines) to =
    IsLineAt extents from line × AreLinesTo extents (behind line) lines to

-- the bytes at which lines begin
pub record AreStarts (lines : List Line) (starts : List ℕ) : Type 0 where
  pub count : length starts ≡ length lines
  pub each : (k : ℕ) → k < length lines → slice_index starts k ≡ length (text_of (take k lines))

-- the bytes begin with these lines
pub record AreLinesRead (extents : List Extent) (bytes : List ℕ) (read : Lines) : Type 0 where
  pub are_lines : AreLinesTo extents start read.lines read.spot
  pub starts : AreStarts read.lines read.starts
  pub within : read.at ≤ length bytes
  pub at_is : read.at ≡ length (text_of read.lines)
  pub splits : bytes ≡ text_of read.lines ++ drop read.at bytes
  pub rises : read.tail ≤ read.at
  pub tail : (last : Line) → slice_get read.lines (length read.lines - 1) ≡ Some last
      → IsTail bytes last read.tail read.at
