-- What stands in a line behind the number of its elements, and lines that have it in common.
use Rattle.std.specs.Prelude.{◌≡◌, ℕ, ◌+◌, ◌≤◌, List, ◌∷◌, ◌++◌, length, drop}
use Rattle.sw_dictation.specs.Lines.{line_text}
use Rattle.sw_cert.specs.Certificate.{pair_numbers}
use Rattle.sw_cert.specs.declared.line.Line.{Line}
use Rattle.sw_cert.specs.declared.line.Spot.{Spot}

-- the numbers behind that of the elements
abbrev pub tail_numbers : Line → List ℕ
tail_numbers line = line.classes ++ length line.pairs ∷ pair_numbers line.pairs

-- they stand in the text from one byte on, and `to` is the place behind them
pub record IsTail (text : List ℕ) (line : Line) (from to : ℕ) : Type 0 where
  pub to_is : to ≡ from + length (line_text (tail_numbers line))
  pub within : to ≤ length text
  pub splits : drop from text ≡ line_text (tail_numbers line) ++ drop to text

-- the line of a block that has them in common with a line
abbrev pub echo_of : Spot → Line → Line
echo_of head line = record {
  function = head.function;
  block = head.block;
  classes = line.classes;
  pairs = line.pairs;
}
