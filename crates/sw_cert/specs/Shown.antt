-- Lines that show a region state.
use Rattle.std.specs.Prelude.{◌≡◌, ℕ, ◌<◌, ◌≤◌, ◌↔◌, List, length, slice_index, Contains}
use Rattle.sw_dictation.specs.Lines.{line_text}
use Rattle.sw_partition.specs.Regions.{Regions, Together, HasPair}
use Rattle.sw_cert.specs.Certificate.{numbers_of, ArePairsRising}
use Rattle.sw_cert.specs.declared.line.Line.{Line}
use Rattle.sw_cert.specs.declared.line.Pair.{Pair}

-- of each element of a state the least one of its class
pub record AreClassesOf (r : Regions) (classes : List ℕ) : Type 0 where
  pub elements : length classes ≡ length r.labels
  pub class : (x : ℕ) → x < length r.labels → Together r x (slice_index classes x)
  pub least : (x y : ℕ) → Together r x y → slice_index classes x ≤ y

-- the pairs of a state whose elements are below a count, by element, then by site
pub record ArePairsBelow (r : Regions) (count : ℕ) (pairs : List Pair) : Type 0 where
  pub same : (pair : Pair) → Contains pairs pair
      ↔ ((pair.element < count) × HasPair r pair.element pair.site)
  pub rising : ArePairsRising pairs

-- the line shows the state
pub record Shows (line : Line) (r : Regions) : Type 0 where
  pub classes : AreClassesOf r line.classes
  pub pairs : ArePairsBelow r (length r.labels) line.pairs

-- the text of a line that shows the state at a block of a function
pub record IsLineFor (function block : ℕ) (r : Regions) (text : List ℕ) : Type 0 where
  pub line : Line
  pub function_is : line.function ≡ function
  pub block_is : line.block ≡ block
  pub shows : Shows line r
  pub spelled : text ≡ line_text (numbers_of line)
