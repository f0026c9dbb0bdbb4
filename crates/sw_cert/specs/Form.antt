-- Certificates as texts of lines of numbers.
use Rattle.std.specs.Prelude.{◌≡◌, ℕ, ◌+◌, ◌-◌, ◌*◌, ◌^◌, ◌<◌, Some, List, length, slice_get}
use Rattle.std.specs.Prelude.{slice_index}
use Rattle.std.specs.List.{AllByRecursion}
use Rattle.std.specs.List.Sorted.{IsStrictlyIncreasing}
use Rattle.sw_dictation.specs.Lines.{LineForm}
use Rattle.sw_cert.specs.Certificate.{IsLineAt, numbers_of}
use Rattle.sw_cert.specs.declared.line.Spot.{Spot}
use Rattle.sw_cert.specs.declared.line.Extent.{Extent}
use Rattle.sw_cert.specs.declared.line.Line.{Line}

-- the numbers of a line that may stand at a place
pub record AreNumbersAt (extents : List Extent) (spot : Spot) (numbers : List ℕ) : Type 0 where
  pub line : Line
  pub is_at : IsLineAt extents spot line
  pub numbers_are : numbers ≡ numbers_of line

-- the place behind a line with these numbers
abbrev pub spot_behind : List ℕ → Spot
spot_behind numbers = record {
  function = slice_index numbers 0;
  block = slice_index numbers 1 + 1;
}

abbrev pub certificate_form : List Extent → LineForm Spot
certificate_form extents = record {
  IsLine = AreNumbersAt extents;
  past = λ spot numbers. spot_behind numbers;
}

-- how many pairs of an element but `Here` and a site there are
abbrev pub pair_count : Extent → ℕ
pair_count extent = (extent.elements - 1) * length extent.sites

-- the function has a block, its states have `Here`, and its numbers are of the size that is read
pub record IsFit (extent : Extent) : Type 0 where
  pub blocks : 0 < extent.blocks
  pub elements : 0 < extent.elements
  pub rising : IsStrictlyIncreasing extent.sites
  pub few_blocks : extent.blocks < 2 ^ 64
  pub few_elements : extent.elements < 2 ^ 64
  pub few_pairs : pair_count extent < 2 ^ 64
  pub small : AllByRecursion (λ site. site < 2 ^ 64) extent.sites

-- so has each function
pub record AreFit (extents : List Extent) : Type 0 where
  pub few : length extents < 2 ^ 64
  pub each : (n : ℕ) (extent : Extent) → slice_get extents n ≡ Some extent → IsFit extent
