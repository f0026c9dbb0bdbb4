-- Certificates: the lines of annotations of a graph's blocks with region states.
use Rattle.std.specs.Prelude.{◌≡◌, ◌≢◌, ℕ, ◌+◌, ◌<◌, ◌≤◌, ◌⊎◌, Some, List, [], ◌∷◌, ◌++◌, length}
use Rattle.std.specs.Prelude.{slice_get, slice_index, flat_map, Contains}
use Rattle.std.specs.List.{AllByRecursion}
use Rattle.sw_dictation.specs.Lines.{line_text}
use Rattle.sw_cert.specs.declared.line.Extent.{Extent}
use Rattle.sw_cert.specs.declared.line.Line.{Line}
use Rattle.sw_cert.specs.declared.line.Pair.{Pair}
use Rattle.sw_cert.specs.declared.line.Spot.{Spot}

-- the numbers of pairs: of each its element and its site
abbrev pub pair_numbers : List Pair → List ℕ
pair_numbers pairs = flat_map (λ pair. pair.element ∷ pair.site ∷ []) pairs

-- The numbers of a line: its function and its block, how many elements there are and the classes of
-- each, how many pairs there are and each pair.
abbrev pub numbers_of : Line → List ℕ
numbers_of line =
    line.function ∷ line.block ∷ length line.classes
    ∷ (line.classes ++ length line.pairs ∷ pair_numbers line.pairs)

-- by element, then by site
abbrev pub IsPairBefore : Pair → Pair → Type 0
IsPairBefore one other =
    (one.element < other.element) ⊎ ((one.element ≡ other.element) × (one.site < other.site))

-- each pair is before the next one
abbrev pub ArePairsRising : List Pair → Type 0
ArePairsRising [] = Unit {0}
ArePairsRising (one ∷ []) = Unit {0}
ArePairsRising (one ∷ other ∷ pairs) = IsPairBefore one other × ArePairsRising (other ∷ pairs)

-- of each element the least one of its class: it is at most that element, and its own least
abbrev pub AreClasses : List ℕ → Type 0
AreClasses classes = (x : ℕ) → x < length classes → (slice_index classes x ≤ x)
    × (slice_index classes (slice_index classes x) ≡ slice_index classes x)

-- an element other than `Here`, and a site of the function
pub record IsPairOf (extent : Extent) (pair : Pair) : Type 0 where
  pub not_here : pair.element ≢ 0
  pub element : pair.element < extent.elements
  pub site : Contains extent.sites pair.site

-- the line is one of a function with this extent
pub record IsLineOf (extent : Extent) (line : Line) : Type 0 where
  pub block : line.block < extent.blocks
  pub elements : length line.classes ≡ extent.elements
  pub classes : AreClasses line.classes
  pub pairs : AllByRecursion (IsPairOf extent) line.pairs
  pub rising : ArePairsRising line.pairs

abbrev pub start : Spot
start = record { function = 0; block = 0 }

-- the place behind a line: lines rise by function, then by block
abbrev pub behind : Line → Spot
behind line = record { function = line.function; block = line.block + 1 }

-- a line of one of the functions, which may stand at a place
pub record IsLineAt (extents : List Extent) (spot : Spot) (line : Line) : Type 0 where
  pub extent : Extent
  pub is_extent : slice_get extents line.function ≡ Some extent
  pub fits : IsLineOf extent line
  pub rises : (spot.function < line.function)
      ⊎ ((spot.function ≡ line.function) × (spot.block ≤ line.block))

-- lines that rise from a place on
abbrev pub AreLinesFrom : List Extent → Spot → List Line → Type 0
AreLinesFrom extents spot [] = Unit {0}
AreLinesFrom extents spot (line ∷ lines) =
    IsLineAt extents spot line × AreLinesFrom extents (behind line) lines

-- the bytes are a certificate with these lines
pub record IsCertificate (extents : List Extent) (bytes : List ℕ) (lines : List Line) : Type 0 where
  pub are_lines : AreLinesFrom extents start lines
  pub spelled : bytes ≡ flat_map (λ line. line_text (numbers_of line)) lines
