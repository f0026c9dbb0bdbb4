-- What may stand where in a line of a certificate, number by number.
use Rattle.std.specs.Prelude.{◌≡◌, ℕ, ◌+◌, ◌*◌, ◌<◌, ◌≤◌, ◌⊎◌, Some, List, [], ◌∷◌, length}
use Rattle.std.specs.Prelude.{slice_get}
use Rattle.std.specs.Prelude.{slice_index}
use Rattle.sw_cert.specs.Certificate.{AreClasses}
use Rattle.sw_cert.specs.declared.line.Spot.{Spot}
use Rattle.sw_cert.specs.Form.{pair_count}
use Rattle.sw_cert.specs.declared.line.Extent.{Extent}
use Rattle.sw_cert.specs.declared.line.Pair.{Pair}

-- a line of the function and the block may stand at a place
abbrev pub RisesTo : Spot → ℕ → ℕ → Type 0
RisesTo spot function block = (spot.function < function)
    ⊎ ((spot.function ≡ function) × (spot.block ≤ block))

-- the function has a block that may have a line at a place
pub record HasBlock (extents : List Extent) (spot : Spot) (function : ℕ) : Type 0 where
  pub extent : Extent
  pub is_extent : slice_get extents function ≡ Some extent
  pub room : (spot.function < function)
      ⊎ ((spot.function ≡ function) × (spot.block < extent.blocks))

-- the function has this extent, and its block may have a line at a place
pub record HasLine (extents : List Extent) (spot : Spot) (function block : ℕ)
    (extent : Extent) : Type 0 where
  pub is_extent : slice_get extents function ≡ Some extent
  pub within : block < extent.blocks
  pub rises : RisesTo spot function block

-- the classes of all elements of a function
pub record HasClasses (extent : Extent) (classes : List ℕ) : Type 0 where
  pub all : length classes ≡ extent.elements
  pub are_classes : AreClasses classes

-- what may be named as the class of the next element: the element, or one that is its own least
abbrev pub MayBeNext : List ℕ → ℕ → Type 0
MayBeNext classes class = (class ≡ length classes)
    ⊎ ((class < length classes) × (slice_index classes class ≡ class))

-- the number of pairs, and what closes it: the line ends where there is none
abbrev pub ClosesCount : Extent → ℕ → ℕ → Type 0
ClosesCount extent n closer =
    ((n ≡ 0) × (closer ≡ 10)) ⊎ ((0 < n) × (n ≤ pair_count extent) × (closer ≡ 32))

-- The pair's place among all pairs of an element but `Here` and a site, in rising order: it stands
-- in a row, that of its element, and in a column, that of its site.
pub record HasRank (extent : Extent) (pair : Pair) (rank : ℕ) : Type 0 where
  pub row : ℕ
  pub column : ℕ
  pub is_row : pair.element ≡ row + 1
  pub below : row + 1 < extent.elements
  pub within : column < length extent.sites
  pub is_site : slice_index extent.sites column ≡ pair.site
  pub rank_is : rank ≡ row * length extent.sites + column

-- pairs with ranks that rise from a rank on, and the rank behind the last
abbrev pub RiseTo : Extent → ℕ → List Pair → ℕ → Type 0
RiseTo extent from [] to = to ≡ from
RiseTo extent from (pair ∷ pairs) to = (rank : ℕ) × (from ≤ rank) × HasRank extent pair rank
    × RiseTo extent (rank + 1) pairs to

-- the pair may stand from a rank on, if `left` pairs are to come, this one among them
pub record MayBePair (extent : Extent) (to left : ℕ) (pair : Pair) : Type 0 where
  pub rank : ℕ
  pub has_rank : HasRank extent pair rank
  pub rises : to ≤ rank
  pub room : rank + left ≤ pair_count extent

-- the site of the last pair ends the line
abbrev pub ClosesPair : ℕ → ℕ → Type 0
ClosesPair left closer = ((left ≡ 1) × (closer ≡ 10)) ⊎ ((1 < left) × (closer ≡ 32))
