-- The pairs of a line while they are read.
use Rattle.std.specs.Prelude.{◌≡◌, ℕ, ◌+◌, ◌<◌, ◌≤◌, ◌⊎◌, ◌∷◌, ◌++◌, List, length}
use Rattle.sw_cert.specs.Begun.{IsBegun, IsNext, IsRead}
use Rattle.sw_cert.specs.Certificate.{pair_numbers}
use Rattle.sw_cert.specs.Choices.{HasLine, HasClasses, HasRank, RiseTo, MayBePair, ClosesPair}
use Rattle.sw_cert.specs.Form.{pair_count}
use Rattle.sw_cert.specs.declared.line.Extent.{Extent}
use Rattle.sw_cert.specs.declared.line.Line.{Line}
use Rattle.sw_cert.specs.declared.line.Pair.{Pair}
use Rattle.sw_cert.specs.declared.line.Spot.{Spot}
use Rattle.sw_cert.specs.declared.pairs.Pending.{Pending}

-- the number of pairs, of at most so many, and what closes it
abbrev pub MayBeCount : ℕ → ℕ → ℕ → Type 0
MayBeCount most n c =
    ((n ≡ 0) × (c ≡ 10)) ⊎ ((0 < n) × (n ≤ most) × (c ≡ 32))

-- the element of a pair that may stand from a rank on, if `left` are to come
abbrev pub MayBeElement : Extent → ℕ → ℕ → ℕ → ℕ → Type 0
MayBeElement extent to left n c =
    (c ≡ 32) × ((pair : Pair) × (pair.element ≡ n) × MayBePair extent to left pair)

-- its site
abbrev pub MayBeSite : Extent → ℕ → ℕ → ℕ → ℕ → ℕ → Type 0
MayBeSite extent to left element n c = ClosesPair left c
    × MayBePair extent to left (record { element = element; site = n })

-- the next pair stands there with its rank, and `end` is the place behind it
pub record IsNextPair (extent : Extent) (text : List ℕ) (pending : Pending) (pair : Pair)
    (rank end : ℕ) : Type 0 where
  pub site_at : ℕ
  pub element : IsNext (MayBeElement extent pending.to pending.left) text pending.at pair.element
      site_at
  pub site : IsNext (MayBeSite extent pending.to pending.left pair.element) text site_at pair.site
      end
  pub has_rank : HasRank extent pair rank

-- a line of which the pairs before a rank are read, and `left` are to come
pub record IsPairing (extents : List Extent) (spot : Spot) (text : List ℕ) (line : Line)
    (to left at : ℕ) : Type 0 where
  pub extent : Extent
  pub has_line : HasLine extents spot line.function line.block extent
  pub has_classes : HasClasses extent line.classes
  pub rise : RiseTo extent 0 line.pairs to
  pub room : to + left ≤ pair_count extent
  pub begun : IsBegun text (line.function ∷ line.block ∷ extent.elements
      ∷ (line.classes ++ (length line.pairs + left) ∷ pair_numbers line.pairs)) at

-- the pairs of a line so far are read, or all of them
abbrev pub ArePairsRead : List Extent → Spot → List ℕ → Line → Pending → Type 0
ArePairsRead extents spot text line pending =
    ((0 < pending.left) × IsPairing extents spot text line pending.to pending.left pending.at)
    ⊎ ((pending.left ≡ 0) × IsRead extents spot text line pending.at)
