-- The tables of a partition.
use Rattle.std.specs.Prelude.{◌≡◌, ◌≢◌, ℕ, ◌+◌, ◌*◌, ◌^◌, ◌<◌, ◌≤◌, ◌↔◌, max, Bool, true, false}
use Rattle.std.specs.Prelude.{List, length, slice_index, ◌==◌, if◌then◌else◌}
use Rattle.std.specs.List.Sorted.{IsStrictlyIncreasing}
use Rattle.sw_partition.specs.Regions.{words_for, bit_of}

-- each label is an element, and labels itself: it is in the class that it names
pub record AreLabels (labels : List ℕ) : Type 0 where
  pub within : (p : ℕ) → p < length labels → slice_index labels p < length labels
  pub own : (p : ℕ) → p < length labels
      → slice_index labels (slice_index labels p) ≡ slice_index labels p

-- the numbers below count, in order
pub record AreNumbers (count : ℕ) (labels : List ℕ) : Type 0 where
  pub length_is : length labels ≡ count
  pub each : (p : ℕ) → p < count → slice_index labels p ≡ p

-- one label in place of another
pub record IsRelabeled (from to : ℕ) (old new : List ℕ) : Type 0 where
  pub length_same : length new ≡ length old
  pub each : (p : ℕ) → p < length old
      → slice_index new p ≡ (if slice_index old p == from then to else slice_index old p)

-- element x labels itself, and another element of its class, if there is one, labels the others
-- that x labelled
pub record IsReleased (x : ℕ) (old new : List ℕ) : Type 0 where
  pub length_same : length new ≡ length old
  pub heir : ℕ
  pub is_heir : (p : ℕ) → p < length old → p ≢ x → slice_index old p ≡ x → (heir < length old)
      × (heir ≢ x) × (slice_index old heir ≡ x)
  pub at : slice_index new x ≡ x
  pub others : (p : ℕ) → p < length old → p ≢ x
      → slice_index new p ≡ (if slice_index old p == x then heir else slice_index old p)

-- elements that the first table puts together are together in the second
pub record IsCoarser (a b : List ℕ) : Type 0 where
  pub each : (p q : ℕ) → p < length a → q < length a → slice_index a p ≡ slice_index a q
      → slice_index b p ≡ slice_index b q

-- the finest table that is coarser than both; `rose` says whether it is another than the old one
pub record IsUnited (old other new : List ℕ) (rose : Bool) : Type 0 where
  pub length_same : length new ≡ length old
  pub labels : AreLabels new
  pub keeps : IsCoarser old new
  pub takes : IsCoarser other new
  pub least : (z : List ℕ) → IsCoarser old z → IsCoarser other z → IsCoarser new z
  pub unchanged : rose ≡ false → new ≡ old
  pub changed : rose ≡ true → IsCoarser new old → ⊥

-- links: each element is linked to itself or to one below it
pub record AreLinks (links : List ℕ) : Type 0 where
  pub down : (p : ℕ) → p < length links → slice_index links p ≤ p

-- the table z puts each element together with the one that it is linked to, or labelled by
pub record KeepsLinks (links z : List ℕ) : Type 0 where
  pub each : (p : ℕ) → p < length links → slice_index z p ≡ slice_index z (slice_index links p)

-- links that are kept by the same tables as the old labels
pub record IsSunk (old new : List ℕ) : Type 0 where
  pub length_same : length new ≡ length old
  pub links : AreLinks new
  pub same : (z : List ℕ) → KeepsLinks new z ↔ KeepsLinks old z

-- links that are kept by the tables that keep the old ones and put x and y together
pub record IsLinked (x y : ℕ) (old new : List ℕ) : Type 0 where
  pub length_same : length new ≡ length old
  pub links : AreLinks new
  pub same : (z : List ℕ) → KeepsLinks new z
      ↔ (KeepsLinks old z × (slice_index z x ≡ slice_index z y))

-- the finest table of labels that keeps the links
pub record IsFlattened (old new : List ℕ) : Type 0 where
  pub length_same : length new ≡ length old
  pub labels : AreLabels new
  pub keeps : KeepsLinks old new
  pub least : (z : List ℕ) → KeepsLinks old z → KeepsLinks new z

-- the tables of a partition: element 0 is there and has no pair, the sites rise, and no bit is set
-- beyond the sites
pub record AreTables (labels sites words : List ℕ) : Type 0 where
  pub here : 0 < length labels
  pub few : length labels < 2 ^ 32
  pub labelled : AreLabels labels
  pub rising : IsStrictlyIncreasing sites
  pub full : length words ≡ length labels * words_for (length sites)
  pub clear : (x k : ℕ) → x < length labels → length sites ≤ k → k < words_for (length sites) * 64
      → bit_of words (x * (words_for (length sites) * 64) + k) ≡ 0
  pub here_bare : (k : ℕ) → k < words_for (length sites) * 64
      → bit_of words (0 * (words_for (length sites) * 64) + k) ≡ 0

-- `count` words from an index on are 0, and the others are as they were
pub record IsCleared (from count : ℕ) (old new : List ℕ) : Type 0 where
  pub length_same : length new ≡ length old
  pub inside : (i : ℕ) → i < count → slice_index new (from + i) ≡ 0
  pub before : (i : ℕ) → i < from → slice_index new i ≡ slice_index old i
  pub after : (i : ℕ) → from + count ≤ i → slice_index new i ≡ slice_index old i

-- `count` words are copied from one index to another, and the others are as they were
pub record IsCopied (from to count : ℕ) (old new : List ℕ) : Type 0 where
  pub length_same : length new ≡ length old
  pub inside : (i : ℕ) → i < count → slice_index new (to + i) ≡ slice_index old (from + i)
  pub before : (i : ℕ) → i < to → slice_index new i ≡ slice_index old i
  pub after : (i : ℕ) → to + count ≤ i → slice_index new i ≡ slice_index old i

-- the words take in the bits of the others; `rose` says whether that changed them
pub record IsFilled (old other new : List ℕ) (rose : Bool) : Type 0 where
  pub length_same : length new ≡ length old
  pub each : (n : ℕ) → bit_of new n ≡ max (bit_of old n) (bit_of other n)
  pub unchanged : rose ≡ false → new ≡ old
  pub changed : rose ≡ true → ((n : ℕ) → bit_of new n ≡ bit_of old n) → ⊥

-- bit n is set, and the others are as they were
pub record SetsBit (n : ℕ) (old new : List ℕ) : Type 0 where
  pub length_same : length new ≡ length old
  pub set : bit_of new n ≡ 1
  pub others : (m : ℕ) → m ≢ n → bit_of new m ≡ bit_of old m

-- the bit of a column is set in the row of each element but 0 with the label, and the others are as
-- they were
pub record IsClassMarked (labels : List ℕ) (label stride column : ℕ)
    (old new : List ℕ) : Type 0 where
  pub length_same : length new ≡ length old
  pub set : (p : ℕ) → 0 < p → p < length labels → slice_index labels p ≡ label
      → bit_of new (p * stride + column) ≡ 1
  pub others : (p k : ℕ) → k < stride
      → ((k ≡ column) × (p ≢ 0) × (slice_index labels p ≡ label) → ⊥)
      → bit_of new (p * stride + k) ≡ bit_of old (p * stride + k)

-- the first bit that is set in a row of `count` words
pub record IsFirstBit (words : List ℕ) (from count bit : ℕ) : Type 0 where
  pub in_row : bit < count * 64
  pub set : bit_of words (from * 64 + bit) ≡ 1
  pub clear : (k : ℕ) → k < bit → bit_of words (from * 64 + k) ≡ 0

-- a row of `count` words has no bit that is set
pub record IsClearRow (words : List ℕ) (from count : ℕ) : Type 0 where
  pub each : (k : ℕ) → k < count * 64 → bit_of words (from * 64 + k) ≡ 0

-- the bits that are set in the first words are set in the second
pub record AreBitsWithin (a b : List ℕ) : Type 0 where
  pub each : (n : ℕ) → bit_of a n ≤ bit_of b n
