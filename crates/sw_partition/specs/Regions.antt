-- Region states: an equivalence of the elements, and pairs of an element and a site that gave it
-- away.
use Rattle.std.specs.Prelude.{◌≡◌, ℕ, ◌+◌, ◌*◌, ◌/◌, ◌%◌, ◌<◌, List, ◌∷◌, length, slice_index, ◌↔◌}
use Rattle.std.specs.Int.{bit_at}

-- a table of the elements' classes, the sites in rising order, and a table of pairs: for each
-- element a row of bits, one for each site, in words of 64
pub record Regions : Type 0 where
  pub labels : List ℕ
  pub sites : List ℕ
  pub words : List ℕ

-- the elements and the sites of a state, which no operation changes
abbrev pub size_of : Regions → List ℕ
size_of r = length r.labels ∷ r.sites

-- how many words a row of n bits takes
abbrev pub words_for : ℕ → ℕ
words_for bits = (bits + 63) / 64

-- bit n of a table of words
abbrev pub bit_of : List ℕ → ℕ → ℕ
bit_of words n = bit_at (slice_index words (n / 64)) (n % 64)

-- the bit of element x for the site of a column
abbrev pub mark_of : Regions → ℕ → ℕ → ℕ
mark_of r x column = bit_of r.words (x * (words_for (length r.sites) * 64) + column)

-- elements x and y are in one class
pub record Together (r : Regions) (x y : ℕ) : Type 0 where
  pub left : x < length r.labels
  pub right : y < length r.labels
  pub same : slice_index r.labels x ≡ slice_index r.labels y

-- element x has a pair with the site
pub record HasPair (r : Regions) (x site : ℕ) : Type 0 where
  pub element : x < length r.labels
  pub column : ℕ
  pub in_range : column < length r.sites
  pub is_site : slice_index r.sites column ≡ site
  pub marked : mark_of r x column ≡ 1

-- element x has a pair with some site
abbrev pub HasSomePair : Regions → ℕ → Type 0
HasSomePair r x = (site : ℕ) × HasPair r x site

-- the order of states: the equivalence and the set of pairs are included
pub record IsWithin (a b : Regions) : Type 0 where
  pub together : (x y : ℕ) → Together a x y → Together b x y
  pub pairs : (x site : ℕ) → HasPair a x site → HasPair b x site

-- the two are one state: they have the same equivalence and the same pairs
pub record IsSameState (a b : Regions) : Type 0 where
  pub together : (x y : ℕ) → Together a x y ↔ Together b x y
  pub pairs : (x site : ℕ) → HasPair a x site ↔ HasPair b x site
