-- A number in decimal at the beginning of bytes, of those that may stand there, and the byte that
-- closes it.
use Rattle.std.specs.Prelude.{◌≡◌, ℕ, ◌≤◌, ◌⊎◌, eqb, List, [], ◌∷◌, ◌++◌, length, take, Contains}
use Rattle.std.specs.List.{common_prefix_len}
use Rattle.sw_dictation.specs.Numerals.{numeral}

-- a number and the byte that closes it
abbrev pub spelled : ℕ → ℕ → List ℕ
spelled n closer = numeral n ++ closer ∷ []

-- how many bytes two texts have in common at their beginnings
abbrev pub common_len : List ℕ → List ℕ → ℕ
common_len xs ys = common_prefix_len (λ (x : ℕ) (y : ℕ). eqb x y) xs ys

-- the bytes begin with the number and the byte that closes it
abbrev pub BeginsWith : ℕ → ℕ → List ℕ → Type 0
BeginsWith n closer bytes = (rest : List ℕ) × (bytes ≡ spelled n closer ++ rest)

-- a number of the first list closed by a line feed, or one of the second closed by a blank
abbrev pub IsOffered : List ℕ → List ℕ → ℕ → ℕ → Type 0
IsOffered ending going n closer =
    ((closer ≡ 10) × Contains ending n) ⊎ ((closer ≡ 32) × Contains going n)

-- the bytes begin with a number that is offered, of which this is the length with its closer
pub record IsSaid (Offered : ℕ → ℕ → Type 0) (bytes : List ℕ) (n len : ℕ) : Type 0 where
  pub closer : ℕ
  pub offered : Offered n closer
  pub begins : BeginsWith n closer bytes
  pub len_is : len ≡ length (spelled n closer)

-- The bytes begin with no number that is offered, and `at` is the most that they have in common
-- with one.
pub record IsNone (Offered : ℕ → ℕ → Type 0) (bytes : List ℕ) (at : ℕ) : Type 0 where
  pub within : at ≤ length bytes
  pub none : (n closer : ℕ) → Offered n closer → ¬ (BeginsWith n closer bytes)
  pub some : (at ≡ 0) ⊎ ((n closer : ℕ) × Offered n closer
      × ((more : List ℕ) × (spelled n closer ≡ take at bytes ++ more)))
  pub longest : (n closer : ℕ) → Offered n closer → common_len bytes (spelled n closer) ≤ at
