-- Whole lists of tokens: what they spell, and the first token that no spelling has.
use Rattle.std.specs.Prelude.{◌≡◌, ℕ, suc, ◌<◌, ◌≤◌, List, ◌++◌, length, take}
use Rattle.sw_token.specs.Spelling.{Spelled, IsSpelling}
use Rattle.sw_grammar_forms.specs.Relations.{Relation}

-- The tokens are a spelling, and the relation gives the value for them.
pub record IsSpelledAs {A : Type 0} (R : Relation A) (value : A)
    (tokens : List Spelled) : Type 0 where
  pub spelling : IsSpelling tokens
  pub form : R value tokens

-- some value has these tokens as a spelling
abbrev pub IsSpelled : {A : Type 0} → Relation A → List Spelled → Type 0
IsSpelled {A} R tokens = (value : A) × IsSpelledAs R value tokens

-- some value has a spelling that begins with these tokens
abbrev pub Begins : {A : Type 0} → Relation A → List Spelled → Type 0
Begins {A} R tokens = (value : A) × (others : List Spelled) × IsSpelledAs R value (tokens ++ others)

-- The first `n` tokens begin a spelling. With the next they begin none; where there is no next,
-- they are none themselves.
pub record IsUnexpectedIn {A : Type 0} (R : Relation A) (tokens : List Spelled)
    (n : ℕ) : Type 0 where
  pub within : n ≤ length tokens
  pub begun : Begins R (take n tokens)
  pub refused : n < length tokens → ¬ Begins R (take (suc n) tokens)
  pub unfinished : n ≡ length tokens → ¬ IsSpelled R tokens

-- Where nests have a limit: `Opens` is said of tokens the last of which opens a nest too many.

-- No token among the first `n` opens a nest too many.
abbrev pub IsShallow : (List Spelled → Type 0) → List Spelled → ℕ → Type 0
IsShallow Opens tokens n = (m : ℕ) → m < n → ¬ Opens (take (suc m) tokens)

-- The token after the first `n` is the first that opens a nest too many, and some spelling begins
-- with it and those before it.
pub record IsTooDeepIn {A : Type 0} (Opens : List Spelled → Type 0) (R : Relation A)
    (tokens : List Spelled) (n : ℕ) : Type 0 where
  pub within : n < length tokens
  pub begun : Begins R (take (suc n) tokens)
  pub opens : Opens (take (suc n) tokens)
  pub first : IsShallow Opens tokens n
