-- How bytes begin.
use Rattle.std.specs.Prelude.{ℕ, Bool, List, [], ◌∷◌}
use Rattle.std.specs.Bool.{IsFalse}

-- the bytes don't begin with one that passes the test
abbrev pub BeginsWithout : (ℕ → Bool) → List ℕ → Type 0
BeginsWithout test [] = Unit {0}
BeginsWithout test (byte ∷ _) = IsFalse (test byte)
