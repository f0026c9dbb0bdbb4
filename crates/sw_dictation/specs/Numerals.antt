-- Numbers of any size in decimal.
use Rattle.std.specs.Prelude.{ℕ, ◌+◌, ◌==◌, if◌then◌else◌, List, [], ◌∷◌, map}
use Rattle.std.specs.Int.Digits.{digits_of}

-- the digits of a number, with no leading zero
unfoldable pub numeral : ℕ → List ℕ
numeral n = if n == 0 then 48 ∷ [] else map (λ d. 48 + d) (digits_of 10 n)
