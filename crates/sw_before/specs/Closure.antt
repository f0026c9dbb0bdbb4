-- The transitive closure of a relation.
use Rattle.std.specs.Prelude.{ℕ}

pub data Closure (R : ℕ → ℕ → Type 0) : ℕ → ℕ → Type 0 where
  one : (p q : ℕ) → R p q → Closure R p q
  through : (p q r : ℕ) → Closure R p q → Closure R q r → Closure R p r
