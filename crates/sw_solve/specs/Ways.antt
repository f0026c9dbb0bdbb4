-- Ways through a flow from point 0.
use Rattle.std.specs.Prelude.{◌≡◌, ℕ, zero, suc, List, Contains}

-- a way of n edges from point 0 to q
abbrev pub IsWay : (ℕ → List ℕ) → ℕ → ℕ → Type 0
IsWay successors zero q = q ≡ 0
IsWay successors (suc n) q = (p : ℕ) × IsWay successors n p × Contains (successors p) q

-- some way leads from point 0 to q
abbrev pub HasWay : (ℕ → List ℕ) → ℕ → Type 0
HasWay successors q = (n : ℕ) × IsWay successors n q
