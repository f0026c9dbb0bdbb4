-- Chains of values that rise strictly.
use Rattle.std.specs.Prelude.{◌≡◌, ℕ, List, [], ◌∷◌}

-- each value is strictly above the one before it, the first of the list above x, and all have one
-- size
abbrev pub IsRising : {X : Type 0} → (X → List ℕ) → (X → X → Type 0) → (X → X → Type 0) → X → List X
    → Type 0
IsRising size le alike x [] = Unit {0}
IsRising size le alike x (y ∷ ys) = (size x ≡ size y) × le x y × (¬ (alike x y))
    × IsRising size le alike y ys
