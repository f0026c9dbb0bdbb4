-- The length of a rising chain.
use Rattle.std.proofs.Common.{◌≡◌, ℕ, ◌+◌, ◌<◌, ◌≤◌, List, [], ◌∷◌, length, sym, subst, arith}
use Rattle.sw_solve.specs.Chain.{IsRising}

-- a chain's length and the rank of its first value stay within the height
pub length-rising : {X : Type 0} (size : X → List ℕ) (le alike : X → X → Type 0) (rank : X → ℕ)
    (height : List ℕ → ℕ)
    → ((a b : X) → size a ≡ size b → le a b → (¬ (alike a b)) → rank a < rank b)
    → ((a : X) → rank a ≤ height (size a)) → (x : X) (ys : List X) → IsRising size le alike x ys
    → rank x + length ys ≤ height (size x)
length-rising size le alike rank height rises bounded x [] chain = omega (arith, bounded x)
length-rising size le alike rank height rises bounded x (y ∷ ys) (same, below, apart, rest) =
    let here = rises x y same below apart in
    let above : rank y + length ys ≤ height (size x) =
    subst (λ s. rank y + length ys ≤ height s) (sym same)
    (length-rising size le alike rank height rises bounded y ys rest) in
    omega (arith, here, above)
