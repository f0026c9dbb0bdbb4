-- Numbers that merge.
use Rattle.std.proofs.Common.{◌≡◌, ◌≢◌, ℕ, min, max, arith}
use Rattle.std.specs.Prelude.{if◌then◌else◌, ◌==◌}
use Rattle.std.proofs.lemmas.Bool.Decides.{nat_tests}

-- the number that is left of m where what is left of two numbers, a and b, merges
abbrev pub joined : ℕ → ℕ → ℕ → ℕ
joined a b m = if m == max a b then min a b else m

-- the order of two merges doesn't matter
pub joins_commute : (a b h x m : ℕ)
    → joined (joined a b h) (joined a b x) (joined a b m)
    ≡ joined (joined h x a) (joined h x b) (joined h x m)
joins_commute a b h x m = grind (arith, nat_tests)

pub joined_first : (a b m : ℕ) → m ≡ a → joined a b m ≡ min a b
joined_first a b m e = grind (arith, nat_tests)

pub joined_second : (a b m : ℕ) → m ≡ b → joined a b m ≡ min a b
joined_second a b m e = grind (arith, nat_tests)

pub joined_other : (a b m : ℕ) → m ≢ a → m ≢ b → joined a b m ≡ m
joined_other a b m no_a no_b = grind (arith, nat_tests, no_a, no_b)

-- what is left of two merged numbers is left of no other
pub joined_apart : (a b m : ℕ) → m ≢ a → m ≢ b → (n : ℕ) → joined a b m ≡ joined a b n → m ≡ n
joined_apart a b m no_a no_b n e = grind (arith, nat_tests, no_a, no_b)

pub joined_same : (a m : ℕ) → joined a a m ≡ m
joined_same a m = grind (arith, nat_tests)
