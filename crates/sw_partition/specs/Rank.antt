-- How far up a region state stands, and how far one can stand.
use Rattle.std.specs.Prelude.{ℕ, zero, suc, ◌+◌, ◌*◌, Bool, false, cond, ◌==◌, ◌&&◌, ◌||◌, List, []}
use Rattle.std.specs.Prelude.{◌∷◌, length, slice_index}
use Rattle.sw_partition.specs.Regions.{Regions, mark_of}

-- some number below n passes the test
abbrev pub any_below : ℕ → (ℕ → Bool) → Bool
any_below zero test = false
any_below (suc n) test = any_below n test || test n

-- the sum of f at the numbers below n
abbrev pub sum_below : ℕ → (ℕ → ℕ) → ℕ
sum_below zero f = 0
sum_below (suc n) f = sum_below n f + f n

-- how many numbers below n pass the test
abbrev pub count_below : ℕ → (ℕ → Bool) → ℕ
count_below n test = sum_below n (λ k. cond (test k) 1 0)

-- element x is not the first of its class
abbrev pub is_later : Regions → ℕ → Bool
is_later r x = any_below x (λ y. slice_index r.labels y == slice_index r.labels x)

-- element x has a pair with the site
abbrev pub has_pair : Regions → ℕ → ℕ → Bool
has_pair r x site = any_below (length r.sites)
    (λ k. (slice_index r.sites k == site) && (mark_of r x k == 1))

-- the elements that are not the first of their class, and the pairs
abbrev pub rank_of : Regions → ℕ
rank_of r = count_below (length r.labels) (is_later r) + sum_below (length r.labels)
    (λ x. count_below (length r.sites) (λ k. has_pair r x (slice_index r.sites k)))

-- elements * (sites + 1)
abbrev pub height_of : List ℕ → ℕ
height_of [] = 0
height_of (elements ∷ sites) = elements * (length sites + 1)
