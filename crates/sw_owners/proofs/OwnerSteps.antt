-- One cell more of which it is said who owns it.
use Rattle.std.proofs.Common.{◌≡◌, ℕ, ◌+◌, zero, suc, List, [], ◌∷◌, ◌++◌, Option, Some, None}
use Rattle.std.proofs.Common.{ap, ◌∙◌, arith, append-nil, add-one}
use Rattle.std.specs.List.{filter_map, range_with_len}
use Rattle.std.proofs.lemmas.List.Elements.{filter_map-append}

last : (a n j : ℕ) → a + n ≡ j → range_with_len a (suc n) ≡ range_with_len a n ++ j ∷ []
last a zero j at = let same : a ≡ j = omega (arith, at) in ap (λ k. k ∷ []) same
last a (suc n) j at = ap (λ l. a ∷ l) (last (a + 1) n j (omega (arith, at)))

-- the number of cells that were looked at, and the next
module _ {A : Type 0} (f : ℕ → Option A) (n : ℕ) where
  next : filter_map f (range_with_len 0 (n + 1))
      ≡ filter_map f (range_with_len 0 n) ++ filter_map f (n ∷ [])
  next =
      rw add-one
      (ap (filter_map f) (last 0 n n (omega arith))
      ∙ filter_map-append f (range_with_len 0 n) (n ∷ []))

  -- a cell that isn't coloured
  pub next_bare : (now : List A) → now ≡ filter_map f (range_with_len 0 n) → f n ≡ None
      → now ≡ filter_map f (range_with_len 0 (n + 1))
  next_bare now is none = rw (next, none, append-nil) is

  -- a cell that is
  pub next_owned : (now after : List A) (owned : A) → now ≡ filter_map f (range_with_len 0 n)
      → f n ≡ Some owned → after ≡ now ++ owned ∷ []
      → after ≡ filter_map f (range_with_len 0 (n + 1))
  next_owned now after owned is some push = rw (next, some, push) (ap (λ l. l ++ owned ∷ []) is)
