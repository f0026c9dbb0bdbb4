-- The first of the marked numbers, by their places.
use Rattle.std.proofs.Common.{◌≡◌, ℕ, ◌+◌, ◌<◌, ◌≤◌, true, false, Bool, List, get_or, arith, sym}
use Rattle.std.proofs.Common.{◌∙◌}
use Rattle.std.proofs.lemmas.Bool.{false≢true}
use borrow.Author.Count.{below_more}

-- it is marked, and of the marked numbers below n none has a smaller place
abbrev pub IsFirstBelow : List Bool → (ℕ → ℕ) → ℕ → ℕ → Type 0
IsFirstBelow marks place n first = (get_or marks first false ≡ true)
    × ((k : ℕ) → k < n → get_or marks k false ≡ true → place first ≤ place k)

module _ (marks : List Bool) (place : ℕ → ℕ) (n first : ℕ) where
  pub first_taken : IsFirstBelow marks place n first → get_or marks n false ≡ true
      → place n < place first → IsFirstBelow marks place (n + 1) n
  first_taken is here before = (
    here,
    below_more (λ k. get_or marks k false ≡ true → place n ≤ place k)
        n (λ k lt marked. let after = is.1 k lt marked in omega arith) (λ marked. omega arith),
  )

  pub first_kept : IsFirstBelow marks place n first → place first ≤ place n
      → IsFirstBelow marks place (n + 1) first
  first_kept is after = (
    is.0,
    below_more (λ k. get_or marks k false ≡ true → place first ≤ place k)
        n is.1 (λ marked. after),
  )

  pub first_passed : IsFirstBelow marks place n first → get_or marks n false ≡ false
      → IsFirstBelow marks place (n + 1) first
  first_passed is not = (
    is.0,
    below_more (λ k. get_or marks k false ≡ true → place first ≤ place k)
        n is.1 (λ marked. absurd (false≢true (sym not ∙ marked))),
  )
