-- Paths one after the other, and within the edges: no number beyond them leads back to itself.
use Rattle.std.proofs.Common.{◌≡◌, ◌↔◌, ℕ, ◌<◌, inl, inr, Bool, false, List, [], length, get_or}
use Rattle.std.proofs.Common.{All, sym, subst, ◌∙◌, arith}
use Rattle.std.proofs.lemmas.Bool.{cases_lt, false≢true}
use Rattle.std.proofs.lemmas.List.{get_or_past}
use Rattle.sw_types.specs.Paths.{IsEdge, Path, one, more, AreInRange}
use Rattle.sw_types.specs.Walks.{Marked}

-- two paths, one after the other
pub joined : (edges : List (List ℕ)) (a b c : ℕ) → Path edges a b → Path edges b c → Path edges a c
joined edges a b c path (one d leads) = more b d path leads
joined edges a b c path (more d e rest leads) = more d e (joined edges a b d path rest) leads

-- a path begins and ends within the edges
pub path_begins : (edges : List (List ℕ)) (a b : ℕ) → Path edges a b → a < length edges
path_begins edges a b (one c leads) = leads_from edges a c leads
  where
    leads_from : (edges : List (List ℕ)) (a b : ℕ) → IsEdge edges a b → a < length edges
    leads_from edges a b (k, lt, e) = elim (cases_lt a (length edges)) [
      | inl here ↦ here
      | inr le ↦ absurd (let gone : k < 0 =
          subst (λ row. k < length row) (get_or_past edges a [] le) lt in omega arith)
    ]
path_begins edges a b (more c d path leads) = path_begins edges a c path

-- what a number leads to is in range
pub leads_within : (edges : List (List ℕ)) → AreInRange edges → (a : ℕ)
    → All (λ b. b < length edges) (get_or edges a [])
leads_within edges are a = elim (cases_lt a (length edges)) [
  | inl lt ↦ are a [] lt
  | inr le ↦ subst (All (λ b. b < length edges)) (sym (get_or_past edges a [] le))
      (λ k d under. absurd (omega arith))
]

-- a number in range is marked exactly where it leads back to itself, also beyond the last one
pub marks_beyond : (edges : List (List ℕ)) (marks : List Bool) → length marks ≡ length edges
    → ((k : ℕ) → k < length edges → Marked marks k ↔ Path edges k k)
    → (k : ℕ) → Marked marks k ↔ Path edges k k
marks_beyond edges marks sized says k = elim (cases_lt k (length edges)) [
  | inl lt ↦ says k lt
  | inr le ↦ (
    λ marked. absurd (false≢true (sym (get_or_past marks k false (omega (arith, sized)))
        ∙ marked)),
    λ path. absurd (let begins = path_begins edges k k path in omega arith),
  )
]
