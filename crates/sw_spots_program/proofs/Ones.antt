-- Numbers among others, by how often they stand there.
use Rattle.std.proofs.Common.{ℕ, ◌≤◌, inl, inr, [], ◌∷◌}
use Rattle.std.proofs.Common.{Contains, ap, sym, arith}
use Rattle.sw_tree.proofs.Counting.{count, hits, hits_same, in_all-cons}
use Rattle.sw_tree.proofs.KeyMembers.{contained}
use Rattle.sw_tree.specs.Keys.{Keys}
use Rattle.sw_spots.specs.Making.{AreOnce, IsOne}

-- One of them is counted.
pub one_counted : (list : Keys) (key : ℕ) → IsOne list key → 1 ≤ count list key
one_counted [] key one = absurd one
one_counted (first ∷ list) key (inl same) =
    omega (
      arith,
      in_all-cons hits first list key,
      ap (λ k. hits k key) (sym same),
      hits_same key,
    )
one_counted (first ∷ list) key (inr one) =
    omega (arith, in_all-cons hits first list key, one_counted list key one)

-- Those that are each counted once at most differ.
pub once_by : (list : Keys) → ((key : ℕ) → count list key ≤ 1) → AreOnce list
once_by [] few = tt
once_by (first ∷ list) few = (
  (λ one. absurd (omega (
    arith,
    few first,
    in_all-cons hits first list first,
    hits_same first,
    one_counted list first one,
  ))),
  once_by list (λ key. omega (arith, few key, in_all-cons hits first list key)),
)

pub one_contained : (list : Keys) (key : ℕ) → IsOne list key → Contains list key
one_contained list key one = contained list key (one_counted list key one)
