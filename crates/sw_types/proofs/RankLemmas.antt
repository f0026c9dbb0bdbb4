-- Ranks from an order.
use Rattle.std.proofs.Common.{◌≡◌, ℕ, ◌<◌, ◌≤◌, List, length, get_or, Contains, nat_eq, sym}
use Rattle.std.proofs.Common.{subst, ◌∙◌, arith, inl, inr}
use Rattle.std.specs.List.{position_or_len}
use Rattle.std.proofs.lemmas.Bool.{cases_lt, eqb-true, eq-eqb, false≢true}
use Rattle.std.proofs.lemmas.List.{get_or-take, length-take}
use Rattle.std.proofs.lemmas.List.Sums.{fails_before_first, passes_at_first}
use Rattle.sw_types.specs.Paths.{IsEdge, Path, one, more, AreRanked, IsOrder}
use Rattle.sw_types.proofs.Searching.{path_begins}

-- where a number stands first
place_in : List ℕ → ℕ → ℕ
place_in order k = position_or_len (nat_eq k) order

-- a number stands no later than at any place where it is
place-le : (order : List ℕ) (k i : ℕ) → i < length order → get_or order i k ≡ k
    → place_in order k ≤ i
unfolding place_in
place-le order k i lt e = elim (cases_lt i (place_in order k)) [
  | inr le ↦ le
  | inl before ↦ absurd (false≢true (sym (fails_before_first (nat_eq k) order i k before)
      ∙ eq-eqb k (get_or order i k) (sym e)))
]

place_within : (order : List ℕ) (k : ℕ) → Contains order k → place_in order k < length order
place_within order k (i, lt, e) = let le = place-le order k i lt e in omega arith

at_place : (order : List ℕ) (k : ℕ) → Contains order k → get_or order (place_in order k) 0 ≡ k
unfolding place_in
at_place order k has =
    sym (eqb-true k _ (passes_at_first (nat_eq k) order 0 (place_within order k has)))

-- the place in an order is a rank
pub ranked : (edges : List (List ℕ)) (order : List ℕ) → IsOrder edges order → AreRanked edges
ranked edges order is = record {
  rank = place_in order;
  falls = λ a b leads.
      let here = is.all a (path_begins edges a b (one b leads)) in
      let before = is.ordered (place_in order a) b (place_within order a here)
      (subst (λ k. IsEdge edges k b) (sym (at_place order a here)) leads) in
      let lt : before.0 < place_in order a =
      omega (arith, before.1, length-take (place_in order a) order) in
      let le = place-le order b before.0
      (let far = place_within order a here in omega arith)
      (sym (get_or-take (place_in order a) order before.0 b lt) ∙ before.2) in
      omega (arith, lt, le);
  bounded = λ a lt. let here = place_within order a (is.all a lt) in omega (arith, here, is.short);
}

-- along a path ranks fall
path_falls : (edges : List (List ℕ)) (are : AreRanked edges) (a b : ℕ) → Path edges a b
    → are.rank b < are.rank a
path_falls edges are a b (one c leads) = are.falls a c leads
path_falls edges are a b (more c d path leads) =
    let before = path_falls edges are a c path in
    let last = are.falls c d leads in
    omega arith

-- ranked numbers don't lead back to themselves
pub no_return : (edges : List (List ℕ)) → AreRanked edges → (a : ℕ) → Path edges a a → ⊥
no_return edges are a path = let falls = path_falls edges are a a path in omega arith
