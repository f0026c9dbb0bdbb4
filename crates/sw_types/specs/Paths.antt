-- Paths from number to number, where `edges` lists for each number those that it leads to.
use Rattle.std.specs.Prelude.{ℕ, ◌<◌, ◌≤◌, List, [], length, take, slice_index_or, Contains, All}

-- a leads to b by one edge
abbrev pub IsEdge : List (List ℕ) → ℕ → ℕ → Type 0
IsEdge edges a b = Contains (slice_index_or edges a []) b

-- a way from one number to another, of one edge or more
pub data Path (edges : List (List ℕ)) (a : ℕ) : ℕ → Type 0 where
  one : (b : ℕ) → IsEdge edges a b → Path edges a b
  more : (b c : ℕ) → Path edges a b → IsEdge edges b c → Path edges a c

-- each edge leads to a number that has edges of its own
abbrev pub AreInRange : List (List ℕ) → Type 0
AreInRange edges = All (λ targets. All (λ b. b < length edges) targets) edges

-- the numbers have ranks that fall along each edge, so that no path leads back
pub record AreRanked (edges : List (List ℕ)) : Type 0 where
  pub rank : ℕ → ℕ
  pub falls : (a b : ℕ) → IsEdge edges a b → rank b < rank a
  pub bounded : (a : ℕ) → a < length edges → rank a < length edges

-- the numbers that one leads to stand before it
abbrev pub IsTopologicalOrder : List (List ℕ) → List ℕ → Type 0
IsTopologicalOrder edges order =
    (i b : ℕ) → i < length order → IsEdge edges (slice_index_or order i 0) b
    → Contains (take i order) b

-- All numbers are in the order.
pub record IsOrder (edges : List (List ℕ)) (order : List ℕ) : Type 0 where
  pub ordered : IsTopologicalOrder edges order
  pub short : length order ≤ length edges
  pub within : All (λ k. k < length edges) order
  pub all : (k : ℕ) → k < length edges → Contains order k
