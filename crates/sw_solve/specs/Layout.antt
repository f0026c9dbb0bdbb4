-- A flow of points that lie in blocks, one block after the other, and the flow of the blocks.
use Rattle.std.specs.Prelude.{◌≡◌, ℕ, zero, suc, ◌+◌, ◌<◌, Option, Some, List, [], ◌∷◌, map}
use Rattle.std.specs.Prelude.{Contains}
use Rattle.sw_solve.specs.Annotation.{value_at, IsClosed, IsBound, IsAtMostEverywhere}

-- The values and their order, the points of each block, and for points and for blocks what a step
-- makes of a value and what follows.
pub record Layout (X : Type 0) : Type 1 where
  pub le : X → X → Type 0
  pub size : X → List ℕ
  pub facts : List ℕ
  pub enters : X → Type 0
  pub blocks : ℕ
  pub start : ℕ → ℕ
  pub len : ℕ → ℕ
  pub step : ℕ → X → X → Type 0
  pub after : ℕ → List ℕ
  pub walk : ℕ → X → X → Type 0
  pub next : ℕ → List ℕ

-- the steps of n points from p on, one after the other, make the second value of the first
abbrev pub Chain : {X : Type 0} → (ℕ → X → X → Type 0) → ℕ → ℕ → X → X → Type 0
Chain step p zero a z = z ≡ a
Chain {X} step p (suc n) a z = (m : X) × step p a m × Chain step (suc p) n m z

-- The blocks lie one after the other and none is empty. A walk through a block is a chain of the
-- steps of its points. A point inside a block leads to the next one, and the last point of a block
-- to the first points of the blocks that follow.
pub record IsLayout {X : Type 0} (L : Layout X) : Type 0 where
  pub reflexive : (x : X) → L.le x x
  pub kept : (p : ℕ) (x y : X) → L.step p x y → L.size y ≡ L.size x
  pub some : 0 < L.blocks
  pub first : L.start 0 ≡ 0
  pub begins : (b : ℕ) → L.start (suc b) ≡ L.start b + L.len b
  pub filled : (b : ℕ) → b < L.blocks → 0 < L.len b
  pub walked : (b : ℕ) (x z : X) → L.walk b x z → Chain L.step (L.start b) (L.len b) x z
  pub inner : (b k : ℕ) → b < L.blocks → suc k < L.len b
      → L.after (L.start b + k) ≡ suc (L.start b + k) ∷ []
  pub last : (b k : ℕ) → b < L.blocks → suc k ≡ L.len b
      → L.after (L.start b + k) ≡ map L.start (L.next b)
  pub within : (b q : ℕ) → b < L.blocks → Contains (L.next b) q → q < L.blocks

abbrev pub BlocksClosed : {X : Type 0} → Layout X → List (Option X) → Type 0
BlocksClosed L s = IsClosed L.le L.size L.facts L.enters L.walk L.next s

abbrev pub BlocksBound : {X : Type 0} → Layout X → List (Option X) → Type 0
BlocksBound L s = IsBound L.le L.size L.facts L.enters L.walk L.next s

abbrev pub PointsClosed : {X : Type 0} → Layout X → List (Option X) → Type 0
PointsClosed L a = IsClosed L.le L.size L.facts L.enters L.step L.after a

abbrev pub PointsBound : {X : Type 0} → Layout X → List (Option X) → Type 0
PointsBound L a = IsBound L.le L.size L.facts L.enters L.step L.after a

-- A least annotation of the blocks: it is closed, and at most any that bounds.
pub record IsLeastOfBlocks {X : Type 0} (L : Layout X) (s : List (Option X)) : Type 0 where
  pub closed : BlocksClosed L s
  pub lowest : (b : List (Option X)) → BlocksBound L b → IsAtMostEverywhere L.le s b

-- An annotation of the points is least, and stands on one of the blocks: at the first point of a
-- block it has what the block has, and at each other point what the points before it in the block
-- make of that.
pub record IsLeastOfPoints {X : Type 0} (L : Layout X) (s a : List (Option X)) : Type 0 where
  pub closed : PointsClosed L a
  pub lowest : (c : List (Option X)) → PointsBound L c → IsAtMostEverywhere L.le a c
  pub starts : (b : ℕ) → b < L.blocks → value_at a (L.start b) ≡ value_at s b
  pub stands : (b k : ℕ) (x : X) → b < L.blocks → k < L.len b → value_at s b ≡ Some x
      → (m : X) × (value_at a (L.start b + k) ≡ Some m) × Chain L.step (L.start b) k x m
  pub stood : (b k : ℕ) (m : X) → b < L.blocks → k < L.len b → value_at a (L.start b + k) ≡ Some m
      → (x : X) × (value_at s b ≡ Some x) × Chain L.step (L.start b) k x m
