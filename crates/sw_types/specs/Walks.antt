-- A walk along edges. The numbers that it has come to are open, until all that they lead to is
-- settled; the open ones are cut into groups, whose members lead to each other and to all later
-- groups.
use Rattle.std.specs.Prelude.{◌≡◌, ◌↔◌, ℕ, ◌+◌, ◌*◌, ◌<◌, ◌≤◌, ◌⊎◌, ◌≢◌, Bool, true, false}
use Rattle.std.specs.Prelude.{List, [], ◌∷◌, ◌++◌, length, replicate, take, drop, Some, slice_get}
use Rattle.std.specs.Prelude.{slice_index, slice_index_or, slice_set, Contains, All, AllPairs}
use Rattle.std.specs.Prelude.{count_by, sum_by}
use Rattle.sw_types.specs.Paths.{IsEdge, Path}
use Rattle.sw_types.specs.declared.ordering.Group.{Group}
use Rattle.sw_types.specs.declared.ordering.Progress.{Progress}
use Rattle.sw_types.specs.declared.ordering.Progress.TheVariants.{Fresh, Open, Settled}
use Rattle.sw_types.specs.declared.ordering.Walk.{Walk}

abbrev pub is_fresh : Progress → Bool
is_fresh Fresh = true
is_fresh (Open place) = false
is_fresh Settled = false

-- how far a number has come
abbrev pub progress_at : List Progress → ℕ → Progress
progress_at progress k = slice_index_or progress k Fresh

-- how many numbers the walk has not come to
abbrev pub fresh_count : List Progress → ℕ
fresh_count progress = count_by is_fresh progress

-- the number is said to lead back to itself
abbrev pub Marked : List Bool → ℕ → Type 0
Marked marks k = slice_index_or marks k false ≡ true

-- what is said of each group that begins no later than at a place
abbrev pub OfGroups : (Group → Type 0) → List Group → ℕ → Type 0
OfGroups P groups place = (group : Group) → Contains groups group → group.first ≤ place → P group

-- The number is open in the group of the place or in a later one, or waits there.
abbrev pub IsAhead : Walk → ℕ → ℕ → Type 0
IsAhead walk place b =
    ((other : ℕ) × (progress_at walk.progress b ≡ Open other)
    × OfGroups (λ group. group.first ≤ other) walk.groups place)
    ⊎ ((at : ℕ) × (slice_get walk.waiting at ≡ Some b)
    × OfGroups (λ group. group.waiting ≤ at) walk.groups place)

-- groups that begin one after another
abbrev pub AreInOrder : List Group → Type 0
AreInOrder groups =
    AllPairs (λ (one other : Group). (one.first < other.first) × (one.waiting ≤ other.waiting)) groups

-- Each number stands where its progress says, or waits if the walk has not come to it.
pub record AreListed (edges : List (List ℕ)) (walk : Walk) : Type 0 where
  pub sized : length walk.progress ≡ length edges
  pub marks_sized : length walk.returns ≡ length edges
  pub placed : (k place : ℕ)
      → (progress_at walk.progress k ≡ Open place) ↔ (slice_get walk.opened place ≡ Some k)
  pub listed : (k : ℕ) → progress_at walk.progress k ≡ Settled → Contains walk.order k
  pub come : (k : ℕ) → k < length edges
      → (is_fresh (progress_at walk.progress k) ≡ false) ⊎ Contains walk.waiting k
  pub waits_within : All (λ b. b < length edges) walk.waiting
  pub within : All (λ k. k < length edges) walk.order
  pub counted : fresh_count walk.progress + length walk.opened + length walk.order ≡ length edges

-- The groups have members, and the first one begins with the first open number.
pub record AreGrouped (walk : Walk) : Type 0 where
  pub increasing : AreInOrder walk.groups
  pub grounded : (group : Group) → Contains walk.groups group
      → (group.first < length walk.opened) × (group.waiting ≤ length walk.waiting)
  pub covered : 0 < length walk.opened
      → (group : Group) × Contains walk.groups group × (group.first ≡ 0)

-- An open number leads to all others that are ahead of it, and by an edge to no more than these and
-- settled ones.
pub record AreLinked (edges : List (List ℕ)) (walk : Walk) : Type 0 where
  pub linked : (a b place : ℕ) → progress_at walk.progress a ≡ Open place → IsAhead walk place b
      → a ≢ b → Path edges a b
  pub closed : (a b place : ℕ) → progress_at walk.progress a ≡ Open place → IsEdge edges a b
      → (progress_at walk.progress b ≡ Settled) ⊎ IsAhead walk place b

-- Settled numbers lead to settled ones, and of each it is said whether it leads back to itself.
pub record AreSettled (edges : List (List ℕ)) (walk : Walk) : Type 0 where
  pub closed : (a b : ℕ) → progress_at walk.progress a ≡ Settled → IsEdge edges a b
      → progress_at walk.progress b ≡ Settled
  pub marked : (a : ℕ) → progress_at walk.progress a ≡ Settled
      → Marked walk.returns a ↔ Path edges a a
  pub ordered : (i b : ℕ) → i < length walk.order → IsEdge edges (slice_index_or walk.order i 0) b
      → Contains (take i walk.order) b ⊎ Path edges b (slice_index_or walk.order i 0)

-- what a walk keeps
pub record IsWalk (edges : List (List ℕ)) (walk : Walk) : Type 0 where
  pub listed : AreListed edges walk
  pub grouped : AreGrouped walk
  pub linked : AreLinked edges walk
  pub settled : AreSettled edges walk

-- a walk that has come to no number
pub record IsBegun (count : ℕ) (walk : Walk) : Type 0 where
  pub progress : walk.progress ≡ replicate count Fresh
  pub opened : walk.opened ≡ []
  pub groups : walk.groups ≡ []
  pub waits : (k : ℕ) → k < count → slice_index walk.waiting k ≡ k
  pub all : length walk.waiting ≡ count
  pub order : walk.order ≡ []
  pub returns : walk.returns ≡ replicate count false

-- each group has a target that waits
abbrev pub AllWait : Walk → Type 0
AllWait walk = (group : Group) → Contains walk.groups group → group.waiting < length walk.waiting

-- the walk with more targets that wait
abbrev pub with_waiting : Walk → List ℕ → Walk
with_waiting walk targets = record walk { waiting = walk.waiting ++ targets }

-- the walk with one more group
abbrev pub with_group : Walk → Group → Walk
with_group walk group = record walk { groups = walk.groups ++ group ∷ [] }

-- the walk that came to one more number, which is a group of its own
abbrev pub with_open : Walk → ℕ → Walk
with_open walk number = record walk {
  progress = slice_set walk.progress number (Open (length walk.opened));
  opened = walk.opened ++ number ∷ [];
  groups = walk.groups
      ++ record { first = length walk.opened; waiting = length walk.waiting } ∷ [];
}

-- Open numbers from a first place to a last one lead back to themselves: they are two or more, or
-- the one leads to itself.
abbrev pub LeadBack : List (List ℕ) → List ℕ → ℕ → Type 0
LeadBack edges opened first = (first + 1 < length opened)
    ⊎ IsEdge edges (slice_index opened first) (slice_index opened first)

-- The open numbers from a first place on, up to a last one, went into the order.
pub record AreMoved (first last : ℕ) (returns : Bool) (old new : Walk) : Type 0 where
  pub opened : new.opened ≡ old.opened
  pub groups : new.groups ≡ old.groups
  pub waiting : new.waiting ≡ old.waiting
  pub order : new.order ≡ old.order ++ drop first (take last old.opened)
  pub sized : length new.progress ≡ length old.progress
  pub marks_sized : length new.returns ≡ length old.returns
  pub moved : (k place : ℕ) → slice_get old.opened place ≡ Some k → first ≤ place → place < last
      → (progress_at new.progress k ≡ Settled) × (slice_index_or new.returns k false ≡ returns)
  pub others : (k : ℕ)
      → ((place : ℕ) → slice_get old.opened place ≡ Some k → first ≤ place → place < last → ⊥)
      → (progress_at new.progress k ≡ progress_at old.progress k)
      × (slice_index_or new.returns k false ≡ slice_index_or old.returns k false)
  pub counted : fresh_count new.progress ≡ fresh_count old.progress

-- the walk without the open numbers from a first place on, which were moved
abbrev pub with_settled : Walk → Walk → ℕ → Walk
with_settled walk moved first = record walk {
  progress = moved.progress;
  opened = take first walk.opened;
  order = moved.order;
  returns = moved.returns;
}

-- how much is left to walk: each fresh number may add all edges to what waits
abbrev pub steps_left : List (List ℕ) → Walk → ℕ
steps_left edges walk =
    fresh_count walk.progress * (sum_by length edges + 1) + length walk.waiting
