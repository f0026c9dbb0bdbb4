-- What a region state says of the elements of a frame: which of them are in one region, and which
-- are live.
use Rattle.std.specs.Prelude.{◌≡◌, ℕ, ◌+◌, ◌*◌, ◌==◌, Bool, true, not, IsTrue, Option, Some, None}
use Rattle.std.specs.Prelude.{List, length, slice_index, ⊤}
use Rattle.sw_owner_facts.specs.View.{Element, Here, Register}
use Rattle.sw_partition.specs.Rank.{any_below}
use Rattle.sw_partition.specs.Regions.{Regions, mark_of}
use Rattle.sw_region_ops.specs.Elements.{element_at, element_count, AreElements}

-- the number of an element of a frame in region states; none for a register that isn't tracked
abbrev pub element_in : List (Option ℕ) → Element → Option ℕ
element_in elements Here = Some 0
element_in elements (Register r) = element_at elements r

-- the number of the region of register r: a register that isn't tracked is alone
abbrev pub region_number : Regions → ℕ → Option ℕ → ℕ
region_number state r (Some x) = 2 * slice_index state.labels x
region_number state r None = 2 * r + 1

-- the number of the region of an element
abbrev pub region_in : List (Option ℕ) → Regions → Element → ℕ
region_in elements state Here = 2 * slice_index state.labels 0
region_in elements state (Register r) = region_number state r (element_at elements r)

-- whether element x of a state was given away nowhere
abbrev pub is_live : Regions → ℕ → Bool
is_live state x = not (any_below (length state.sites) (λ k. mark_of state x k == 1))

-- what isn't tracked is always live
abbrev pub is_number_live : Regions → Option ℕ → Bool
is_number_live state (Some x) = is_live state x
is_number_live state None = true

-- whether a register can still be used
abbrev pub live_in : List (Option ℕ) → Regions → ℕ → Bool
live_in elements state r = is_number_live state (element_at elements r)

-- two elements of a frame are in one region
abbrev pub TogetherIn : List (Option ℕ) → Regions → Element → Element → Type 0
TogetherIn elements state x y = region_in elements state x ≡ region_in elements state y

-- an element of a frame is live; `Here` always is
abbrev pub LiveIn : List (Option ℕ) → Regions → Element → Type 0
LiveIn elements state Here = ⊤
LiveIn elements state (Register r) = IsTrue (live_in elements state r)

-- the tracked registers have numbers of their own, other than that of `Here`
pub record HaveOwnNumbers (elements : List (Option ℕ)) : Type 0 where
  pub are : AreElements elements
  pub apart : (r s x : ℕ) → element_at elements r ≡ Some x → element_at elements s ≡ Some x
      → r ≡ s

-- a region state has these elements
abbrev pub IsStateOf : List (Option ℕ) → Regions → Type 0
IsStateOf elements state = length state.labels ≡ element_count elements

-- The second state says of no more that it is live, and unites more.
pub record IsWeaker (elements : List (Option ℕ)) (a b : Regions) : Type 0 where
  pub together : (x y : Element) → TogetherIn elements a x y → TogetherIn elements b x y
  pub live : (x : Element) → LiveIn elements b x → LiveIn elements a x
