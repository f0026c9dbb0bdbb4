-- What the operations of an instruction come to for the elements of its frame (SE-0414): which of
-- them are used, come together, are given away, or make what a register gets.
use Rattle.std.specs.Prelude.{◌≡◌, ◌≢◌, ℕ, ◌==◌, if◌then◌else◌, Option, Some, None, List, [], ◌∷◌}
use Rattle.std.specs.Prelude.{Contains, ◌++◌, slice_get}
use Rattle.sw_owner_facts.specs.View.{Element, Here, Register}
use Rattle.sw_partition.specs.Regions.{Regions}
use Rattle.sw_graph.specs.declared.instr.Operand.{Operand}
use Rattle.sw_region_ops.specs.Elements.{element_at}
use Rattle.sw_region_facts.specs.FrameRegions.{TogetherIn, LiveIn, IsWeaker}

-- these elements if what has this number is tracked, else none
abbrev pub if_tracked : Option ℕ → List Element → List Element
if_tracked (Some x) xs = xs
if_tracked None xs = []

-- the registers of the operands that are tracked
abbrev pub tracked : List (Option ℕ) → List Operand → List Element
tracked elements [] = []
tracked elements (operand ∷ operands) =
    if_tracked (element_at elements operand.reg) (Register operand.reg ∷ [])
    ++ tracked elements operands

-- what a copy of register s comes from, by the numbers of the two registers: nothing, if one of
-- them isn't tracked
abbrev pub copied_from : Option ℕ → Option ℕ → ℕ → List Element
copied_from copy original s = if_tracked copy (if_tracked original (Register s ∷ []))

-- what an element comes from, where register r gets what the sources hold: each other element comes
-- from itself
abbrev pub comes : ℕ → List Element → Element → List Element
comes r sources Here = Here ∷ []
comes r sources (Register s) = if s == r then sources else Register s ∷ []

-- Register r gets what the sources hold, which are live: it is together with what they were
-- together with. All else stays, or unites, or is given away.
pub record Sets (elements : List (Option ℕ)) (r : ℕ) (sources : List Element)
    (a c : Regions) : Type 0 where
  pub together : (x y from_x from_y : Element) → Contains (comes r sources x) from_x
      → Contains (comes r sources y) from_y → TogetherIn elements a from_x from_y
      → TogetherIn elements c x y
  pub live : (x : Element) → x ≢ Register r → LiveIn elements c x → LiveIn elements a x
  pub used : (x : Element) → Contains sources x → LiveIn elements a x

-- The elements xs are used, so that they are live before. More may unite, or be given away.
pub record Uses (elements : List (Option ℕ)) (xs : List Element) (a c : Regions) : Type 0 where
  pub weaker : IsWeaker elements a c
  pub used : (x : Element) → Contains xs x → LiveIn elements a x

-- The elements xs are used, and come together. They can still be used.
pub record Gathers (elements : List (Option ℕ)) (xs : List Element) (a c : Regions) : Type 0 where
  pub uses : Uses elements xs a c
  pub still : (x : Element) → Contains xs x → LiveIn elements c x
  pub together : (x y : Element) → Contains xs x → Contains xs y → TogetherIn elements c x y

-- The elements xs come together, apart from `Here`.
pub record GathersApart (elements : List (Option ℕ)) (xs : List Element)
    (a c : Regions) : Type 0 where
  pub gathers : Gathers elements xs a c
  pub apart : (x : Element) → Contains xs x → ¬ (TogetherIn elements c x Here)

-- Register r gets something new that holds the elements xs: it leaves what it was with, and if it is
-- tracked, it is together with each of them.
pub record Makes (elements : List (Option ℕ)) (r : ℕ) (xs : List Element)
    (a c : Regions) : Type 0 where
  pub together : (x y : Element) → x ≢ Register r → y ≢ Register r → TogetherIn elements a x y
      → TogetherIn elements c x y
  pub live : (x : Element) → x ≢ Register r → LiveIn elements c x → LiveIn elements a x
  pub used : (x : Element) → Contains xs x → LiveIn elements a x
  pub still : (x : Element) → Contains xs x → LiveIn elements c x
  pub made_live : LiveIn elements c (Register r)
  pub joined : (x : Element) (number : ℕ) → Contains xs x → element_at elements r ≡ Some number
      → TogetherIn elements c x (Register r)

-- Element x is given away (SE-0430): it was live and not with `Here`, and no register with it is
-- live afterwards.
pub record IsSent (elements : List (Option ℕ)) (a c : Regions) (x : Element) : Type 0 where
  pub free : ¬ (TogetherIn elements a x Here)
  pub used : LiveIn elements a x
  pub gone : (r : ℕ) → TogetherIn elements a x (Register r) → ¬ (LiveIn elements c (Register r))

-- The elements xs are given away.
pub record Sends (elements : List (Option ℕ)) (xs : List Element) (a c : Regions) : Type 0 where
  pub weaker : IsWeaker elements a c
  pub sent : (x : Element) → Contains xs x → IsSent elements a c x

-- The elements xs are given away one after the other, so that no two of them were together.
pub record SendsEach (elements : List (Option ℕ)) (xs : List Element) (a c : Regions) : Type 0
  where
    pub sends : Sends elements xs a c
    pub apart : (i j : ℕ) (x y : Element) → slice_get xs i ≡ Some x → slice_get xs j ≡ Some y
        → i ≢ j → ¬ (TogetherIn elements a x y)
