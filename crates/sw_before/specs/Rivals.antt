-- The earlier accesses that conflict with an access, and those of which a clock hasn't heard.
use Rattle.std.specs.Prelude.{◌≡◌, ◌≢◌, ℕ, ◌<◌, ◌≤◌, List}
use Rattle.sw_value.specs.declared.race.Access.{Access}
use Rattle.sw_value.specs.Racing.{IsConflict}
use Rattle.sw_value.specs.Transition.{Transition}
use Rattle.sw_before.specs.Clocks.{rank_of}
use Rattle.sw_before.specs.Unordered.{AccessesAt}

-- the access at p is of another job than b, and conflicts with it
pub record IsRival (events : List Transition) (b : Access) (p : ℕ) (a : Access) : Type 0 where
  pub there : AccessesAt events p a
  pub jobs : a.job ≢ b.job
  pub conflict : IsConflict a b

-- the latest rival of its job
pub record IsLatestRival (events : List Transition) (b : Access) (p : ℕ) (a : Access) : Type 0 where
  pub rival : IsRival events b p a
  pub latest : (i : ℕ) (c : Access) → IsRival events b i c → c.job ≡ a.job → i ≤ p

-- a clock counts fewer events of its job than there are up to p
abbrev pub IsUnheard : (ℕ → ℕ) → List Transition → ℕ → Access → Type 0
IsUnheard clock events p a = clock a.job < rank_of a.job events p

-- of the latest rivals that are unheard the one of the least job
pub record IsFirstUnheard (clock : ℕ → ℕ) (events : List Transition) (b : Access) (p : ℕ)
    (a : Access) : Type 0 where
  pub rival : IsLatestRival events b p a
  pub unheard : IsUnheard clock events p a
  pub least : (i : ℕ) (c : Access) → IsLatestRival events b i c → IsUnheard clock events i c
      → a.job ≤ c.job
