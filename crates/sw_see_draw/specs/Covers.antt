-- Which events marks are for.
use Rattle.std.specs.Prelude.{◌≡◌, ℕ, ◌+◌, List, [], ◌++◌, ◌∷◌, length}
use Rattle.std.specs.List.{AllByRecursion}
use Rattle.sw_see_events.specs.declared.happening.Happening.{Happening}
use Rattle.sw_see_draw.specs.declared.marks.Mark.{Mark}

-- `Covers n marks events`: these are the marks of these events, of which the first has the number n:
-- each is for as many as it counts, from its first on, and all of these are of its job.
pub data Covers : ℕ → List Mark → List Happening → Type 0 where
  no_more : (n : ℕ) → Covers n [] []
  and_then : (n : ℕ) (mark : Mark) (run : List Happening) (marks : List Mark)
      (events : List Happening)
      → mark.number ≡ n → mark.count ≡ length run
      → AllByRecursion (λ event. event.job ≡ mark.job) run
      → Covers (n + length run) marks events
      → Covers n (mark ∷ marks) (run ++ events)
