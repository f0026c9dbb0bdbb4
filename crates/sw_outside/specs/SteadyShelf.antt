-- A shelf in memory over which no fetch fails.
use Rattle.std.specs.Prelude.{ℕ, List}
use Rattle.sw_outside.specs.Shelf.{KnownShelf, with_request}

-- what such a shelf is
pub record SteadyState : Type 0 where
  -- the files, and the names requested so far
  pub known : KnownShelf
  -- the number of bytes that the last fetch received
  pub received : ℕ

-- the shelf after a fetch that was answered, with the bytes that it received
abbrev pub after_answer : List ℕ → ℕ → SteadyState → SteadyState
after_answer name received shelf =
    record { known = with_request name shelf.known; received = received }
