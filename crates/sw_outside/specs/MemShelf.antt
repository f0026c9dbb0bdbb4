-- A shelf in memory: what it is, and which of its fetches fail.
use Rattle.std.specs.Prelude.{ℕ, Bool, List, length, ◌==◌, ◌||◌, is_none}
use Rattle.std.specs.List.{list_any}
use Rattle.sw_outside.specs.Shelf.{KnownShelf, find_file, with_request}

-- what a shelf in memory is
pub record ShelfState : Type 0 where
  -- the files, and the names requested so far
  pub known : KnownShelf
  -- the numbers of the fetches that fail
  pub fails : List ℕ
  -- the number of bytes that the last fetch received
  pub received : ℕ
  -- the number of fetches that failed
  pub faults : ℕ

-- The next fetch fails if it requests this name: its number, which is the number of requests before
-- it, is among the failing ones, or no file has the name.
abbrev pub fails_at : ShelfState → List ℕ → Bool
fails_at shelf name =
    list_any (λ number. number == length shelf.known.requested) shelf.fails
    || is_none (find_file shelf.known.files name)

-- the shelf after a fetch that was answered, with the bytes that it received and the faults until
-- then
abbrev pub after_fetch : List ℕ → ℕ → ℕ → ShelfState → ShelfState
after_fetch name received faults shelf =
    record shelf { known = with_request name shelf.known; received = received; faults = faults }
