-- What is known of a shelf: the files that it holds, and the names that were requested.
use Rattle.std.specs.Prelude.{ℕ, List, [], ◌∷◌, ◌++◌, Option, Some, None, unwrap_or, if◌then◌else◌}
use Rattle.std.specs.Str.{bytes_eq}

-- files, each a name and the file's bytes
abbrev pub Files : Type 0
Files = List (List ℕ × List ℕ)

-- a shelf whose contents are known: its files, and the names requested so far
pub record KnownShelf : Type 0 where
  pub files : Files
  pub requested : List (List ℕ)

-- a shelf whose contents are unknown
abbrev pub unknown : Option KnownShelf
unknown = None

-- the bytes under a name, where a file has that name
unfoldable pub find_file : Files → List ℕ → Option (List ℕ)
find_file [] name = None
find_file (file ∷ files) name = if bytes_eq file.0 name then Some file.1 else find_file files name

-- the bytes under a name; the empty file where no file has that name
unfoldable pub file_of : Files → List ℕ → List ℕ
file_of files name = unwrap_or (find_file files name) []

-- the same files, after one more request
abbrev pub with_request : List ℕ → KnownShelf → KnownShelf
with_request name known = record known { requested = known.requested ++ name ∷ [] }

-- the files after this one replaced the one of its name, or was added where none has its name
unfoldable pub with_file : List ℕ → List ℕ → Files → Files
with_file name bytes [] = (name, bytes) ∷ []
with_file name bytes (file ∷ files) =
    if bytes_eq file.0 name then (name, bytes) ∷ files else file ∷ with_file name bytes files
