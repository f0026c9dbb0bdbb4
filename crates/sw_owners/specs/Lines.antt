-- The lines about the owners of cells.
use Rattle.std.specs.Prelude.{ℕ, List, [], ◌∷◌, ◌++◌, codes, flat_map, slice_get, unwrap_or}
use Rattle.std.specs.Fmt.{decimal}
use Rattle.sw_color_rules.specs.declared.colors.Owner.{Owner}
use Rattle.sw_color_rules.specs.declared.colors.Owner.TheVariants.{Job, ActorOf, Global}
use Rattle.sw_owners.specs.declared.owners.CellOwner.{CellOwner}

-- the name of a global actor, by number; nothing where there are fewer names
abbrev pub name_of : List (List ℕ) → ℕ → List ℕ
name_of names g = unwrap_or (slice_get names g) []

-- who owns a cell: `job J`, `actor M`, or the name of a global actor
abbrev pub owner_text : List (List ℕ) → Owner → List ℕ
owner_text names (Job j) = codes "job " ++ decimal j
owner_text names (ActorOf c) = codes "actor " ++ decimal c
owner_text names (Global g) = name_of names g

-- `cell K: OWNER`
unfoldable pub owner_line : List (List ℕ) → CellOwner → List ℕ
owner_line names owned = codes "cell "
    ++ (decimal owned.cell ++ (codes ": " ++ (owner_text names owned.owner ++ 10 ∷ [])))

-- a line for each cell
unfoldable pub owner_lines : List (List ℕ) → List CellOwner → List ℕ
owner_lines names owners = flat_map (owner_line names) owners
