-- The coloured cells of a state and their owners.
use Rattle.std.specs.Prelude.{ℕ, List, Option, option_map, length}
use Rattle.std.specs.List.{filter_map, range_with_len}
use Rattle.sw_color_rules.specs.declared.colors.Owner.{Owner}
use Rattle.sw_color_rules.specs.declared.colored.Colored.{Colored}
use Rattle.sw_color_rules.specs.Machine.{owner_of}
use Rattle.sw_owners.specs.declared.owners.CellOwner.{CellOwner}

abbrev pub with_owner : ℕ → Owner → CellOwner
with_owner c owner = record { cell = c; owner = owner }

-- a cell with its owner, if it is a coloured one
abbrev pub owner_at : Colored → ℕ → Option CellOwner
owner_at colored c = option_map (with_owner c) (owner_of colored c)

-- the coloured cells of a state by number, each with its owner
unfoldable pub owners_of : Colored → List CellOwner
owners_of colored = filter_map (owner_at colored) (range_with_len 0 (length colored.state.cells))
