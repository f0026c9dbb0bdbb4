-- Colours and their owners, and what can be done to them.
use Rattle.std.specs.Prelude.{◌≡◌, ◌≤◌, ℕ, ◌==◌, min, max, Option, Some, None, [], ◌∷◌, ◌++◌, length, map}
use Rattle.std.specs.Prelude.{slice_get, if◌then◌else◌}
use Rattle.sw_value.specs.Lists.{changed_at}
use Rattle.sw_color_rules.specs.declared.colors.Owner.{Owner}
use Rattle.sw_color_rules.specs.declared.colors.Owner.TheVariants.{Job}
use Rattle.sw_color_rules.specs.declared.colors.Palette.{Palette}
use Rattle.sw_color_rules.specs.Names.{name_in, turned}

-- the owner of what is left of a colour
abbrev pub owner_in : Palette → ℕ → Option Owner
owner_in palette n = slice_get palette.owners (name_in palette.names n)

-- Of two owners an actor or a global actor, if one of them is. If both are, or both are jobs, either
-- would do: in programs that are accepted no such colours meet.
abbrev pub united : Owner → Owner → Owner
united (Job j) other = other
united one other = one

abbrev pub united_with : Option Owner → Owner → Owner
united_with None one = one
united_with (Some other) one = united one other

-- what a job owns is another job's
abbrev pub handed_to : ℕ → Owner → Owner
handed_to job (Job j) = Job job
handed_to job one = one

-- a colour is made, with the next number
unfoldable pub fresh : Owner → Palette → Palette
fresh owner palette = record {
  names = palette.names ++ length palette.names ∷ [];
  owners = palette.owners ++ owner ∷ [];
}

-- of two colours that are left the one with the lower number is left
unfoldable pub united_as : ℕ → ℕ → Palette → Palette
united_as low high palette = record {
  names = map (turned high low) palette.names;
  owners = changed_at (united_with (slice_get palette.owners high)) low palette.owners;
}

abbrev pub merged_by : ℕ → ℕ → Palette → Palette
merged_by a b palette = if a == b then palette else united_as (min a b) (max a b) palette

-- two colours become one
unfoldable pub merge : ℕ → ℕ → Palette → Palette
merge a b palette = merged_by (name_in palette.names a) (name_in palette.names b) palette

-- a colour that a job owns gets another job as its owner
unfoldable pub hand_over : ℕ → ℕ → Palette → Palette
hand_over n job palette =
    record palette { owners = changed_at (handed_to job) (name_in palette.names n) palette.owners }

-- There is an owner for each number, and what is left of a number is no higher and is left itself.
pub record IsWhole (palette : Palette) : Type 0 where
  pub owned : length palette.owners ≡ length palette.names
  pub lower : (n : ℕ) → name_in palette.names n ≤ n
  pub left : (n : ℕ) → name_in palette.names (name_in palette.names n) ≡ name_in palette.names n
