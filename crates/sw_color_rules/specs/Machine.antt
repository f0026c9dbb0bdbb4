-- The coloured machine: the machine, and the colours of its states.
use Rattle.std.specs.Prelude.{ℕ, ◌+◌, max, zero, suc, Option, List, [], ◌∷◌, fold}
use Rattle.std.specs.Option.{option_map_or}
use Rattle.std.specs.Prelude.{option_and_then}
use Rattle.sw_types.specs.declared.isolation.Iso.{Iso}
use Rattle.sw_types.specs.declared.isolation.Iso.TheVariants as iso
use Rattle.sw_graph.specs.declared.graph.Graph.{Graph}
use Rattle.sw_graph.specs.declared.function.Function.{Function}
use Rattle.sw_value.specs.declared.frame.Frame.{Frame}
use Rattle.sw_value.specs.Act.{act_of}
use Rattle.sw_value.specs.Start.{start_of, start_frames}
use Rattle.sw_value.specs.Reach.{step_of}
use Rattle.sw_color_rules.specs.declared.colors.Owner.{Owner}
use Rattle.sw_color_rules.specs.declared.colors.Owner.TheVariants as owner
use Rattle.sw_color_rules.specs.declared.colors.Palette.{Palette}
use Rattle.sw_color_rules.specs.declared.colors.Colors.{Colors}
use Rattle.sw_color_rules.specs.declared.plan.FrameChange.TheVariants.{Pushed}
use Rattle.sw_color_rules.specs.declared.colored.Colored.{Colored}
use Rattle.sw_color_rules.specs.Palette.{fresh, owner_in}
use Rattle.sw_color_rules.specs.Tints.{color_number}
use Rattle.sw_color_rules.specs.Changes.{Change, after_changes}
use Rattle.sw_color_rules.specs.Plans.{changes_by, plan_of, begun_with, number_on, next_color}

-- the owner of the colour of a cell, if it is a coloured one
unfoldable pub owner_of : Colored → ℕ → Option Owner
owner_of colored c =
    option_and_then (owner_in colored.colors.palette) (color_number colored.colors.cells c)

-- ---- the start
-- one more than the number of the global actor of a function, if it has one
abbrev pub actors_to : Iso → ℕ
actors_to (iso.Global g) = g + 1
actors_to _ = 0

-- how many global actors there are: all that functions are isolated to
abbrev pub global_count : List Function → ℕ
global_count functions = fold (λ n f. max n (actors_to f.iso)) 0 functions

-- each global actor has one colour, with the actor's number
abbrev pub global_colors : ℕ → Palette
global_colors zero = record { names = []; owners = [] }
global_colors (suc n) = fresh (owner.Global n) (global_colors n)

-- before there are frames
abbrev pub first_colors : Graph → Colors
first_colors graph = record {
  cells = [];
  palette = global_colors (global_count graph.functions);
  heres = [] ∷ [];
}

-- a frame of the first job, and its `Here`
unfoldable pub started : Colors → Frame → Colors
started colors frame =
    after_changes
    (changes_by 0
    (begun_with (number_on colors frame.executor) (owner.Job 0) Pushed (next_color colors) []))
    colors

unfoldable pub start_colors : Graph → Colors
start_colors graph = fold started (first_colors graph) (start_frames graph)

-- the state before any item, with its colours
abbrev pub colored_start : Graph → Colored
colored_start graph = record { state = start_of graph; colors = start_colors graph }

-- ---- the step
-- the changes of the item j, one after the other
unfoldable pub changes_of : Graph → Colored → ℕ → List Change
changes_of graph colored j =
    option_map_or (λ act. changes_by j (plan_of graph colored.state colored.colors j act))
    (act_of graph colored.state j) []

-- the coloured state after one item
unfoldable pub colored_step : Graph → Colored → ℕ → Colored
colored_step graph colored j = record {
  state = step_of graph colored.state j;
  colors = after_changes (changes_of graph colored j) colored.colors;
}

-- and after a list of items, of any length
unfoldable pub colored_reach : Graph → List ℕ → Colored
colored_reach graph items = fold (colored_step graph) (colored_start graph) items
