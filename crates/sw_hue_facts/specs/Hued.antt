-- The colours of a state by hue: each colour with its owner in it.
use Rattle.std.specs.Prelude.{ℕ, Option, List, map, Contains}
use Rattle.std.specs.Option.{option_map}
use Rattle.sw_color_rules.specs.declared.colors.Colors.{Colors}
use Rattle.sw_color_rules.specs.declared.colors.Palette.{Palette}
use Rattle.sw_color_rules.specs.declared.colors.Tint.{Tint}
use Rattle.sw_color_rules.specs.Tints.{color_by}
use Rattle.sw_late_facts.specs.Hues.{hue}
use Rattle.sw_owner_facts.specs.Colours.{Colour}
use Rattle.sw_view_facts.specs.Views.{Colours}

abbrev pub cell_hue : Palette → Tint → Option Colour
cell_hue palette tint = option_map (hue palette) (color_by tint)

abbrev pub hued : Colors → Colours
hued colors = record {
  cells = map (cell_hue colors.palette) colors.cells;
  heres = map (map (hue colors.palette)) colors.heres;
}

abbrev pub hues_of : Palette → List ℕ → List Colour
hues_of palette ns = map (hue palette) ns

-- the same colours, in any order, and each however often
pub record SameColours (cs ds : List Colour) : Type 0 where
  pub to : (c : Colour) → Contains cs c → Contains ds c
  pub from : (c : Colour) → Contains ds c → Contains cs c
