-- When what is noted of cells by number is what they have by hue.
use Rattle.std.specs.Prelude.{◌≡◌, ℕ, Bool, true, false, Some, List, length, slice_get, flat_map}
use Rattle.sw_types.specs.Sendable.{sends_at}
use Rattle.sw_graph.specs.declared.graph.Graph.{Graph}
use Rattle.sw_value.specs.declared.cell.HeapCell.{HeapCell}
use Rattle.sw_value.specs.declared.cell.HeapCell.TheVariants.{Object, Actor, BoxOf, Closure, TaskOf}
use Rattle.sw_value.specs.declared.value.Value.{Value}
use Rattle.sw_color_rules.specs.declared.colors.Colors.{Colors}
use Rattle.sw_color_rules.specs.declared.colors.Tint.{Tint}
use Rattle.sw_color_rules.specs.declared.colors.Tint.TheVariants.{Bare, Colored, Owns, Holds}
use Rattle.sw_late_facts.specs.Hues.{hue}
use Rattle.sw_owner_facts.specs.Colours.{Instance, OfActor}
use Rattle.sw_reach_facts.specs.Coloured.{may_have_colour, runs_isolated}
use Rattle.sw_reach_facts.specs.Reached.{colours_of}
use Rattle.sw_hue_facts.specs.Hued.{SameColours, hued, hues_of}

-- objects of classes that are Sendable, and tasks: every job may hold them
abbrev pub is_bare : Graph → HeapCell → Bool
is_bare graph (Object k parts) = sends_at graph.shapes k
is_bare graph (Actor k parts) = false
is_bare graph (BoxOf v) = false
is_bare graph (Closure f captures) = false
is_bare graph (TaskOf j) = true

-- The tint fits the cell with the number c.
pub record TintFits (graph : Graph) (cells : List HeapCell) (colors : Colors) (c : ℕ)
    (cell : HeapCell) (tint : Tint) : Type 0 where
  pub coloured : may_have_colour graph cell ≡ true → (n : ℕ) × (tint ≡ Colored n)
  pub bare : is_bare graph cell ≡ true → tint ≡ Bare
  -- what an actor owns has its hue
  pub owns : (k : ℕ) (parts : List Value) → cell ≡ Actor k parts
      → (n : ℕ) × (tint ≡ Owns n) × (hue colors.palette n ≡ OfActor (Instance c))
  -- a closure that isn't isolated holds what its captures have
  pub holds : (f : ℕ) (captures : List Value) → cell ≡ Closure f captures
      → runs_isolated graph f ≡ false
      → (ns : List ℕ) × (tint ≡ Holds ns) × SameColours (hues_of colors.palette ns)
      (flat_map (colours_of cells (hued colors).cells) captures)

-- Each cell has a tint, and that fits it.
pub record TintsFit (graph : Graph) (cells : List HeapCell) (colors : Colors) : Type 0 where
  pub count : length colors.cells ≡ length cells
  pub each : (c : ℕ) (cell : HeapCell) (tint : Tint) → slice_get cells c ≡ Some cell
      → slice_get colors.cells c ≡ Some tint → TintFits graph cells colors c cell tint
