-- Which cells have a colour, and what is known of closures whose values may cross (SE-0302).
use Rattle.std.specs.Prelude.{◌≡◌, ◌<◌, ℕ, Bool, true, false, not, Option, Some, None, List}
use Rattle.std.specs.Prelude.{slice_get, slice_index_or}
use Rattle.std.specs.List.{Contains, list_all}
use Rattle.std.specs.Option.{option_map_or}
use Rattle.sw_types.specs.declared.isolation.Iso.TheVariants.{Free}
use Rattle.sw_types.specs.declared.shape.Shape.{Shape}
use Rattle.sw_types.specs.Held.{types_in, is_value}
use Rattle.sw_types.specs.Sendable.{sends_at}
use Rattle.sw_graph.specs.declared.function.Function.{Function}
use Rattle.sw_graph.specs.declared.function.RegKind.{RegKind}
use Rattle.sw_graph.specs.declared.graph.Graph.{Graph}
use Rattle.sw_graph.specs.Clean.{may_cross, is_untracked, is_marked_kind}
use Rattle.sw_graph.specs.Kinds.{IsCaptured}
use Rattle.sw_graph.specs.Placed.{FunctionAt}
use Rattle.sw_value.specs.declared.cell.HeapCell.{HeapCell}
use Rattle.sw_value.specs.declared.cell.HeapCell.TheVariants.{Object, Actor, BoxOf, Closure, TaskOf}
use Rattle.sw_value.specs.declared.value.Value.{Value}
use Rattle.sw_region_ops.specs.Calls.{is_isolated}
use Rattle.sw_machine_kind_facts.specs.Kinds.{HaveKinds, Referents, CellFits}
use Rattle.sw_reach_facts.specs.Reached.{references}

-- whether a function is isolated to an actor or to a global actor
abbrev pub runs_isolated : Graph → ℕ → Bool
runs_isolated graph f =
    option_map_or (λ (function : Function). is_isolated function.iso)
    (slice_get graph.functions f) false

-- Objects of classes that aren't Sendable, boxes, and isolated closures may have a colour.
abbrev pub may_have_colour : Graph → HeapCell → Bool
may_have_colour graph (Object k parts) = not (sends_at graph.shapes k)
may_have_colour graph (Actor k parts) = false
may_have_colour graph (BoxOf v) = true
may_have_colour graph (Closure f captures) = runs_isolated graph f
may_have_colour graph (TaskOf j) = false

-- only cells that may have a colour have one
abbrev pub HaveColours : {C : Type 0} → Graph → List HeapCell → List (Option C) → Type 0
HaveColours {C} graph cells colours = (c : ℕ) (colour : C)
    → slice_index_or colours c None ≡ Some colour
    → (cell : HeapCell) × (slice_get cells c ≡ Some cell) × (may_have_colour graph cell ≡ true)

-- structs and enums that say they are Sendable hold what is
abbrev pub ConformancesHold : Graph → Type 0
ConformancesHold graph = (k : ℕ) (shape : Shape) → slice_get graph.shapes k ≡ Some shape
    → is_value shape.kind ≡ true → shape.conforms ≡ true
    → list_all (may_cross graph) (types_in shape) ≡ true

-- A `@Sendable` closure is isolated to no actor, and captured values of kinds that may cross.
pub record ClosureCrosses (graph : Graph) (cells : List RegKind) (f : ℕ) (captures : List Value)
    : Type 0 where
  pub free : FunctionAt graph f (λ function. function.iso ≡ Free)
  pub kinds : List RegKind
  pub have : HaveKinds graph.shapes cells captures kinds
  pub untracked : (i : ℕ) (kind : RegKind) → slice_get kinds i ≡ Some kind
      → is_untracked graph (Some kind) ≡ true

-- The cells fit their kinds, only those that may have a colour have one, and `@Sendable` closures
-- may cross.
pub record ColoursFit {C : Type 0} (graph : Graph) (world : Referents) (cells : List HeapCell)
    (colours : List (Option C)) : Type 0 where
  pub fit : (c : ℕ) (cell : HeapCell) (kind : RegKind) → slice_get cells c ≡ Some cell
      → slice_get world.cells c ≡ Some kind → CellFits graph world cell kind
  pub coloured : HaveColours graph cells colours
  pub marked : (c f : ℕ) (captures : List Value) (kind : RegKind)
      → slice_get cells c ≡ Some (Closure f captures) → slice_get world.cells c ≡ Some kind
      → is_marked_kind (Some kind) ≡ true → ClosureCrosses graph world.cells f captures

-- closures captured what was there before them
abbrev pub CaptureEarlier : List HeapCell → Type 0
CaptureEarlier cells = (c f : ℕ) (captures : List Value) (v : Value) (d : ℕ)
    → slice_get cells c ≡ Some (Closure f captures) → Contains captures v
    → Contains (references v) d → d < c

-- The cell goes to a place whose kind has a property.
pub record GoesTo (P : RegKind → Type 0) (cells : List RegKind) (c : ℕ) : Type 0 where
  pub from : RegKind
  pub at : slice_get cells c ≡ Some from
  pub kind : RegKind
  pub goes : IsCaptured (Some from) (Some kind)
  pub holds : P kind

-- the cell goes to a place of an untracked kind
abbrev pub GoesUntracked : Graph → List RegKind → ℕ → Type 0
GoesUntracked graph cells c = GoesTo (λ kind. is_untracked graph (Some kind) ≡ true) cells c
