-- Tables of the states that lines give the blocks of functions, while they are filled.
use Rattle.std.specs.Prelude.{◌≡◌, ℕ, ◌<◌, Option, Some, None, List, length, slice_get, slice_set}
use Rattle.std.specs.Prelude.{replicate, IfSome}
use Rattle.sw_partition.specs.Regions.{Regions, size_of}
use Rattle.sw_solve.specs.Annotation.{value_at}
use Rattle.sw_cert.specs.Certificate.{IsLineOf}
use Rattle.sw_cert.specs.Flows.{extent_for}
use Rattle.sw_cert.specs.Reading.{AreStated, states_of}
use Rattle.sw_cert.specs.Shown.{Shows}
use Rattle.sw_cert.specs.declared.flows.FunctionFlow.{FunctionFlow}
use Rattle.sw_cert.specs.declared.line.Extent.{Extent}
use Rattle.sw_cert.specs.declared.line.Line.{Line}

-- nothing at any block of a function with this flow
abbrev pub blank_for : FunctionFlow → List (Option Regions)
blank_for flow = replicate (length flow.blocks.setting.body.blocks) None

-- the line is one of a function with one of these extents
pub record IsLineIn (extents : List Extent) (line : Line) : Type 0 where
  pub extent : Extent
  pub is_extent : slice_get extents line.function ≡ Some extent
  pub fits : IsLineOf extent line

-- there is a place for each block of each function
abbrev pub HavePlaces : List FunctionFlow → List (List (Option Regions)) → Type 0
HavePlaces flows tables = (n : ℕ) (flow : FunctionFlow) → slice_get flows n ≡ Some flow
    → length (states_of tables n) ≡ length flow.blocks.setting.body.blocks

-- the state that the line shows stands at its block, and else nothing changed
pub record IsTabled (flows : List FunctionFlow) (line : Line)
    (old new : List (List (Option Regions))) : Type 0 where
  pub flow : FunctionFlow
  pub is_flow : slice_get flows line.function ≡ Some flow
  pub room : line.block < length flow.blocks.setting.body.blocks
  pub state : Regions
  pub shows : Shows line state
  pub size : size_of state ≡ size_of flow.entry
  pub value : new ≡ slice_set old line.function
      (slice_set (states_of old line.function) line.block (Some state))

-- the tables of functions with these flows that the lines fill
pub record AreTabled (flows : List FunctionFlow) (lines : List Line)
    (tables : List (List (Option Regions))) : Type 0 where
  pub count : length tables ≡ length flows
  pub places : HavePlaces flows tables
  pub sized : (n : ℕ) (flow : FunctionFlow) → slice_get flows n ≡ Some flow → (block : ℕ)
      → IfSome (value_at (states_of tables n) block) (λ state. size_of state ≡ size_of flow.entry)
  pub stated : (n : ℕ) (flow : FunctionFlow) → slice_get flows n ≡ Some flow
      → AreStated (extent_for flow) lines n (states_of tables n)
