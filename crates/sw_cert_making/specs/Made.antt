-- The certificate of a graph while it is made.
use Rattle.std.specs.Prelude.{◌≡◌, ℕ, ◌<◌, ◌≤◌, ◌++◌, Bool, true, false, Option, Some, None, List}
use Rattle.std.specs.Prelude.{length, slice_get, Contains, IsSome}
use Rattle.std.specs.List.{AllPairs}
use Rattle.sw_graph.specs.declared.function.Function.{Function}
use Rattle.sw_graph.specs.declared.graph.Graph.{Graph}
use Rattle.sw_partition.specs.Regions.{Regions}
use Rattle.sw_region_flow.specs.Analysis.{IsLeastOfFunction, targets_at}
use Rattle.sw_region_ops.specs.Setting.{setting_of}
use Rattle.sw_solve.specs.Annotation.{value_at}
use Rattle.sw_solve.specs.Ways.{HasWay}
use Rattle.sw_cert_making.specs.Printed.{IsLineBefore, IsLeastLine, HasLineOf}
use Rattle.sw_cert.specs.ReadLines.{text_of}
use Rattle.sw_cert.specs.Shown.{Shows, IsLineFor}
use Rattle.sw_cert.specs.declared.line.Line.{Line}
use Rattle.sw_cert.specs.declared.verdict.TheConstants.{CERTIFICATE_LIMIT}

-- the text gets the line of a block, if a state stands there
abbrev pub IsLineAdded : ℕ → ℕ → Option Regions → List ℕ → List ℕ → Type 0
IsLineAdded function block None old new = new ≡ old
IsLineAdded function block (Some state) old new =
    (line : List ℕ) × IsLineFor function block state line × (new ≡ old ++ line)

-- a line of a function shows what stands at its block
pub record IsBlockLine (function : ℕ) (states : List (Option Regions)) (line : Line) : Type 0 where
  pub function_is : line.function ≡ function
  pub state : Regions
  pub stands : value_at states line.block ≡ Some state
  pub shows : Shows line state

-- the text gets the lines of the blocks below a number at which a state stands, in order
pub record AreLinesAdded (function : ℕ) (states : List (Option Regions)) (count : ℕ)
    (old new : List ℕ) : Type 0 where
  pub lines : List Line
  pub of_blocks : (line : Line) → Contains lines line → IsBlockLine function states line
  pub below : (line : Line) → Contains lines line → line.block < count
  pub all : (block : ℕ) → block < count → IsSome (value_at states block)
      → HasLineOf lines function block
  pub rising : AllPairs IsLineBefore lines
  pub added : new ≡ old ++ text_of lines

-- so it is within the limit, or the lines of fewer blocks pass the limit
abbrev pub AreLinesWithin : ℕ → List (Option Regions) → ℕ → List ℕ → List ℕ → Bool → Type 0
AreLinesWithin function states blocks old new true =
    AreLinesAdded function states blocks old new × (length new ≤ CERTIFICATE_LIMIT)
AreLinesWithin function states blocks old new false = (count : ℕ) × (count ≤ blocks)
    × AreLinesAdded function states count old new × (CERTIFICATE_LIMIT < length new)

-- the text gets the lines of a function
pub record IsFunctionAdded (graph : Graph) (function : ℕ) (body : Function)
    (old new : List ℕ) : Type 0 where
  pub states : List (Option Regions)
  pub least : IsLeastOfFunction (setting_of graph body) states
  pub added : AreLinesAdded function states (length body.blocks) old new

-- it gets those of its first blocks
pub record IsFunctionBegun (graph : Graph) (function : ℕ) (body : Function)
    (old new : List ℕ) : Type 0 where
  pub states : List (Option Regions)
  pub least : IsLeastOfFunction (setting_of graph body) states
  pub count : ℕ
  pub few : count ≤ length body.blocks
  pub added : AreLinesAdded function states count old new

-- the lines of a function are added within the limit, or those of its first blocks pass the limit
abbrev pub IsFunctionWithin : Graph → ℕ → Function → List ℕ → List ℕ → Bool → Type 0
IsFunctionWithin graph function body old new true =
    IsFunctionAdded graph function body old new × (length new ≤ CERTIFICATE_LIMIT)
IsFunctionWithin graph function body old new false =
    IsFunctionBegun graph function body old new × (CERTIFICATE_LIMIT < length new)

-- the text has the lines of the functions below a number
pub record IsMadeBelow (graph : Graph) (count : ℕ) (text : List ℕ) : Type 0 where
  pub lines : List Line
  pub least : (line : Line) → Contains lines line → IsLeastLine graph line
  pub below : (line : Line) → Contains lines line → line.function < count
  pub all : (function : ℕ) (body : Function) (block : ℕ) → function < count
      → slice_get graph.functions function ≡ Some body
      → HasWay (targets_at body.blocks) block → HasLineOf lines function block
  pub rising : AllPairs IsLineBefore lines
  pub spelled : text ≡ text_of lines
