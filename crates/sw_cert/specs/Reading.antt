-- The annotations that the lines of a certificate of a graph give the blocks of its functions.
use Rattle.std.specs.Prelude.{◌≡◌, ℕ, Option, Some, List, [], length, slice_get, slice_index_or}
use Rattle.std.specs.Prelude.{IsSome, Contains}
use Rattle.sw_graph.specs.declared.function.Function.{Function}
use Rattle.sw_graph.specs.declared.graph.Graph.{Graph}
use Rattle.sw_partition.specs.Regions.{Regions}
use Rattle.sw_region_ops.specs.Elements.{element_count}
use Rattle.sw_region_ops.specs.Setting.{FunctionSetting, setting_of}
use Rattle.sw_region_ops.specs.Sites.{AreSites}
use Rattle.sw_solve.specs.Annotation.{value_at}
use Rattle.sw_cert.specs.Certificate.{IsCertificate}
use Rattle.sw_cert.specs.Shown.{Shows}
use Rattle.sw_cert.specs.declared.line.Extent.{Extent}
use Rattle.sw_cert.specs.declared.line.Line.{Line}

-- what a certificate depends on of a function
pub record IsExtentOf (setting : FunctionSetting) (extent : Extent) : Type 0 where
  pub blocks : extent.blocks ≡ length setting.body.blocks
  pub elements : extent.elements ≡ element_count setting.elements
  pub sites : AreSites setting extent.sites

-- what a certificate depends on of each function of a graph
pub record AreExtentsOf (graph : Graph) (extents : List Extent) : Type 0 where
  pub count : length extents ≡ length graph.functions
  pub each : (number : ℕ) (body : Function) (extent : Extent)
      → slice_get graph.functions number ≡ Some body → slice_get extents number ≡ Some extent
      → IsExtentOf (setting_of graph body) extent

-- one of the lines is that of the block, and shows the state
pub record IsStated (lines : List Line) (function block : ℕ) (state : Regions) : Type 0 where
  pub line : Line
  pub is_line : Contains lines line
  pub function_is : line.function ≡ function
  pub block_is : line.block ≡ block
  pub shows : Shows line state

-- The annotation of a function's blocks that lines give: at a block with a line the state that the
-- line shows, over the sites of the function, and nothing at another block.
pub record AreStated (extent : Extent) (lines : List Line) (function : ℕ)
    (states : List (Option Regions)) : Type 0 where
  pub sites : (block : ℕ) (state : Regions) → value_at states block ≡ Some state
      → state.sites ≡ extent.sites
  pub stated : (block : ℕ) (state : Regions) → value_at states block ≡ Some state
      → IsStated lines function block state
  pub all : (line : Line) → Contains lines line → line.function ≡ function
      → IsSome (value_at states line.block)

-- the annotation of a function, of those of all functions
abbrev pub states_of : List (List (Option Regions)) → ℕ → List (Option Regions)
states_of annotations function = slice_index_or annotations function []

-- The bytes are a certificate of the graph with these lines, which give its functions these
-- annotations.
pub record IsReading (graph : Graph) (bytes : List ℕ) (lines : List Line)
    (annotations : List (List (Option Regions))) : Type 0 where
  pub extents : List Extent
  pub are_extents : AreExtentsOf graph extents
  pub is_certificate : IsCertificate extents bytes lines
  pub are_stated : (function : ℕ) (extent : Extent) → slice_get extents function ≡ Some extent
      → AreStated extent lines function (states_of annotations function)
