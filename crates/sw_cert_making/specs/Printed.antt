-- The certificate that is made for a graph: the lines of the least annotations.
use Rattle.std.specs.Prelude.{◌≡◌, ℕ, ◌<◌, ◌≤◌, ◌⊎◌, Option, Some, None, List, length}
use Rattle.std.specs.Prelude.{slice_get, flat_map, Contains}
use Rattle.std.specs.List.{AllPairs}
use Rattle.sw_dictation.specs.Lines.{line_text}
use Rattle.sw_graph.specs.declared.function.Function.{Function}
use Rattle.sw_graph.specs.declared.graph.Graph.{Graph}
use Rattle.sw_partition.specs.Regions.{Regions}
use Rattle.sw_region_flow.specs.Analysis.{IsLeastOfFunction, targets_at}
use Rattle.sw_region_ops.specs.Setting.{setting_of}
use Rattle.sw_solve.specs.Annotation.{value_at}
use Rattle.sw_solve.specs.Ways.{HasWay}
use Rattle.sw_cert.specs.Certificate.{numbers_of}
use Rattle.sw_cert.specs.Shown.{Shows}
use Rattle.sw_cert.specs.declared.line.Line.{Line}
use Rattle.sw_cert.specs.declared.verdict.TheConstants.{CERTIFICATE_LIMIT}

-- by function, then by block
abbrev pub IsLineBefore : Line → Line → Type 0
IsLineBefore one other = (one.function < other.function)
    ⊎ ((one.function ≡ other.function) × (one.block < other.block))

-- The line shows what a least annotation of its function's blocks has at its block.
pub record IsLeastLine (graph : Graph) (line : Line) : Type 0 where
  pub body : Function
  pub is_body : slice_get graph.functions line.function ≡ Some body
  pub states : List (Option Regions)
  pub least : IsLeastOfFunction (setting_of graph body) states
  pub state : Regions
  pub stands : value_at states line.block ≡ Some state
  pub shows : Shows line state

-- the lines have one of the block
pub record HasLineOf (lines : List Line) (function block : ℕ) : Type 0 where
  pub line : Line
  pub is_line : Contains lines line
  pub function_is : line.function ≡ function
  pub block_is : line.block ≡ block

-- The text has, in order, the lines of the least annotations at all blocks to which a path leads.
pub record IsLeastCertificate (graph : Graph) (text : List ℕ) : Type 0 where
  pub lines : List Line
  pub least : (line : Line) → Contains lines line → IsLeastLine graph line
  pub all : (function : ℕ) (body : Function) (block : ℕ)
      → slice_get graph.functions function ≡ Some body
      → HasWay (targets_at body.blocks) block → HasLineOf lines function block
  pub rising : AllPairs IsLineBefore lines
  pub spelled : text ≡ flat_map (λ line. line_text (numbers_of line)) lines

-- The certificate of a graph, or none where it has more bytes than a certificate may have.
abbrev pub IsPrinted : Graph → Option (List ℕ) → Type 0
IsPrinted graph (Some text) =
    IsLeastCertificate graph text × (length text ≤ CERTIFICATE_LIMIT)
IsPrinted graph None =
    (text : List ℕ) × IsLeastCertificate graph text × (CERTIFICATE_LIMIT < length text)
