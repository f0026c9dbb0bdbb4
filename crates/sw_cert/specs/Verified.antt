-- What is answered about bytes that may be a certificate of a graph.
use Rattle.std.specs.Prelude.{◌≡◌, ℕ, ◌<◌, Option, Some, List, ◌∷◌, ◌++◌, length, slice_get}
use Rattle.std.specs.Prelude.{flat_map, Result, Ok, Err}
use Rattle.std.specs.List.{AllByRecursion}
use Rattle.sw_dictation.specs.Lines.{line_text, IsBadPlace}
use Rattle.sw_graph.specs.declared.function.Function.{Function}
use Rattle.sw_graph.specs.declared.graph.Graph.{Graph}
use Rattle.sw_partition.specs.Regions.{Regions, IsWithin}
use Rattle.sw_region_flow.specs.Analysis.{block_ops_at, targets_at}
use Rattle.sw_region_flow.specs.Certified.{IsCertified}
use Rattle.sw_region_flow.specs.Passing.{AllPass}
use Rattle.sw_region_flow.specs.Walks.{IsCopy, Walks}
use Rattle.sw_region_ops.specs.Entry.{IsEntryOf}
use Rattle.sw_region_ops.specs.Setting.{FunctionSetting, setting_of}
use Rattle.sw_solve.specs.Annotation.{value_at, IsBelow, IsPassedOn}
use Rattle.sw_cert.specs.Certificate.{start, numbers_of}
use Rattle.sw_cert.specs.Form.{AreFit, certificate_form}
use Rattle.sw_cert.specs.Reading.{AreExtentsOf, states_of, IsReading}
use Rattle.sw_cert.specs.declared.line.Extent.{Extent}
use Rattle.sw_cert.specs.declared.line.Line.{Line}
use Rattle.sw_cert.specs.declared.verdict.CertFault.{CertFault}
use Rattle.sw_cert.specs.declared.verdict.CertFault.TheVariants as faults

-- the annotations of all functions
abbrev pub Annotations : Type 0
Annotations = List (List (Option Regions))

-- The numbers of the graph's certificates are of the size that is read.
abbrev pub HasFitExtents : Graph → Type 0
HasFitExtents graph = (extents : List Extent) → AreExtentsOf graph extents → AreFit extents

-- At this byte the bytes stop being the beginning of a certificate of the graph.
pub record IsNotInForm (graph : Graph) (bytes : List ℕ) (at : ℕ) : Type 0 where
  pub extents : List Extent
  pub are_extents : AreExtentsOf graph extents
  pub is_bad : IsBadPlace (certificate_form extents) start bytes at

-- Block 0 of the function has a state which includes that at the entry.
pub record IsEntered (graph : Graph) (body : Function)
    (states : List (Option Regions)) : Type 0 where
  pub entry : Regions
  pub is_entry : IsEntryOf graph body entry
  pub within : IsBelow IsWithin entry (value_at states 0)

abbrev pub EntersAt : Graph → Annotations → ℕ → Type 0
EntersAt graph annotations function = (body : Function)
    → slice_get graph.functions function ≡ Some body
    → IsEntered graph body (states_of annotations function)

-- the least function that isn't entered
pub record IsFirstNotEntered (graph : Graph) (annotations : Annotations)
    (function : ℕ) : Type 0 where
  pub not_entered : ¬ (EntersAt graph annotations function)
  pub least : (other : ℕ) → other < function → EntersAt graph annotations other

-- With what an annotation has at a block, the operations of the block pass.
abbrev pub PassesAt : FunctionSetting → List (Option Regions) → ℕ → Type 0
PassesAt setting states block = (state copied : Regions) → value_at states block ≡ Some state
    → IsCopy state copied → AllPass (block_ops_at setting block) copied

-- What the operations of the block make of what an annotation has there is included in what it has
-- at each block that follows.
abbrev pub ClosedAt : FunctionSetting → List (Option Regions) → ℕ → Type 0
ClosedAt setting states block = (state : Regions) → value_at states block ≡ Some state
    → IsPassedOn IsWithin (λ b. Walks (block_ops_at setting b)) (targets_at setting.body.blocks)
    states block state

-- so it is at the block of a line
abbrev pub LinePasses : Graph → Annotations → Line → Type 0
LinePasses graph annotations line = (body : Function)
    → slice_get graph.functions line.function ≡ Some body
    → PassesAt (setting_of graph body) (states_of annotations line.function) line.block

abbrev pub LineIsClosed : Graph → Annotations → Line → Type 0
LineIsClosed graph annotations line = (body : Function)
    → slice_get graph.functions line.function ≡ Some body
    → ClosedAt (setting_of graph body) (states_of annotations line.function) line.block

abbrev pub Holds : Graph → Annotations → Line → Type 0
Holds graph annotations line = LinePasses graph annotations line × LineIsClosed graph annotations line

-- The first line that doesn't hold, and the place of its first byte.
pub record IsFirstLine (graph : Graph) (bytes : List ℕ) (annotations : Annotations) (line : Line)
    (at : ℕ) : Type 0 where
  pub before : List Line
  pub behind : List Line
  pub is_reading : IsReading graph bytes (before ++ line ∷ behind) annotations
  pub entered : (function : ℕ) → EntersAt graph annotations function
  pub hold : AllByRecursion (Holds graph annotations) before
  pub at_is : at ≡ length (flat_map (λ line. line_text (numbers_of line)) before)

-- The bytes are a certificate of the graph, and the annotation of each function is closed, with each
-- test passing.
pub record IsAccepted (graph : Graph) (bytes : List ℕ) : Type 0 where
  pub lines : List Line
  pub annotations : Annotations
  pub is_reading : IsReading graph bytes lines annotations
  pub certified : (function : ℕ) (body : Function)
      → slice_get graph.functions function ≡ Some body
      → IsCertified (setting_of graph body) (states_of annotations function)

-- What is answered where there is memory.
pub data Verified (graph : Graph) (bytes : List ℕ) : Result (Unit {0}) CertFault → Type 0 where
  accepted : IsAccepted graph bytes → Verified graph bytes (Ok tt)
  bad_form : (at : ℕ) → IsNotInForm graph bytes at
      → Verified graph bytes (Err (faults.BadForm at))
  entry : (lines : List Line) (annotations : Annotations) (function : ℕ)
      → IsReading graph bytes lines annotations → IsFirstNotEntered graph annotations function
      → Verified graph bytes (Err (faults.Entry function))
  fails : (annotations : Annotations) (line : Line) (at : ℕ)
      → IsFirstLine graph bytes annotations line at → ¬ (LinePasses graph annotations line)
      → Verified graph bytes (Err (faults.Fails at))
  open_at : (annotations : Annotations) (line : Line) (at : ℕ)
      → IsFirstLine graph bytes annotations line at → LinePasses graph annotations line
      → ¬ (LineIsClosed graph annotations line)
      → Verified graph bytes (Err (faults.Open at))
