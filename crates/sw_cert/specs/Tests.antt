-- What a test of the states says that a certificate gives the blocks of functions.
use Rattle.std.specs.Prelude.{◌≡◌, ℕ, ◌<◌, Option, Some, None, List, ◌∷◌, ◌++◌, length, slice_get}
use Rattle.std.specs.Prelude.{Contains, IfSome}
use Rattle.std.specs.List.{AllByRecursion}
use Rattle.sw_partition.specs.Regions.{Regions, size_of, IsWithin}
use Rattle.sw_region_ops.specs.Setting.{FunctionSetting}
use Rattle.sw_solve.specs.Annotation.{value_at, IsBelow}
use Rattle.sw_dictation.specs.Lines.{IsBadPlace}
use Rattle.sw_cert.specs.Certificate.{start}
use Rattle.sw_cert.specs.Form.{certificate_form}
use Rattle.sw_cert.specs.ReadLines.{text_of}
use Rattle.sw_cert.specs.Reading.{states_of}
use Rattle.sw_cert.specs.Verified.{Annotations, PassesAt, ClosedAt}
use Rattle.sw_cert.specs.declared.flows.FunctionFlow.{FunctionFlow}
use Rattle.sw_cert.specs.declared.line.Extent.{Extent}
use Rattle.sw_cert.specs.declared.line.Line.{Line}
use Rattle.sw_cert.specs.declared.verdict.CertFault.{CertFault}
use Rattle.sw_cert.specs.declared.verdict.CertFault.TheVariants.{BadForm, Entry, Fails, Open, Memory}

-- each state in the table is over these elements and sites
abbrev pub AreOfSize : List ℕ → List (Option Regions) → Type 0
AreOfSize size table = (block : ℕ) → IfSome (value_at table block) (λ state. size_of state ≡ size)

-- so it is for each function, over the elements and sites of the state at its entry
abbrev pub AreTablesOfSize : List FunctionFlow → Annotations → Type 0
AreTablesOfSize flows tables = (n : ℕ) (flow : FunctionFlow) → slice_get flows n ≡ Some flow
    → AreOfSize (size_of flow.entry) (states_of tables n)

-- the table has at each of the blocks a state that includes this one
abbrev pub IsAllBelow : Regions → List (Option Regions) → List ℕ → Type 0
IsAllBelow state table blocks = (block : ℕ) → Contains blocks block
    → IsBelow IsWithin state (value_at table block)

-- the first block of the function has a state that includes that at the entry
abbrev pub EntersBy : List FunctionFlow → Annotations → ℕ → Type 0
EntersBy flows tables function = (flow : FunctionFlow) → slice_get flows function ≡ Some flow
    → IsBelow IsWithin flow.entry (value_at (states_of tables function) 0)

-- the first function of which that isn't so, if there is one
abbrev pub IsFirstBelow : List FunctionFlow → Annotations → Option ℕ → Type 0
IsFirstBelow flows tables None = (function : ℕ) → EntersBy flows tables function
IsFirstBelow flows tables (Some function) = (function < length flows)
    × (¬ (EntersBy flows tables function))
    × ((other : ℕ) → other < function → EntersBy flows tables other)

-- what is wrong with the state at the block of a line that begins at this byte
abbrev pub LineFault : FunctionSetting → List (Option Regions) → ℕ → ℕ → CertFault → Type 0
LineFault setting states block at (Fails n) = (n ≡ at) × (¬ (PassesAt setting states block))
LineFault setting states block at (Open n) =
    (n ≡ at) × PassesAt setting states block × (¬ (ClosedAt setting states block))
LineFault setting states block at (BadForm n) = ⊥
LineFault setting states block at (Entry n) = ⊥
LineFault setting states block at Memory = Unit {0}

-- the state at the block of the line passes, and is closed
abbrev pub HoldsBy : List FunctionFlow → Annotations → Line → Type 0
HoldsBy flows tables line = (flow : FunctionFlow) → slice_get flows line.function ≡ Some flow
    → PassesAt flow.blocks.setting (states_of tables line.function) line.block
    × ClosedAt flow.blocks.setting (states_of tables line.function) line.block

-- the line is one of a block of a function that has one of these flows
pub record IsLineOn (flows : List FunctionFlow) (line : Line) : Type 0 where
  pub flow : FunctionFlow
  pub is_flow : slice_get flows line.function ≡ Some flow
  pub block : line.block < length flow.blocks.setting.body.blocks

-- what is wrong with the first line that doesn't hold
pub record IsFirstFault (flows : List FunctionFlow) (tables : Annotations) (lines : List Line)
    (fault : CertFault) : Type 0 where
  pub before : List Line
  pub line : Line
  pub behind : List Line
  pub splits : lines ≡ before ++ line ∷ behind
  pub hold : AllByRecursion (HoldsBy flows tables) before
  pub flow : FunctionFlow
  pub is_flow : slice_get flows line.function ≡ Some flow
  pub is_fault : LineFault flow.blocks.setting (states_of tables line.function) line.block
      (length (text_of before)) fault

-- at this byte the bytes stop being the beginning of a certificate, if there was memory
abbrev pub IfNotRead : List Extent → List ℕ → CertFault → Type 0
IfNotRead extents bytes (BadForm at) = IsBadPlace (certificate_form extents) start bytes at
IfNotRead extents bytes (Entry n) = ⊥
IfNotRead extents bytes (Fails n) = ⊥
IfNotRead extents bytes (Open n) = ⊥
IfNotRead extents bytes Memory = Unit {0}
