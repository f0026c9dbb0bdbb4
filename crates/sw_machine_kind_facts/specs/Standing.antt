-- Frames that stand at a point of their function, and the frames of a job one on another.
use Rattle.std.specs.Prelude.{◌≡◌, ℕ, ◌+◌, ◌<◌, ◌≤◌, ◌⊎◌, IsTrue, Option, Some, None, List, []}
use Rattle.std.specs.Prelude.{◌∷◌, ◌++◌, length, slice_get}
use Rattle.sw_types.specs.declared.shape.Shape.{Shape}
use Rattle.sw_types.specs.declared.ty.Ty.{Ty}
use Rattle.sw_graph.specs.declared.function.Function.{Function}
use Rattle.sw_graph.specs.declared.function.RegKind.{RegKind}
use Rattle.sw_graph.specs.declared.function.RegKind.TheVariants.{Plain}
use Rattle.sw_graph.specs.declared.graph.Graph.{Graph}
use Rattle.sw_graph.specs.declared.instr.Block.{Block}
use Rattle.sw_graph.specs.declared.instr.Instr.TheVariants.{Const, Payload}
use Rattle.sw_graph.specs.declared.instr.Operand.{Operand}
use Rattle.sw_graph.specs.Kinds.{Goes, value}
use Rattle.sw_graph.specs.Mentions.{blocks_of}
use Rattle.sw_graph.specs.Points.{Point, Middle, block_start}
use Rattle.sw_graph.specs.Ways.{is_set}
use Rattle.sw_value.specs.declared.frame.TheConstants.{NO_REGISTER}
use Rattle.sw_value.specs.declared.value.Value.{Value}
use Rattle.sw_value.specs.declared.frame.Frame.{Frame}
use Rattle.sw_value.specs.declared.job.Job.{Job}
use Rattle.sw_value.specs.declared.job.Status.{Status}
use Rattle.sw_value.specs.declared.job.Status.TheVariants.{Ready, Running, Waiting, Ended}
use Rattle.sw_value.specs.Value.{value_at, value_of, tag_of}
use Rattle.sw_machine_kind_facts.specs.Kinds.{HasKind, SlotsFit, Referents}
use Rattle.sw_graph.specs.Sure.{SureWay, point_before}

-- where a point is: which of the instructions of a block, or after them
pub record PlaceOfPoint (function : Function) (point : ℕ) : Type 0 where
  pub number : ℕ
  pub block : Block
  pub is : slice_get function.blocks number ≡ Some block
  pub begins : ℕ
  pub starts : block_start function number ≡ Some begins
  pub index : ℕ
  pub at : point ≡ begins + index
  pub inside : index ≤ length block.instrs

-- The register has a case of an enum whose block the frame has come to from a switch, and the frame
-- awaits nothing.
pub record Unpacked (function : Function) (awaits : Option ℕ) (number s : ℕ)
    (regs : List (Option Value)) : Type 0 where
  pub ready : awaits ≡ None
  pub source : ℕ
  pub from : Block
  pub is : slice_get function.blocks source ≡ Some from
  pub tag : ℕ
  pub leads : slice_get (blocks_of from.last) tag ≡ Some number
  pub value : Value
  pub has : value_at regs s ≡ Some value
  pub tagged : tag_of value ≡ Some tag

-- Where a payload is taken next, its case is known.
abbrev pub Front : Function → Option ℕ → List (Option Value) → ℕ → ℕ → Type 0
Front function awaits regs number index = (block : Block)
    → slice_get function.blocks number ≡ Some block → (at dst : ℕ) (src : Operand) (i : ℕ)
    → slice_get block.instrs index ≡ Some (Payload at dst src i)
    → Unpacked function awaits number src.reg regs

-- Where the instruction before gave a register a constant, the register has it, and the frame
-- awaits nothing.
abbrev pub HasConst : Option ℕ → List (Option Value) → Option Point → Type 0
HasConst awaits regs (Some (Middle (Const at dst literal))) = (awaits ≡ None)
    × (value_at regs dst ≡ Some (value_of literal))
HasConst awaits regs _ = Unit {0}

-- A frame has come to its point by a way through its function, and at each branch that a constant
-- decides it went to the side of the constant. Its registers fit, and those that the way sets have
-- values, but for the one that awaits the result of a call or a task.
pub record Stands (shapes : List Shape) (cells : List RegKind) (function : Function)
    (awaits : Option ℕ) (point : ℕ) (regs : List (Option Value)) : Type 0 where
  pub place : PlaceOfPoint function point
  pub front : Front function awaits regs place.number place.index
  pub constant : HasConst awaits regs (point_before function point)
  pub passed : List ℕ
  pub way : SureWay function point passed
  pub slots : SlotsFit shapes cells regs function.regs
  pub has : (r : ℕ) → r < length function.regs → IsTrue (is_set function passed r)
      → (awaits ≡ Some r → ⊥) → (v : Value) × (value_at regs r ≡ Some v)

pub record FrameFits (graph : Graph) (cells : List RegKind) (awaits : Option ℕ) (frame : Frame)
    : Type 0 where
  pub function : Function
  pub is : slice_get graph.functions frame.function ≡ Some function
  pub stands : Stands graph.shapes cells function awaits frame.point frame.regs

-- what a frame gives goes to the register of the frame below that awaits it, if one does
abbrev pub ResultGoes : Function → ℕ → Ty → Type 0
ResultGoes below r result = (r ≡ NO_REGISTER) ⊎ Goes (value result) (slice_get below.regs r)

-- The frames of a job: those below, and the top one, which may await a result. The bottom one gives
-- the result of the job, and each other what the frame below it awaits.
pub data StackFits (graph : Graph) (cells : List RegKind) : List Frame → Frame → Option ℕ → Ty
    → Type 0 where
  bottom : (below : List Frame) (top : Frame) (awaits : Option ℕ) (result : Ty) → below ≡ []
      → (fits : FrameFits graph cells awaits top) → fits.function.result ≡ result
      → StackFits graph cells below top awaits result
  above : (below : List Frame) (top : Frame) (awaits : Option ℕ) (result : Ty)
      (rest : List Frame) (lower : Frame) → below ≡ rest ++ lower ∷ []
      → StackFits graph cells rest lower (Some top.result) result
      → (fits : FrameFits graph cells awaits top)
      → ((function : Function) → slice_get graph.functions lower.function ≡ Some function
      → ResultGoes function top.result fits.function.result)
      → StackFits graph cells below top awaits
      result

-- the register of the top frame that awaits the result of another job
abbrev pub awaited_in : Status → Option ℕ
awaited_in (Waiting on r) = Some r
awaited_in _ = None

-- the result of the job goes to the register of the frame that awaits it
pub record AwaitFits (graph : Graph) (results : List Ty) (top : Frame) (on r : ℕ) : Type 0 where
  pub result : Ty
  pub is : slice_get results on ≡ Some result
  pub goes : (function : Function) → slice_get graph.functions top.function ≡ Some function
      → Goes (value result) (slice_get function.regs r)

abbrev pub StatusFits : Graph → Referents → Frame → Status → Type 0
StatusFits graph world top Ready = Unit {0}
StatusFits graph world top Running = Unit {0}
StatusFits graph world top (Waiting on r) = AwaitFits graph world.results top on r
StatusFits graph world top (Ended v) = ⊥

-- A job that has ended has a value of its result's type; another has frames.
pub data JobFits (graph : Graph) (world : Referents) : Job → Ty → Type 0 where
  over : (job : Job) (result : Ty) (v : Value) → job.frames ≡ [] → job.status ≡ Ended v
      → HasKind graph.shapes world.cells v (Plain result) → JobFits graph world job result
  goes : (job : Job) (result : Ty) (below : List Frame) (top : Frame)
      → job.frames ≡ below ++ top ∷ []
      → StackFits graph world.cells below top (awaited_in job.status) result
      → StatusFits graph world top job.status → JobFits graph world job result

abbrev pub or_above : Option Frame → Option ℕ → Option ℕ
or_above None awaits = awaits
or_above (Some frame) awaits = Some frame.result

-- the register that the frame with an index awaits a result in: that of the frame above it, or what
-- the job waits for
abbrev pub awaited_at : Job → ℕ → Option ℕ
awaited_at job i = or_above (slice_get job.frames (i + 1)) (awaited_in job.status)
