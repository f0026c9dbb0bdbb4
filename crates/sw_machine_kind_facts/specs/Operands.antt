-- What a running job finds where it executes its next instruction.
use Rattle.std.specs.Prelude.{◌≡◌, ℕ, false, Option, Some, List, length, slice_get}
use Rattle.std.specs.List.{All}
use Rattle.sw_types.specs.declared.shape.Shape.{Shape}
use Rattle.sw_graph.specs.declared.function.Function.{Function}
use Rattle.sw_graph.specs.declared.function.RegKind.{RegKind}
use Rattle.sw_graph.specs.declared.graph.Graph.{Graph}
use Rattle.sw_graph.specs.declared.instr.Instr.TheVariants.{LoadGlobal}
use Rattle.sw_graph.specs.Points.{Point, Middle, point_in}
use Rattle.sw_graph.specs.Ways.{point_reads}
use Rattle.sw_value.specs.declared.frame.Frame.{Frame}
use Rattle.sw_value.specs.declared.job.Job.{Job}
use Rattle.sw_value.specs.declared.state.State.{State}
use Rattle.sw_value.specs.declared.value.Value.{Value}
use Rattle.sw_value.specs.Effect.{effect_of, is_stuck}
use Rattle.sw_value.specs.Job.{top_frame}
use Rattle.sw_value.specs.Value.{value_at}
use Rattle.sw_machine_kind_facts.specs.FirstValues.{HasValue}
use Rattle.sw_machine_kind_facts.specs.Kinds.{HasKind}

-- The register is there and has a value, of the kind of the register.
pub record HasOperand (shapes : List Shape) (cells : List RegKind) (kinds : List RegKind)
    (regs : List (Option Value)) (r : ℕ) : Type 0 where
  pub value : Value
  pub has : value_at regs r ≡ Some value
  pub kind : RegKind
  pub is : slice_get kinds r ≡ Some kind
  pub fits : HasKind shapes cells value kind

-- The job's top frame stands at a point of its function. The registers that are read there have
-- values of their kinds, the global that is read has a value, and the job is not stuck.
pub record HasNext (graph : Graph) (cells : List RegKind) (state : State) (job : Job) : Type 0 where
  pub frame : Frame
  pub top : top_frame job ≡ Some frame
  pub function : Function
  pub is : slice_get graph.functions frame.function ≡ Some function
  pub point : Point
  pub at : point_in function frame.point ≡ Some point
  pub operands : All (HasOperand graph.shapes cells function.regs frame.regs) (point_reads point)
  pub global : (at dst number : ℕ) → point ≡ Middle (LoadGlobal at dst number)
      → HasValue state number
  pub unstuck : is_stuck (effect_of graph state (length job.frames) frame) ≡ false
