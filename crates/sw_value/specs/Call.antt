-- Frames that calls push (SE-0306, SE-0338, SE-0461).
use Rattle.std.specs.Prelude.{ℕ, Bool, true, false, Option, Some, None, List, ◌++◌, slice_get}
use Rattle.std.specs.Prelude.{length, option_map, option_and_then}
use Rattle.sw_types.specs.declared.isolation.Iso.{Iso}
use Rattle.sw_types.specs.declared.isolation.CallKind.{CallKind}
use Rattle.sw_types.specs.declared.isolation.CallKind.TheVariants.{Plain, Same, Weak, Strong, Make}
use Rattle.sw_graph.specs.declared.graph.Graph.{Graph}
use Rattle.sw_value.specs.declared.executor.Executor.{Executor}
use Rattle.sw_value.specs.declared.executor.Executor.TheVariants.{Generic}
use Rattle.sw_value.specs.declared.value.Value.{Value}
use Rattle.sw_value.specs.declared.cell.HeapCell.{HeapCell}
use Rattle.sw_value.specs.declared.cell.HeapCell.TheVariants as cell
use Rattle.sw_value.specs.declared.frame.Frame.{Frame}
use Rattle.sw_value.specs.Executor.{executor_of}
use Rattle.sw_value.specs.Value.{registers}

-- whether a call gives its caller's executor up
abbrev pub crosses : CallKind → Bool
crosses Plain = false
crosses Same = false
crosses Weak = true
crosses Strong = true
crosses Make = false

-- The executor of a call: the generic one of a weak call, the callee's own of a strong one, and
-- else the caller's.
abbrev pub call_executor : CallKind → Executor → Iso → List (Option Value) → Option Executor
call_executor Plain caller iso regs = Some caller
call_executor Same caller iso regs = Some caller
call_executor Weak caller iso regs = Some Generic
call_executor Strong caller iso regs = executor_of iso regs
call_executor Make caller iso regs = Some caller

-- the frame of a call on an executor, whose result goes into register r of the caller
abbrev pub pushed_frame : ℕ → ℕ → Bool → List (Option Value) → Executor → Frame
pushed_frame number r crossing regs executor = record {
  function = number;
  point = 0;
  regs = regs;
  executor = executor;
  crossing = crossing;
  result = r;
}

abbrev pub called_in : Frame → ℕ → CallKind → ℕ → Iso → List (Option Value) → Option Frame
called_in caller number kind r iso regs =
    option_map (pushed_frame number r (crosses kind) regs)
    (call_executor kind caller.executor iso regs)

-- The frame of a call with these values in its first registers. There is none where there is no
-- such function, or where a strong call's function is isolated to a `self` that the values lack.
unfoldable pub called_frame : Graph → Frame → ℕ → CallKind → ℕ → List Value → Option Frame
called_frame graph caller number kind r values =
    option_and_then
    (λ function.
    called_in caller number kind r function.iso (registers (length function.regs) values))
    (slice_get graph.functions number)

-- the frame of a call of a closure, whose function takes what it captures before the arguments
abbrev pub closure_frame : Graph → Frame → ℕ → List Value → HeapCell → Option Frame
closure_frame graph caller r values (cell.Closure number captures) =
    called_frame graph caller number Plain r (captures ++ values)
closure_frame graph caller r values _ = None
