-- Changes of a frame, and the first frame of a function, which is no change. Where a method of
-- `Frame` makes a change by itself, both have one name.
use Rattle.std.specs.Prelude.{ℕ, ◌==◌, Option, Some, List, true, slice_get, slice_set, length}
use Rattle.std.specs.Prelude.{option_and_then, if◌then◌else◌}
use Rattle.std.specs.Option.{option_map}
use Rattle.sw_types.specs.declared.isolation.Iso.{Iso}
use Rattle.sw_graph.specs.declared.graph.Graph.{Graph}
use Rattle.sw_graph.specs.Points.{Point, point_in, block_start}
use Rattle.sw_value.specs.declared.frame.TheConstants.{NO_REGISTER}
use Rattle.sw_value.specs.declared.value.Value.{Value}
use Rattle.sw_value.specs.declared.frame.Frame.{Frame}
use Rattle.sw_value.specs.Lists.{changed_at}
use Rattle.sw_value.specs.Value.{registers, with_field}
use Rattle.sw_value.specs.Executor.{executor_of}

-- what stands at the point of a frame, if its function is there and has that point
unfoldable pub point_at : Graph → Frame → Option Point
point_at graph frame =
    option_and_then (λ function. point_in function frame.point)
    (slice_get graph.functions frame.function)

-- the point at which a block of the frame's function begins, if there is such a block
unfoldable pub start_at : Graph → Frame → ℕ → Option ℕ
start_at graph frame block =
    option_and_then (λ function. block_start function block)
    (slice_get graph.functions frame.function)

-- register r gets v; a number past the registers changes nothing
unfoldable pub set_register : ℕ → Value → Frame → Frame
set_register r v frame = record frame { regs = slice_set frame.regs r (Some v) }

-- an instruction has given register r the value v, and the frame goes on at point `next`
unfoldable pub finish_instr : ℕ → Value → ℕ → Frame → Frame
finish_instr r v next frame = record frame { regs = slice_set frame.regs r (Some v); point = next }

-- the frame goes on at point `next`
unfoldable pub go_on : ℕ → Frame → Frame
go_on next frame = record frame { point = next }

-- the struct in register r has v as its part i, and the frame goes on at point `next`
unfoldable pub set_field : ℕ → ℕ → Value → ℕ → Frame → Frame
set_field r i v next frame =
    record frame { regs = changed_at (option_map (with_field i v)) r frame.regs; point = next }

-- the frame above has returned v; the number of no register asks for no result
unfoldable pub take_result : ℕ → Value → Frame → Frame
take_result r v frame = if r == NO_REGISTER then frame else set_register r v frame

abbrev pub first_frame_of : ℕ → Iso → List (Option Value) → Option Frame
first_frame_of number iso regs =
    option_map
    (λ e. record {
      function = number;
      point = 0;
      regs = regs;
      executor = e;
      crossing =
          true;
      result = NO_REGISTER;
    })
    (executor_of iso regs)

-- The bottom frame of a job, or the frame of a first value: it begins a function with values in its
-- first registers. There is none where there is no such function, or where it is isolated to a
-- `self` that the values lack.
unfoldable pub first_frame : Graph → ℕ → List Value → Option Frame
first_frame graph number values =
    option_and_then
    (λ function. first_frame_of number function.iso (registers (length function.regs) values))
    (slice_get graph.functions number)
