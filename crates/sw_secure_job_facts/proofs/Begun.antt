-- The first frame of a job, as it begins.
use Rattle.std.specs.Option.{option_and_then, option_map}
use Rattle.std.specs.List.{slice_get}
use Rattle.std.proofs.Common.{◌≡◌, ℕ, true, Option, Some, None, List, length, refl, subst}
use Rattle.sw_list.proofs.ListLemmas.{some_injective}
use Rattle.sw_graph.specs.declared.function.Function.{Function}
use Rattle.sw_graph.specs.declared.graph.Graph.{Graph}
use Rattle.sw_value.specs.declared.executor.Executor.{Executor}
use Rattle.sw_value.specs.declared.frame.Frame.{Frame}
use Rattle.sw_value.specs.declared.frame.TheConstants.{NO_REGISTER}
use Rattle.sw_value.specs.declared.value.Value.{Value}
use Rattle.sw_value.specs.Executor.{executor_of}
use Rattle.sw_value.specs.Frame.{first_frame, first_frame_of}
use Rattle.sw_value.specs.Value.{registers}

-- The frame begins the function with this number with these values.
pub record IsBegun (graph : Graph) (number : ℕ) (values : List Value) (frame : Frame) : Type 0 where
  pub function : Function
  pub is : slice_get graph.functions number ≡ Some function
  pub number_is : frame.function ≡ number
  pub point : frame.point ≡ 0
  pub regs : frame.regs ≡ registers (length function.regs) values
  pub executor : executor_of function.iso (registers (length function.regs) values)
      ≡ Some frame.executor
  pub crossing : frame.crossing ≡ true
  pub result : frame.result ≡ NO_REGISTER

pub begun_from : (graph : Graph) (number : ℕ) (values : List Value) (frame : Frame)
    → first_frame graph number values ≡ Some frame → IsBegun graph number values frame
unfolding first_frame
begun_from graph number values frame = by (slice_get graph.functions number) refl where
  framed : (function : Function) → slice_get graph.functions number ≡ Some function
      → (e : Option Executor)
      → executor_of function.iso (registers (length function.regs) values) ≡ e
      → option_map (λ e. record {
        function = number;
        point = 0;
        regs = registers (length function.regs) values;
        executor = e;
        crossing = true;
        result = NO_REGISTER;
      }) e ≡ Some frame → IsBegun graph number values frame
  framed function at None none is = cc
  framed function at (Some e) some is =
      let made : Frame = record {
        function = number;
        point = 0;
        regs = registers (length function.regs) values;
        executor = e;
        crossing = true;
        result = NO_REGISTER;
      } in
      let same : made ≡ frame = some_injective is in
      subst (IsBegun graph number values) same (record {
        function = function;
        is = at;
        number_is = refl;
        point = refl;
        regs = refl;
        executor = some;
        crossing = refl;
        result = refl;
      })

  by : (o : Option Function) → slice_get graph.functions number ≡ o
      → option_and_then (λ (function : Function). first_frame_of number function.iso
      (registers (length function.regs) values)) o ≡ Some frame
      → IsBegun graph number values frame
  by None at is = cc
  by (Some function) at is = framed function at
      (executor_of function.iso (registers (length function.regs) values)) refl is
