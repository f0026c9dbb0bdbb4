-- The greatest number of registers and of points of a function, and what a function has more of.
use Rattle.std.specs.Prelude.{◌≤◌, nat_lt, length, Option, Some, None, if◌then◌else◌}
use Rattle.sw_graph.specs.declared.function.TheConstants.{MAX_REGISTERS, MAX_POINTS}
use Rattle.sw_graph.specs.declared.function.Function.{Function}
use Rattle.sw_graph.specs.declared.function.Excess.{Excess}
use Rattle.sw_graph.specs.declared.function.Excess.TheVariants.{Registers, Points}
use Rattle.sw_graph.specs.Points.{points_of}

-- the function isn't too large
pub record IsWithinLimits (function : Function) : Type 0 where
  pub registers : length function.regs ≤ MAX_REGISTERS
  pub points : length (points_of function.blocks) ≤ MAX_POINTS

-- what a function has too many of, the registers first
abbrev pub excess_of : Function → Option Excess
excess_of function =
    if nat_lt MAX_REGISTERS (length function.regs) then Some Registers
    else if nat_lt MAX_POINTS (length (points_of function.blocks)) then Some Points else None
