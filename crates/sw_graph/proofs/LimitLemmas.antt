-- A function that has too many of nothing is within the limits.
use Rattle.std.proofs.Common.{◌≡◌, Bool, true, false, nat_lt, Some, length, refl}
use Rattle.std.specs.Prelude.{None, if◌then◌else◌}
use Rattle.std.proofs.lemmas.Bool.{ltb-false}
use Rattle.sw_graph.specs.declared.function.Function.{Function}
use Rattle.sw_graph.specs.declared.function.Excess.TheVariants.{Registers, Points}
use Rattle.sw_graph.specs.declared.function.TheConstants.{MAX_REGISTERS, MAX_POINTS}
use Rattle.sw_graph.specs.Limits.{IsWithinLimits, excess_of}
use Rattle.sw_graph.specs.Points.{points_of}

pub within_of : (function : Function) → excess_of function ≡ None → IsWithinLimits function
within_of function none =
    by (nat_lt MAX_REGISTERS (length function.regs))
    (nat_lt MAX_POINTS (length (points_of function.blocks))) refl refl none where
      by : (regs points : Bool) → nat_lt MAX_REGISTERS (length function.regs) ≡ regs
          → nat_lt MAX_POINTS (length (points_of function.blocks)) ≡ points
          → (if regs then Some Registers else if points then Some Points else None) ≡ None
          → IsWithinLimits function
      by true points r p e = cc
      by false true r p e = cc
      by false false r p e = record { registers = ltb-false _ _ r; points = ltb-false _ _ p }
