-- Results of operations that give nothing where they would overflow.
use Rattle.std.specs.Prelude.{Option, Some, None, ℤ, Result, Ok, Err}
use Rattle.sw_value.specs.declared.state.TrapKind.{TrapKind}
use Rattle.sw_value.specs.declared.state.TrapKind.TheVariants.{Overflow}
use Rattle.sw_value.specs.declared.value.Value.{Value}
use Rattle.sw_value.specs.declared.value.Value.TheVariants.{Int}

-- an integer, or the trap of one that has more than 64 bits
abbrev pub of_checked : Option ℤ → Result Value TrapKind
of_checked None = Err Overflow
of_checked (Some n) = Ok (Int n)
