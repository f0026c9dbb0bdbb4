-- Where functions run (SE-0306, SE-0316, SE-0338, SE-0461).
use Rattle.std.specs.Prelude.{◌==◌, Bool, true, false, Option, Some, List, option_map}
use Rattle.std.specs.Prelude.{option_and_then}
use Rattle.sw_types.specs.declared.isolation.Iso.{Iso}
use Rattle.sw_types.specs.declared.isolation.Iso.TheVariants as iso
use Rattle.sw_value.specs.declared.executor.Executor.{Executor}
use Rattle.sw_value.specs.declared.executor.Executor.TheVariants.{Generic, ActorOf, Global}
use Rattle.sw_value.specs.declared.value.Value.{Value}
use Rattle.sw_value.specs.Value.{value_at, reference_of}

-- whether two executors are one
abbrev pub is_same : Executor → Executor → Bool
is_same Generic Generic = true
is_same (ActorOf a) (ActorOf b) = a == b
is_same (Global a) (Global b) = a == b
is_same _ _ = false

-- The executor of a function's isolation, where it does not take its caller's. The actor of one
-- that is isolated to `self` is in its register 0.
abbrev pub executor_of : Iso → List (Option Value) → Option Executor
executor_of iso.Free regs = Some Generic
executor_of iso.Caller regs = Some Generic
executor_of (iso.Global g) regs = Some (Global g)
executor_of iso.Own regs = option_map ActorOf (option_and_then reference_of (value_at regs 0))
