-- The access of an instruction that is not stuck, by what the instruction needs.
use Rattle.std.specs.Prelude.{ℕ, Option, None, slice_get, option_map, option_and_then}
use Rattle.sw_graph.specs.declared.instr.Instr.{Instr}
use Rattle.sw_graph.specs.declared.instr.Instr.TheVariants as instr
use Rattle.sw_graph.specs.declared.instr.Operand.{Operand}
use Rattle.sw_graph.specs.declared.graph.Graph.{Graph}
use Rattle.sw_value.specs.declared.frame.Frame.{Frame}
use Rattle.sw_value.specs.declared.race.Access.{Access}
use Rattle.sw_value.specs.declared.race.Place.{Place}
use Rattle.sw_value.specs.declared.state.State.{State}
use Rattle.sw_value.specs.Value.{value_at, operand_value, reference_at}
use Rattle.sw_value.specs.Access.{box_at, part_at, global_at, read_by, write_by}

-- the box of an operand
abbrev pub box_of : State → Frame → Operand → Option Place
box_of state frame b = option_and_then (box_at state) (reference_at frame.regs b)

-- part i of the object or actor of an operand, if it is a `var`
abbrev pub var_part_of : Graph → State → Frame → Operand → ℕ → Option Place
var_part_of graph state frame o i =
    option_and_then (part_at graph state i) (reference_at frame.regs o)

-- a load reads a location that has a value, and a store writes the value of its operand
abbrev pub live_access : Graph → State → ℕ → Frame → Instr → Option Access
live_access graph state j frame (instr.LoadBox at dst cell) =
    option_map (read_by j at) (box_of state frame cell)
live_access graph state j frame (instr.StoreBox at cell src) =
    option_and_then (λ v. option_map (write_by j at) (box_of state frame cell))
    (operand_value frame.regs src)
live_access graph state j frame (instr.LoadProp at dst cell part) =
    option_map (read_by j at) (var_part_of graph state frame cell part)
live_access graph state j frame (instr.StoreProp at cell part src) =
    option_and_then (λ v. option_map (write_by j at) (var_part_of graph state frame cell part))
    (operand_value frame.regs src)
live_access graph state j frame (instr.LoadGlobal at dst global) =
    option_and_then (λ v. option_map (read_by j at) (global_at graph global))
    (value_at state.globals global)
live_access graph state j frame (instr.StoreGlobal at global src) =
    option_and_then
    (λ v. option_and_then (λ old. option_map (write_by j at) (global_at graph global))
    (slice_get state.globals global)) (operand_value frame.regs src)
live_access graph state j frame _ = None
