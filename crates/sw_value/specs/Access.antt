-- Which location an instruction accesses.
use Rattle.std.specs.Prelude.{ℕ, Bool, true, false, Option, Some, None, List, slice_get, length}
use Rattle.std.specs.Prelude.{is_some, option_map, option_and_then, unwrap_or, if◌then◌else◌}
use Rattle.sw_types.specs.declared.shape.Shape.{Shape}
use Rattle.sw_graph.specs.declared.instr.Instr.{Instr}
use Rattle.sw_graph.specs.declared.instr.Instr.TheVariants as instr
use Rattle.sw_graph.specs.declared.graph.Graph.{Graph}
use Rattle.sw_graph.specs.Points.{Point, Middle, End}
use Rattle.sw_value.specs.declared.value.Value.{Value}
use Rattle.sw_value.specs.declared.cell.HeapCell.{HeapCell}
use Rattle.sw_value.specs.declared.cell.HeapCell.TheVariants as cell
use Rattle.sw_value.specs.declared.frame.Frame.{Frame}
use Rattle.sw_value.specs.declared.job.Job.{Job}
use Rattle.sw_value.specs.declared.race.Access.{Access}
use Rattle.sw_value.specs.declared.race.Place.{Place}
use Rattle.sw_value.specs.declared.race.Place.TheVariants.{Prop, Global, BoxOf}
use Rattle.sw_value.specs.declared.state.State.{State}
use Rattle.sw_value.specs.Value.{reference_at}
use Rattle.sw_value.specs.Frame.{point_at}
use Rattle.sw_value.specs.Job.{top_frame, is_running}
use Rattle.sw_value.specs.Effect.{is_stuck, effect_of}

abbrev pub box_in : ℕ → HeapCell → Option Place
box_in c (cell.BoxOf held) = Some (BoxOf c)
box_in c _ = None

-- the box with that number
abbrev pub box_at : State → ℕ → Option Place
box_at state c = option_and_then (box_in c) (slice_get state.cells c)

-- whether part i of a shape is a `var`
abbrev pub is_var_part : List Shape → ℕ → ℕ → Bool
is_var_part shapes k i =
    unwrap_or (option_and_then (λ s. option_map (λ p. p.mutable) (slice_get s.parts i))
    (slice_get shapes k)) false

abbrev pub var_part : Graph → ℕ → ℕ → ℕ → List Value → Option Place
var_part graph c i k parts =
    option_and_then (λ _. if is_var_part graph.shapes k i then Some (Prop c i) else None)
    (slice_get parts i)

abbrev pub part_in : Graph → ℕ → ℕ → HeapCell → Option Place
part_in graph c i (cell.Object k parts) = var_part graph c i k parts
part_in graph c i (cell.Actor k parts) = var_part graph c i k parts
part_in graph c i _ = None

-- part i of the object or actor with that number, if it is a `var`
abbrev pub part_at : Graph → State → ℕ → ℕ → Option Place
part_at graph state i c = option_and_then (part_in graph c i) (slice_get state.cells c)

-- the global with that number, if it is a `var`
abbrev pub global_at : Graph → ℕ → Option Place
global_at graph g =
    option_and_then (λ kind. if kind.mutable then Some (Global g) else None)
    (slice_get graph.globals g)

-- job j reads or writes a location by its instruction at the byte offset `at`
abbrev pub read_by : ℕ → ℕ → Place → Access
read_by j at place = record { job = j; at = at; place = place; writes = false }

abbrev pub write_by : ℕ → ℕ → Place → Access
write_by j at place = record { job = j; at = at; place = place; writes = true }

-- The access of an instruction: loads read and stores write. The `let`s are no locations.
abbrev pub access_of : Graph → State → ℕ → Frame → Instr → Option Access
access_of graph state j frame (instr.LoadBox at dst cell) =
    option_map (read_by j at) (option_and_then (box_at state) (reference_at frame.regs cell))
access_of graph state j frame (instr.StoreBox at cell src) =
    option_map (write_by j at) (option_and_then (box_at state) (reference_at frame.regs cell))
access_of graph state j frame (instr.LoadProp at dst cell part) =
    option_map (read_by j at)
    (option_and_then (part_at graph state part) (reference_at frame.regs cell))
access_of graph state j frame (instr.StoreProp at cell part src) =
    option_map (write_by j at)
    (option_and_then (part_at graph state part) (reference_at frame.regs cell))
access_of graph state j frame (instr.LoadGlobal at dst global) =
    option_map (read_by j at) (global_at graph global)
access_of graph state j frame (instr.StoreGlobal at global src) =
    option_map (write_by j at) (global_at graph global)
access_of graph state j frame _ = None

abbrev pub point_access : Graph → State → ℕ → Frame → Point → Option Access
point_access graph state j frame (Middle i) = access_of graph state j frame i
point_access graph state j frame (End l) = None

-- The access of the instruction at which the top frame of job j stands. An instruction that is
-- stuck accesses nothing.
unfoldable pub frame_access : Graph → State → ℕ → ℕ → Frame → Option Access
frame_access graph state j depth frame =
    if is_stuck (effect_of graph state depth frame) then None
    else option_and_then (point_access graph state j frame) (point_at graph frame)

abbrev pub job_access : Graph → State → ℕ → Job → Option Access
job_access graph state j job =
    if is_running job then option_and_then (frame_access graph state j (length job.frames))
    (top_frame job)
    else None

-- the access that job j makes next: none where the machine is halted or j is not a running job
unfoldable pub next_access : Graph → State → ℕ → Option Access
next_access graph state j =
    if is_some state.halted then None
    else option_and_then (job_access graph state j) (slice_get state.jobs j)
