-- The location that the next instruction of a job names. That is where its access would be, were
-- the cell there and the instruction not stuck. It depends on the job alone, so that the steps of
-- other jobs leave it as it is.
use Rattle.std.specs.Prelude.{ℕ, true, false, Option, None, slice_get, option_map, option_and_then}
use Rattle.std.specs.Prelude.{if◌then◌else◌}
use Rattle.sw_graph.specs.declared.instr.Instr.{Instr}
use Rattle.sw_graph.specs.declared.instr.Instr.TheVariants as instr
use Rattle.sw_graph.specs.declared.graph.Graph.{Graph}
use Rattle.sw_graph.specs.Points.{Point, Middle, End}
use Rattle.sw_value.specs.declared.frame.Frame.{Frame}
use Rattle.sw_value.specs.declared.job.Job.{Job}
use Rattle.sw_value.specs.declared.race.Place.{Place}
use Rattle.sw_value.specs.declared.race.Place.TheVariants.{Prop, BoxOf}
use Rattle.sw_value.specs.declared.state.State.{State}
use Rattle.sw_value.specs.Value.{reference_at}
use Rattle.sw_value.specs.Frame.{point_at}
use Rattle.sw_value.specs.Job.{top_frame, is_running}
use Rattle.sw_value.specs.Access.{global_at}
use Rattle.sw_race.specs.declared.target.Target.{Target}

abbrev pub read_of : Place → Target
read_of place = record { place = place; writes = false }

abbrev pub write_of : Place → Target
write_of place = record { place = place; writes = true }

-- loads and stores name a part or a box of the cell in a register, or a global `var`
abbrev pub instr_target : Graph → Frame → Instr → Option Target
instr_target graph frame (instr.LoadBox at dst cell) =
    option_map (λ c. read_of (BoxOf c)) (reference_at frame.regs cell)
instr_target graph frame (instr.StoreBox at cell src) =
    option_map (λ c. write_of (BoxOf c)) (reference_at frame.regs cell)
instr_target graph frame (instr.LoadProp at dst cell part) =
    option_map (λ c. read_of (Prop c part)) (reference_at frame.regs cell)
instr_target graph frame (instr.StoreProp at cell part src) =
    option_map (λ c. write_of (Prop c part)) (reference_at frame.regs cell)
instr_target graph frame (instr.LoadGlobal at dst global) =
    option_map read_of (global_at graph global)
instr_target graph frame (instr.StoreGlobal at global src) =
    option_map write_of (global_at graph global)
instr_target graph frame _ = None

abbrev pub point_target : Graph → Frame → Point → Option Target
point_target graph frame (Middle i) = instr_target graph frame i
point_target graph frame (End l) = None

abbrev pub frame_target : Graph → Frame → Option Target
frame_target graph frame = option_and_then (point_target graph frame) (point_at graph frame)

-- the target of a job that runs
abbrev pub job_target : Graph → Job → Option Target
job_target graph job =
    if is_running job then option_and_then (frame_target graph) (top_frame job) else None

-- the target of the job with a number, if there is that job
abbrev pub target_at : Graph → State → ℕ → Option Target
target_at graph state j = option_and_then (job_target graph) (slice_get state.jobs j)
