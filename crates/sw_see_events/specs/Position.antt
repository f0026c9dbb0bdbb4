-- Where a job stands in the source.
use Rattle.std.specs.Prelude.{ℕ, Option, Some, None, option_map, option_and_then, slice_get}
use Rattle.sw_graph.specs.declared.graph.Graph.{Graph}
use Rattle.sw_graph.specs.declared.instr.Instr.{Instr}
use Rattle.sw_graph.specs.declared.instr.Instr.TheVariants as instr
use Rattle.sw_graph.specs.declared.instr.Last.{Last}
use Rattle.sw_graph.specs.declared.instr.Last.TheVariants as last
use Rattle.sw_graph.specs.Points.{End, Middle, Point}
use Rattle.sw_value.specs.declared.frame.Frame.{Frame}
use Rattle.sw_value.specs.declared.job.Job.{Job}
use Rattle.sw_value.specs.declared.state.State.{State}
use Rattle.sw_value.specs.Frame.{point_at}
use Rattle.sw_value.specs.Job.{top_frame}

-- the byte offset of an instruction
abbrev pub instr_at : Instr → ℕ
instr_at (instr.Const at dst value) = at
instr_at (instr.Un at dst op src) = at
instr_at (instr.Bin at dst op left right) = at
instr_at (instr.Print at dst args) = at
instr_at (instr.Copy at dst src) = at
instr_at (instr.Field at dst src part) = at
instr_at (instr.Payload at dst src index) = at
instr_at (instr.SetField at target part src) = at
instr_at (instr.Make at dst shape tag args) = at
instr_at (instr.NewObject at dst shape args) = at
instr_at (instr.NewBox at dst src) = at
instr_at (instr.NewActor at dst shape args) = at
instr_at (instr.LoadBox at dst cell) = at
instr_at (instr.StoreBox at cell src) = at
instr_at (instr.LoadProp at dst cell part) = at
instr_at (instr.StoreProp at cell part src) = at
instr_at (instr.LoadGlobal at dst global) = at
instr_at (instr.StoreGlobal at global src) = at
instr_at (instr.NewClosure at dst function captures) = at
instr_at (instr.Call at dst kind function args) = at
instr_at (instr.CallClosure at dst closure args) = at
instr_at (instr.NewTask at dst function captures) = at
instr_at (instr.Await at dst task) = at
instr_at (instr.Yield at dst) = at

-- that of what the last instruction of a block reads, if it reads something
abbrev pub last_at : Last → Option ℕ
last_at (last.Jump to) = None
last_at (last.Branch condition then_to else_to) = Some condition.at
last_at (last.Switch subject to) = Some subject.at
last_at (last.Return value) = option_map (λ operand. operand.at) value

abbrev pub point_position : Point → Option ℕ
point_position (Middle i) = Some (instr_at i)
point_position (End l) = last_at l

abbrev pub frame_position : Graph → Frame → Option ℕ
frame_position graph frame = option_and_then point_position (point_at graph frame)

abbrev pub job_position : Graph → Job → Option ℕ
job_position graph job = option_and_then (frame_position graph) (top_frame job)

-- where the job with a number stands
unfoldable pub stands_at : Graph → State → ℕ → Option ℕ
stands_at graph state j = option_and_then (job_position graph) (slice_get state.jobs j)
