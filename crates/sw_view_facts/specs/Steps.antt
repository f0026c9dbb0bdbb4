-- What a step does to the frames of the jobs, whatever it does to memory.
use Rattle.std.specs.Prelude.{◌≡◌, ◌≢◌, ◌-◌, ℕ, suc, false, IsTrue, Some, None, length, slice_get}
use Rattle.std.specs.Option.{option_map_or}
use Rattle.sw_value.specs.declared.frame.Frame.{Frame}
use Rattle.sw_value.specs.declared.job.Job.{Job}
use Rattle.sw_value.specs.declared.state.State.{State}
use Rattle.sw_value.specs.Job.{is_running}
use Rattle.sw_value.specs.Lists.{changed_at}
use Rattle.sw_owner_facts.specs.View.{above, Frame as Spot}
use Rattle.sw_view_facts.specs.Views.{frame_at}

-- f is the frame at q, and the top one of its job
pub record TopAt (state : State) (q : Spot) (job : Job) (f : Frame) : Type 0 where
  pub there : slice_get state.jobs q.job ≡ Some job
  pub top : slice_get job.frames q.depth ≡ Some f
  pub height : length job.frames ≡ suc q.depth

-- the same call at another point, or with other values in its registers
pub record SameCall (f g : Frame) : Type 0 where
  pub function : g.function ≡ f.function
  pub executor : g.executor ≡ f.executor
  pub crossing : g.crossing ≡ f.crossing
  pub result : g.result ≡ f.result

-- the number of frames of a job
abbrev pub height_in : State → ℕ → ℕ
height_in state j = option_map_or (λ (job : Job). length job.frames) (slice_get state.jobs j) 0

abbrev pub runs_in : State → ℕ → Type 0
runs_in state j = IsTrue (option_map_or is_running (slice_get state.jobs j) false)

-- The top frame of a job becomes g of it, and the job doesn't begin to run.
pub record TurnsTop (g : Frame → Frame) (h : Job → Job) : Type 0 where
  pub frames : (job : Job) → (h job).frames ≡ changed_at g (length job.frames - 1) job.frames
  pub runs : (job : Job) → IsTrue (is_running (h job)) → IsTrue (is_running job)

-- The frame f at q, the top one of its job, becomes g. Each other frame is what it was, and no job
-- begins to run.
pub record ChangesFrame (state next : State) (q : Spot) (f g : Frame) : Type 0 where
  pub was : frame_at state q ≡ Some f
  pub now : frame_at next q ≡ Some g
  pub alone : frame_at state (above q) ≡ None
  pub others : (p : Spot) → p ≢ q → frame_at next p ≡ frame_at state p
  pub top : height_in state q.job ≡ suc q.depth
  pub heights : (j : ℕ) → height_in next j ≡ height_in state j
  pub running : (j : ℕ) → runs_in next j → runs_in state j
  pub call : SameCall f g
