-- What is read of jobs is the same on both machines: results, and which executors are free.
use Rattle.std.proofs.Common.{◌≡◌, ℕ, ◌-◌, false, Option, Some, None, List, [], ◌∷◌, length}
use Rattle.std.proofs.Common.{refl, ap, sym, ◌∙◌}
use Rattle.std.specs.Prelude.{slice_get, option_and_then, not, ◌&&◌, ◌||◌, if◌then◌else◌}
use Rattle.std.specs.List.{AllZip, list_any}
use Rattle.std.specs.Option.{option_map_or}
use Rattle.sw_graph.specs.declared.graph.Graph.{Graph}
use Rattle.sw_value.specs.declared.executor.Executor.{Executor}
use Rattle.sw_value.specs.declared.executor.Executor.TheVariants.{ActorOf, Generic, Global}
use Rattle.sw_value.specs.declared.frame.Frame.{Frame}
use Rattle.sw_value.specs.declared.job.Job.{Job}
use Rattle.sw_value.specs.declared.job.Status.{Status}
use Rattle.sw_value.specs.declared.job.Status.TheVariants as status
use Rattle.sw_value.specs.Executor.{is_same}
use Rattle.sw_value.specs.Job.{ended_with, is_running, is_running_status, runs_on, top_frame}
use Rattle.sw_value.specs.State.{is_free}
use Rattle.sw_machine_kind_facts.specs.Standing.{awaited_in}
use Rattle.sw_spots.specs.Spots.{Program}
use Rattle.sw_tree_step.specs.State as state
use Rattle.sw_tree_step.specs.State.{TreeFrame, TreeJob, TreeStatus}
use Rattle.sw_tree_step.specs.Step as step
use Rattle.sw_tree_same.specs.Frames.{FramesMatch}
use Rattle.sw_tree_same.specs.States.{JobsMatch, StatusesMatch}
use Rattle.sw_tree_same.proofs.Stacks.{top_there}
use Rattle.sw_tree_same.proofs.Zips.{BothOrNone, zip_get}

pub ended_same : (one : TreeStatus) (other : Status) → StatusesMatch one other
    → step.ended_with one ≡ ended_with other
ended_same state.Ready status.Ready same = refl
ended_same state.Running status.Running same = refl
ended_same (state.Waiting on) (status.Waiting other r) same = refl
ended_same (state.Ended v) (status.Ended w) same = ap Some same
ended_same _ _ same = absurd same

module _ (p : Program) (graph : Graph) where
  -- a job without frames has no top frame
  pub no_top : (job : Job) → job.frames ≡ [] → top_frame job ≡ None
  unfolding top_frame
  no_top job is = ap (λ (all : List Frame). slice_get all (length all - 1)) is

  pub results_same : (trees : List TreeJob) (jobs : List Job) → AllZip (JobsMatch p graph) trees jobs
      → (on : ℕ)
      → option_and_then (λ (job : TreeJob). step.ended_with job.status) (slice_get trees on)
      ≡ option_and_then (λ (job : Job). ended_with job.status) (slice_get jobs on)
  results_same trees jobs are on = by (slice_get trees on) (slice_get jobs on)
      (zip_get (JobsMatch p graph) trees jobs on are) where
        by : (one : Option TreeJob) (other : Option Job) → BothOrNone (JobsMatch p graph) one other
            → option_and_then (λ (job : TreeJob). step.ended_with job.status) one
            ≡ option_and_then (λ (job : Job). ended_with job.status) other
        by None None both = refl
        by (Some one) (Some other) both = ended_same one.status other.status both.status
        by None (Some other) both = absurd both
        by (Some one) None both = absurd both

  -- the executor of the top frame
  top_same : (e : Executor) (wanted : Option ℕ) (trees : List TreeFrame) (job : Job)
      → FramesMatch p graph wanted trees job.frames
      → step.has_top_on e trees
      ≡ option_map_or (λ (frame : Frame). is_same frame.executor e) (top_frame job) false
  top_same e wanted [] job are =
      ap (λ top. option_map_or (λ (frame : Frame). is_same frame.executor e) top false)
      (sym (no_top job are))
  top_same e wanted (tree ∷ trees) job are =
      ap (λ on. is_same on e) are.same.executor
      ∙ ap (λ top. option_map_or (λ (frame : Frame). is_same frame.executor e) top false)
      (sym (top_there p graph wanted tree trees job.frames are job refl))

  runs_same : (e : Executor) (one : TreeJob) (other : Job) → JobsMatch p graph one other
      → step.runs_on e one ≡ runs_on e other
  unfolding runs_on is_running
  runs_same e one other same = by one.status other.status same.status
      (top_same e (awaited_in other.status) one.frames other same.frames) where
        by : (a : TreeStatus) (b : Status) → StatusesMatch a b
            → step.has_top_on e one.frames
            ≡ option_map_or (λ (frame : Frame). is_same frame.executor e) (top_frame other) false
            → (if step.is_running a then step.has_top_on e one.frames else false)
            ≡ (is_running_status b
            && option_map_or (λ (frame : Frame). is_same frame.executor e) (top_frame other) false)
        by state.Ready status.Ready both top = refl
        by state.Running status.Running both top = top
        by (state.Waiting on) (status.Waiting n r) both top = refl
        by (state.Ended v) (status.Ended w) both top = refl
        by _ _ both top = absurd both

  any_same : (e : Executor) (trees : List TreeJob) (jobs : List Job)
      → AllZip (JobsMatch p graph) trees jobs
      → list_any (step.runs_on e) trees ≡ list_any (runs_on e) jobs
  any_same e [] [] are = refl
  any_same e (tree ∷ trees) (job ∷ jobs) are =
      ap (λ first. first || list_any (step.runs_on e) trees) (runs_same e tree job are.0)
      ∙ ap (λ more. runs_on e job || more) (any_same e trees jobs are.1)
  any_same e [] (job ∷ jobs) are = absurd are
  any_same e (tree ∷ trees) [] are = absurd are

  pub free_same : (e : Executor) (trees : List TreeJob) (jobs : List Job)
      → AllZip (JobsMatch p graph) trees jobs → step.is_free e trees ≡ is_free e jobs
  free_same Generic trees jobs are = refl
  free_same (ActorOf a) trees jobs are = ap not (any_same (ActorOf a) trees jobs are)
  free_same (Global g) trees jobs are = ap not (any_same (Global g) trees jobs are)
