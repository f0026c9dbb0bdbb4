-- A job that does nothing accesses nothing, and an access names its job.
use Rattle.std.proofs.Common.{◌≡◌, ℕ, Bool, true, false, cond, Option, Some, None, length, refl, ap}
use Rattle.std.proofs.Common.{sym, ◌∙◌}
use Rattle.std.specs.Prelude.{option_and_then, is_some}
use Rattle.std.specs.Option.{option_map}
use Rattle.std.specs.List.{slice_get}
use Rattle.sw_list.proofs.ListLemmas.{some_injective}
use Rattle.sw_graph.specs.declared.graph.Graph.{Graph}
use Rattle.sw_value.specs.declared.effect.Effect.{Effect}
use Rattle.sw_value.specs.declared.effect.Effect.TheVariants as effect
use Rattle.sw_value.specs.declared.frame.Frame.{Frame}
use Rattle.sw_value.specs.declared.job.Job.{Job}
use Rattle.sw_value.specs.declared.job.Status.{Status}
use Rattle.sw_value.specs.declared.job.Status.TheVariants.{Ready, Running, Waiting, Ended}
use Rattle.sw_value.specs.declared.race.Access.{Access}
use Rattle.sw_value.specs.declared.state.State.{State}
use Rattle.sw_value.specs.Job.{top_frame, is_running_status, is_running}
use Rattle.sw_value.specs.Frame.{point_at}
use Rattle.sw_value.specs.Effect.{is_stuck, effect_of}
use Rattle.sw_value.specs.Act.{execution_of, act_by, act_of}
use Rattle.sw_graph.specs.declared.instr.Instr.{Instr}
use Rattle.sw_graph.specs.declared.instr.Instr.TheVariants as instr
use Rattle.sw_graph.specs.Points.{Point, Middle, End}
use Rattle.sw_value.specs.declared.race.Place.{Place}
use Rattle.sw_value.specs.Value.{reference_at}
use Rattle.sw_value.specs.Access.{box_at, part_at, global_at, read_by, write_by}
use Rattle.sw_value.specs.Access.{access_of, point_access, frame_access, job_access, next_access}

-- only an effect that is stuck is not executed
stuck_where_idle : (e : Effect) → execution_of e ≡ None → is_stuck e ≡ true
stuck_where_idle effect.Stuck h = refl
stuck_where_idle _ h = cc

stuck_frame : (graph : Graph) (state : State) (j depth : ℕ) (frame : Frame)
    → is_stuck (effect_of graph state depth frame) ≡ true
    → frame_access graph state j depth frame ≡ None
unfolding frame_access
stuck_frame graph state j depth frame stuck =
    ap (λ b. cond b None (option_and_then (point_access graph state j frame)
    (point_at graph frame))) stuck

idle_job : (graph : Graph) (state : State) (j : ℕ) (job : Job)
    → act_by graph state job job.status ≡ None → job_access graph state j job ≡ None
unfolding is_running
idle_job graph state j job = by job.status where
  by_top : (o : Option Frame)
      → option_and_then (λ frame. execution_of (effect_of graph state (length job.frames) frame)) o
      ≡ None → option_and_then (frame_access graph state j (length job.frames)) o ≡ None
  by_top None h = refl
  by_top (Some frame) h = stuck_frame graph state j (length job.frames) frame
      (stuck_where_idle (effect_of graph state (length job.frames) frame) h)

  by : (status : Status) → act_by graph state job status ≡ None
      → cond (is_running_status status)
      (option_and_then (frame_access graph state j (length job.frames)) (top_frame job)) None ≡ None
  by Ready h = refl
  by Running h = by_top (top_frame job) h
  by (Waiting on r) h = refl
  by (Ended v) h = refl

pub idle_accesses_nothing : (graph : Graph) (state : State) (j : ℕ) → act_of graph state j ≡ None
    → next_access graph state j ≡ None
unfolding act_of next_access
idle_accesses_nothing graph state j = by_halt (is_some state.halted) where
  by_job : (o : Option Job) → option_and_then (λ job. act_by graph state job job.status) o ≡ None
      → option_and_then (job_access graph state j) o ≡ None
  by_job None h = refl
  by_job (Some job) h = idle_job graph state j job h

  by_halt : (b : Bool) → cond b None
      (option_and_then (λ job. act_by graph state job job.status) (slice_get state.jobs j)) ≡ None
      → cond b None (option_and_then (job_access graph state j) (slice_get state.jobs j)) ≡ None
  by_halt true h = refl
  by_halt false h = by_job (slice_get state.jobs j) h

-- an access of job j names job j
Names : ℕ → Option Access → Type 0
Names j o = (a : Access) → o ≡ Some a → a.job ≡ j

names_none : (j : ℕ) → Names j None
unfolding Names
names_none j a h = cc

names_map : (j : ℕ) (f : Place → Access) → ((p : Place) → (f p).job ≡ j) → (o : Option Place)
    → Names j (option_map f o)
unfolding Names
names_map j f names None a h = cc
names_map j f names (Some p) a h = sym (ap (λ x. x.job) (some_injective h)) ∙ names p

instr_names : (graph : Graph) (state : State) (j : ℕ) (frame : Frame) (i : Instr)
    → Names j (access_of graph state j frame i)
instr_names graph state j frame (instr.LoadBox at r b) =
    names_map j (read_by j at) (λ p. refl)
    (option_and_then (box_at state) (reference_at frame.regs b))
instr_names graph state j frame (instr.StoreBox at b s) =
    names_map j (write_by j at) (λ p. refl)
    (option_and_then (box_at state) (reference_at frame.regs b))
instr_names graph state j frame (instr.LoadProp at r o i) =
    names_map j (read_by j at) (λ p. refl)
    (option_and_then (part_at graph state i) (reference_at frame.regs o))
instr_names graph state j frame (instr.StoreProp at o i s) =
    names_map j (write_by j at) (λ p. refl)
    (option_and_then (part_at graph state i) (reference_at frame.regs o))
instr_names graph state j frame (instr.LoadGlobal at r g) =
    names_map j (read_by j at) (λ p. refl) (global_at graph g)
instr_names graph state j frame (instr.StoreGlobal at g s) =
    names_map j (write_by j at) (λ p. refl) (global_at graph g)
instr_names graph state j frame _ = names_none j

names_and_then : {A : Type 0} (j : ℕ) (f : A → Option Access) → ((x : A) → Names j (f x))
    → (o : Option A) → Names j (option_and_then f o)
names_and_then j f names None = names_none j
names_and_then j f names (Some x) = names x

names_unless : (j : ℕ) (b : Bool) (o : Option Access) → Names j o → Names j (cond b None o)
names_unless j true o names = names_none j
names_unless j false o names = names

names_if : (j : ℕ) (b : Bool) (o : Option Access) → Names j o → Names j (cond b o None)
names_if j true o names = names
names_if j false o names = names_none j

point_names : (graph : Graph) (state : State) (j : ℕ) (frame : Frame) (p : Point)
    → Names j (point_access graph state j frame p)
point_names graph state j frame (Middle i) = instr_names graph state j frame i
point_names graph state j frame (End l) = names_none j

frame_names : (graph : Graph) (state : State) (j depth : ℕ) (frame : Frame)
    → Names j (frame_access graph state j depth frame)
unfolding frame_access
frame_names graph state j depth frame =
    names_unless j (is_stuck (effect_of graph state depth frame))
    (option_and_then (point_access graph state j frame) (point_at graph frame))
    (names_and_then j (point_access graph state j frame) (point_names graph state j frame)
    (point_at graph frame))

pub next_names_its_job : (graph : Graph) (state : State) (j : ℕ) (a : Access)
    → next_access graph state j ≡ Some a → a.job ≡ j
unfolding next_access Names
next_names_its_job graph state j =
    names_unless j (is_some state.halted)
    (option_and_then (job_access graph state j) (slice_get state.jobs j))
    (names_and_then j (job_access graph state j)
    (λ job. names_if j (is_running job)
    (option_and_then (frame_access graph state j (length job.frames)) (top_frame job))
    (names_and_then j (frame_access graph state j (length job.frames))
    (frame_names graph state j (length job.frames)) (top_frame job))) (slice_get state.jobs j))
