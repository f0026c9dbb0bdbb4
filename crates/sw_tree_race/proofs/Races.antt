-- If the tree's machine races and the states match, the graph's machine races.
use Rattle.std.proofs.Common.{◌≡◌, ℕ, Bool, true, false, Option, Some, None, List, [], ◌∷◌, map, length}
use Rattle.std.proofs.Common.{refl, ap, sym, ◌∙◌, subst}
use Rattle.std.specs.Prelude.{is_some, slice_get, option_and_then, if◌then◌else◌}
use Rattle.sw_graph.specs.declared.graph.Graph.{Graph}
use Rattle.sw_typing_rules.specs.Worlds.{World}
use Rattle.sw_lower_rules.specs.Bodies.{global_kind}
use Rattle.sw_value.specs.declared.frame.Frame.{Frame}
use Rattle.sw_value.specs.declared.job.Job.{Job}
use Rattle.sw_value.specs.declared.job.Status.{Status}
use Rattle.sw_value.specs.declared.job.Status.TheVariants as status
use Rattle.sw_value.specs.declared.race.Access.{Access}
use Rattle.sw_value.specs.declared.state.State.{State}
use Rattle.sw_value.specs.Access as graphs
use Rattle.sw_value.specs.Effect.{effect_of, is_stuck}
use Rattle.sw_value.specs.Frame.{point_at}
use Rattle.sw_value.specs.Job.{is_running, top_frame}
use Rattle.sw_value.specs.Racing.{Racing}
use Rattle.sw_tree_step.specs.State.{Ended, Ready, Running, TreeFrame, TreeJob, TreeState, TreeStatus}
use Rattle.sw_tree_step.specs.State.{Waiting}
use Rattle.sw_tree_step.specs.Step as step
use Rattle.sw_spots.specs.Spots.{Program}
use Rattle.sw_tree_same.specs.Frames.{FramesMatch}
use Rattle.sw_tree_same.specs.States.{JobsMatch, StatesMatch}
use Rattle.sw_tree_same.proofs.Stacks.{top_there}
use Rattle.sw_tree_same.proofs.Zips.{BothOrNone, zip_get}
use Rattle.sw_tree_race.specs.Racing.{TreeAccess, TreeRacing, frame_access, job_access, top_access}
use Rattle.sw_tree_race.specs.Racing.{tree_access}
use Rattle.sw_tree_race.proofs.Accessing.{nexts}

-- No running job of the graph's machine is stuck.
abbrev pub NeverStuck : Graph → State → Type 0
NeverStuck graph state = (j : ℕ) (job : Job) (frame : Frame) → slice_get state.jobs j ≡ Some job
    → is_running job ≡ true → top_frame job ≡ Some frame
    → is_stuck (effect_of graph state (length job.frames) frame) ≡ false

module _ (world : World) (p : Program) (graph : Graph) (trees : TreeState) (state : State)
    (m : StatesMatch p graph trees state) (shapes_are : graph.shapes ≡ world.shapes)
    (globals_are : graph.globals ≡ map global_kind world.globals) (never : NeverStuck graph state)
  where
    -- Job j of the graph's machine is about to make this access.
    record Accesses (j : ℕ) (access : TreeAccess) : Type 0 where
      at : ℕ
      is : graphs.next_access graph state j
          ≡ Some (record { job = j; at = at; place = access.place; writes = access.writes })

    abbrev made : ℕ → ℕ → TreeAccess → Access
    made j at access =
        record { job = j; at = at; place = access.place; writes = access.writes }

    module _ (j : ℕ) (access : TreeAccess) where
      -- the job of the graph's machine
      of_job : (other : Job) → slice_get state.jobs j ≡ Some other → is_running other ≡ true
          → (tree : TreeFrame) (below : List TreeFrame)
          → FramesMatch p graph None (tree ∷ below) other.frames
          → frame_access world trees tree ≡ Some access
          → (at : ℕ) × (graphs.job_access graph state j other ≡ Some (made j at access))
      unfolding graphs.frame_access
      of_job other there running tree below are next =
          let frame = are.top in
          let top = top_there p graph None tree below other.frames are other refl in
          let one = nexts world p graph trees state m shapes_are globals_are j frame tree.env
          are.same.function are.same.rings are.same.spot.block are.same.spot.index are.same.at
          are.same.spot.vars are.same.vars tree.work tree.temps are.same.spot.temps are.same.temps
          are.same.stands access next in (
            one.offset,
            ap (λ runs. if runs then option_and_then
                (graphs.frame_access graph state j (length other.frames)) (top_frame other) else None)
                running
                ∙ ap (option_and_then (graphs.frame_access graph state j (length other.frames))) top
                ∙ ap (λ stuck. if stuck then None
                else option_and_then (graphs.point_access graph state j frame)
                (point_at graph frame)) (never j other frame there running top)
                ∙ one.is,
          )

      of_frames : (trees_of : List TreeFrame) (frames : List Frame) (other : Job)
          → other.frames ≡ frames → slice_get state.jobs j ≡ Some other → is_running other ≡ true
          → FramesMatch p graph None trees_of frames → top_access world trees trees_of ≡ Some access
          → (at : ℕ) × (graphs.job_access graph state j other ≡ Some (made j at access))
      of_frames [] frames other same there running are next = cc
      of_frames (tree ∷ below) frames other same there running are next =
          of_job other there running tree below
          (subst (FramesMatch p graph None (tree ∷ below)) (sym same) are) next

      of_status : (one : TreeStatus) (other : Status) (trees_of : List TreeFrame) (frames : List Frame)
          → slice_get state.jobs j ≡ Some (record { frames = frames; status = other })
          → JobsMatch p graph (record { frames = trees_of; status = one })
          (record { frames = frames; status = other })
          → (if step.is_running one then top_access world trees trees_of else None) ≡ Some access
          → (at : ℕ)
          × (graphs.job_access graph state j (record { frames = frames; status = other })
          ≡ Some (made j at access))
      unfolding is_running
      of_status Running status.Running trees_of frames there both next =
          of_frames trees_of frames (record { frames = frames; status = status.Running }) refl there
          refl both.frames next
      of_status Ready other trees_of frames there both next = cc
      of_status (Waiting on) other trees_of frames there both next = cc
      of_status (Ended v) other trees_of frames there both next = cc
      of_status Running status.Ready trees_of frames there both next = absurd both.status
      of_status Running (status.Waiting on r) trees_of frames there both next = absurd both.status
      of_status Running (status.Ended v) trees_of frames there both next = absurd both.status

      of_jobs : (one : Option TreeJob) → slice_get trees.jobs j ≡ one → (other : Option Job)
          → slice_get state.jobs j ≡ other → BothOrNone (JobsMatch p graph) one other
          → option_and_then (job_access world trees) one ≡ Some access
          → (at : ℕ)
          × (option_and_then (graphs.job_access graph state j) other ≡ Some (made j at access))
      of_jobs None here other there both next = cc
      of_jobs (Some one) here (Some other) there both next =
          of_status one.status other.status one.frames other.frames there both next
      of_jobs (Some one) here None there both next = absurd both

    accesses : (j : ℕ) (access : TreeAccess) → tree_access world trees j ≡ Some access
        → Accesses j access
    unfolding tree_access graphs.next_access
    accesses j access next = by (is_some state.halted) refl
        (subst (λ halted. (if is_some halted then None
        else option_and_then (job_access world trees) (slice_get trees.jobs j)) ≡ Some access) m.halted
        next) where
          by : (halted : Bool) → is_some state.halted ≡ halted → (if halted then None
              else option_and_then (job_access world trees) (slice_get trees.jobs j)) ≡ Some access
              → Accesses j access
          by true is next = cc
          by false is next =
              let (at, same) = of_jobs j access (slice_get trees.jobs j) refl (slice_get state.jobs j) refl
              (zip_get (JobsMatch p graph) trees.jobs state.jobs j m.jobs) next in record {
                at = at;
                is = ap (λ halted. if halted then None
                    else option_and_then (graphs.job_access graph state j) (slice_get state.jobs j)) is
                    ∙ same;
              }

    -- If two jobs race on the tree, they race in the graph.
    pub races : TreeRacing world trees → Racing graph state
    races racing =
        let one = accesses racing.one racing.first racing.first_next in
        let other = accesses racing.other racing.second racing.second_next in (
          record {
            first = made racing.one one.at racing.first;
            second = made racing.other other.at racing.second;
          },
          record {
            order = racing.order;
            first_next = one.is;
            second_next = other.is;
            conflict = record { same = racing.same; writes = racing.writes };
          },
        )
