-- Each item gives the same event on both machines and leads to states that match again, and so do
-- lists of items.
use Rattle.std.proofs.Common.{◌≡◌, ℕ, ◌-◌, Bool, true, false, Option, Some, None, List, [], ◌∷◌}
use Rattle.std.proofs.Common.{length, refl, ap, sym, ◌∙◌, subst}
use Rattle.std.specs.Prelude.{is_some, slice_get, option_and_then, option_map, if◌then◌else◌}
use Rattle.sw_graph.specs.declared.graph.Graph.{Graph}
use Rattle.sw_value.specs.declared.effect.Act.{Act}
use Rattle.sw_value.specs.declared.effect.Act.TheVariants.{Dispatch, Wake}
use Rattle.sw_value.specs.declared.frame.Frame.{Frame}
use Rattle.sw_value.specs.declared.job.Job.{Job}
use Rattle.sw_value.specs.declared.job.Status.{Status}
use Rattle.sw_value.specs.declared.job.Status.TheVariants as status
use Rattle.sw_value.specs.declared.state.State.{State}
use Rattle.sw_value.specs.declared.value.Value.{Value}
use Rattle.sw_value.specs.Act.{act_by, act_of, dispatch_of, execution_of}
use Rattle.sw_value.specs.Effect.{effect_of}
use Rattle.sw_value.specs.Frame.{set_register}
use Rattle.sw_value.specs.Job.{dispatch, wake}
use Rattle.sw_value.specs.Lists.{changed_at}
use Rattle.sw_value.specs.Reach.{step_of}
use Rattle.sw_value.specs.State.{is_free, result_of}
use Rattle.sw_value.proofs.ReachLemmas.{step_by_act}
use Rattle.sw_step.specs.declared.event.Event.TheVariants as event
use Rattle.sw_step.specs.Event.{event_of}
use Rattle.sw_machine_kind_facts.specs.Kinded.{Kinded}
use Rattle.sw_machine_kind_facts.specs.Standing.{awaited_in}
use Rattle.sw_machine_kind_facts.proofs.NeverStuck.{step_kinded}
use Rattle.sw_spots.specs.Spots.{Program}
use Rattle.sw_tree_work.specs.Bodies.{Bodies}
use Rattle.sw_tree_step.specs.Items.{tree_events, tree_reach}
use Rattle.sw_tree_step.specs.State.{Ended, Ready, Running, TreeFrame, TreeJob, TreeState, TreeStatus}
use Rattle.sw_tree_step.specs.State.{Waiting}
use Rattle.sw_tree_step.specs.Step as step
use Rattle.sw_tree_step.specs.Step.{Dispatches, Move, Wakes, given, given_top, job_after}
use Rattle.sw_tree_step.specs.Step.{move_by, move_of, tree_event_of, tree_step_of}
use Rattle.sw_tree_step.specs.Working.{frame_done}
use Rattle.sw_tree_same.specs.Frames.{FramesMatch}
use Rattle.sw_tree_same.specs.States.{Ground, JobsMatch, StatesMatch, StatusesMatch, graph_events}
use Rattle.sw_tree_same.specs.States.{graph_reach}
use Rattle.sw_tree_same.proofs.Changing.{job_put}
use Rattle.sw_tree_same.proofs.Doing.{does}
use Rattle.sw_tree_same.proofs.Filling.{begins_full}
use Rattle.sw_tree_same.proofs.Jobs.{free_same, no_top, results_same}
use Rattle.sw_tree_same.proofs.Scene.{Scene, now}
use Rattle.sw_tree_same.proofs.Stacks.{changed_top, frames_count, put_on, top_there, woken}
use Rattle.sw_tree_same.proofs.Stepping.{Comes, comes}
use Rattle.sw_tree_same.proofs.Zips.{BothOrNone, zip_get}

module _ (p : Program) (graph : Graph) where
  -- the frames of a job that goes on with the value that it waited for
  frames_woken : (r : ℕ) (v : Value) (trees : List TreeFrame) (frames : List Frame)
      → FramesMatch p graph (Some r) trees frames
      → FramesMatch p graph None (given_top v trees)
      (changed_at (set_register r v) (length frames - 1) frames)
  unfolding changed_at set_register
  frames_woken r v [] frames are =
      ap (λ (all : List Frame). changed_at (set_register r v) (length all - 1) all) are
  frames_woken r v (tree ∷ trees) frames are =
      subst (FramesMatch p graph None (given v tree ∷ trees))
      (sym (changed_top p graph (Some r) tree trees frames are (set_register r v)))
      (put_on p graph (Some r) tree trees frames are None (given v tree) (set_register r v are.top)
      (woken p graph tree r are.top v are.same) refl refl)

  module _ (bodies : Bodies) (ground : Ground p graph bodies) (trees : TreeState) (state : State)
      (m : StatesMatch p graph trees state) (kinded : Kinded graph state) (j : ℕ) where
    abbrev Comes_to : Option Move → Option Act → Type 0
    Comes_to move act = Comes p graph j trees state move act

    nothing : Comes_to None None
    nothing = record { event = refl; next = m }

    dispatches : (tree : TreeFrame) (below : List TreeFrame) (frames : List Frame)
        → slice_get trees.jobs j ≡ Some (record { frames = tree ∷ below; status = Ready })
        → slice_get state.jobs j ≡ Some (record { frames = frames; status = status.Ready })
        → (are : FramesMatch p graph None (tree ∷ below) frames)
        → Comes_to (step.dispatch_of trees (tree ∷ below)) (dispatch_of state are.top)
    unfolding dispatch
    dispatches tree below frames at there are =
        subst (λ free. Comes_to (if free then Some Dispatches else None) (dispatch_of state are.top))
        (sym (ap (λ e. step.is_free e trees.jobs) are.same.executor
        ∙ free_same p graph are.top.executor trees.jobs state.jobs m.jobs))
        (by (is_free are.top.executor state.jobs)) where
          by : (free : Bool)
              → Comes_to (if free then Some Dispatches else None) (if free then Some Dispatch else None)
          by true = record {
            event = refl;
            next = job_put p graph trees state m j
                (record { frames = tree ∷ below; status = Ready })
                (record { frames = frames; status = status.Ready }) at there (job_after Dispatches)
                dispatch (record { status = tt; frames = are });
          }
          by false = nothing

    wakes : (trees_of : List TreeFrame) (on : ℕ) (frames : List Frame) (ended r : ℕ)
        → slice_get trees.jobs j ≡ Some (record { frames = trees_of; status = Waiting on })
        → slice_get state.jobs j ≡ Some (record { frames = frames; status = status.Waiting ended r })
        → on ≡ ended → FramesMatch p graph (Some r) trees_of frames
        → Comes_to (option_map (Wakes on) (step.result_of trees on))
        (option_map (Wake ended r) (result_of state ended))
    unfolding result_of wake
    wakes trees_of on frames ended r at there same are =
        subst (λ found. Comes_to (option_map (Wakes on) found)
        (option_map (Wake ended r) (result_of state ended)))
        (sym (results_same p graph trees.jobs state.jobs m.jobs on
        ∙ ap (λ n. result_of state n) same)) (by (result_of state ended)) where
          by : (found : Option Value)
              → Comes_to (option_map (Wakes on) found) (option_map (Wake ended r) found)
          by None = nothing
          by (Some v) = record {
            event = ap event.Woken same;
            next = job_put p graph trees state m j
                (record { frames = trees_of; status = Waiting on })
                (record { frames = frames; status = status.Waiting ended r }) at there
                (job_after (Wakes on v)) (wake r v)
                (record { status = tt; frames = frames_woken r v trees_of frames are });
          }

    runs : (tree : TreeFrame) (below : List TreeFrame) (frames : List Frame)
        → slice_get trees.jobs j ≡ Some (record { frames = tree ∷ below; status = Running })
        → slice_get state.jobs j ≡ Some (record { frames = frames; status = status.Running })
        → (are : FramesMatch p graph None (tree ∷ below) frames)
        → Comes_to (step.top_done bodies trees (tree ∷ below))
        (execution_of (effect_of graph state (length frames) are.top))
    runs tree below frames at there are =
        subst (λ n. Comes_to (step.top_done bodies trees (tree ∷ below))
        (execution_of (effect_of graph state n are.top)))
        (frames_count p graph None (tree ∷ below) frames are)
        (comes scene j below frames are refl at there
        (frame_done bodies trees (length (tree ∷ below)) tree) (now scene)
        (does scene tree.work tree.temps are.same.spot.temps are.same.temps are.same.stands)) where
          scene : Scene
          scene = record {
            p = p;
            graph = graph;
            bodies = bodies;
            ground = ground;
            trees = trees;
            state = state;
            match_states = m;
            depth = length (tree ∷ below);
            tree = tree;
            frame = are.top;
            function = are.same.function;
            rings = are.same.rings;
            block = are.same.spot.block;
            index = are.same.spot.index;
            at = are.same.at;
            vars = are.same.spot.vars;
            are_vars = are.same.vars;
            loops = are.same.loops;
            executor = are.same.executor;
            crossing = are.same.crossing;
            full = begins_full graph ground.supplied state kinded j
                (record { frames = frames; status = status.Running }) are.top there refl
                (top_there p graph None tree below frames are
                (record { frames = frames; status = status.Running }) refl) (length (tree ∷ below));
          }

    job_comes : (trees_of : List TreeFrame) (how : TreeStatus) (frames : List Frame) (other : Status)
        → slice_get trees.jobs j ≡ Some (record { frames = trees_of; status = how })
        → slice_get state.jobs j ≡ Some (record { frames = frames; status = other })
        → StatusesMatch how other → FramesMatch p graph (awaited_in other) trees_of frames
        → Comes_to (move_by how bodies trees trees_of)
        (act_by graph state (record { frames = frames; status = other }) other)
    job_comes [] Ready frames status.Ready at there same are =
        subst (λ top. Comes_to None (option_and_then (dispatch_of state) top))
        (sym (no_top p graph (record { frames = frames; status = status.Ready }) are)) nothing
    job_comes (tree ∷ below) Ready frames status.Ready at there same are =
        subst (λ top. Comes_to (step.dispatch_of trees (tree ∷ below))
        (option_and_then (dispatch_of state) top))
        (sym (top_there p graph None tree below frames are
        (record { frames = frames; status = status.Ready }) refl))
        (dispatches tree below frames at there are)
    job_comes [] Running frames status.Running at there same are =
        subst (λ top. Comes_to None (option_and_then
        (λ (frame : Frame). execution_of (effect_of graph state (length frames) frame)) top))
        (sym (no_top p graph (record { frames = frames; status = status.Running }) are)) nothing
    job_comes (tree ∷ below) Running frames status.Running at there same are =
        subst (λ top. Comes_to (step.top_done bodies trees (tree ∷ below)) (option_and_then
        (λ (frame : Frame). execution_of (effect_of graph state (length frames) frame)) top))
        (sym (top_there p graph None tree below frames are
        (record { frames = frames; status = status.Running }) refl))
        (runs tree below frames at there are)
    job_comes trees_of (Waiting on) frames (status.Waiting ended r) at there same are =
        wakes trees_of on frames ended r at there same are
    job_comes trees_of (Ended v) frames (status.Ended w) at there same are = nothing
    job_comes trees_of _ frames _ at there same are = absurd same

    item_comes : Comes_to (move_of bodies trees j) (act_of graph state j)
    unfolding move_of act_of
    item_comes =
        subst (λ halted. Comes_to (if is_some halted then None else option_and_then
        (λ (job : TreeJob). move_by job.status bodies trees job.frames) (slice_get trees.jobs j))
        (act_of graph state j)) (sym m.halted) (by (is_some state.halted)) where
          found : (one : Option TreeJob) → slice_get trees.jobs j ≡ one → (other : Option Job)
              → slice_get state.jobs j ≡ other → BothOrNone (JobsMatch p graph) one other
              → Comes_to (option_and_then
              (λ (job : TreeJob). move_by job.status bodies trees job.frames) one)
              (option_and_then (λ (job : Job). act_by graph state job job.status) other)
          found None at None there both = nothing
          found (Some one) at (Some other) there both =
              job_comes one.frames one.status other.frames other.status at there both.status both.frames
          found None at (Some other) there both = absurd both
          found (Some one) at None there both = absurd both

          by : (halted : Bool) → Comes_to (if halted then None else option_and_then
              (λ (job : TreeJob). move_by job.status bodies trees job.frames)
              (slice_get trees.jobs j))
              (if halted then None else option_and_then
              (λ (job : Job). act_by graph state job job.status) (slice_get state.jobs j))
          by true = nothing
          by false = found (slice_get trees.jobs j) refl (slice_get state.jobs j) refl
              (zip_get (JobsMatch p graph) trees.jobs state.jobs j m.jobs)

    -- An item has one event on both machines, and the states after it match.
    pub same_event : tree_event_of bodies trees j ≡ event_of graph state j
    unfolding tree_event_of event_of
    same_event = item_comes.event

    pub same_step : StatesMatch p graph (tree_step_of bodies trees j) (step_of graph state j)
    unfolding tree_step_of
    same_step = subst (StatesMatch p graph (tree_step_of bodies trees j))
        (sym (step_by_act graph state j)) item_comes.next

  -- So it is of the items of a list.
  pub same_events : (bodies : Bodies) → Ground p graph bodies → (items : List ℕ) (trees : TreeState)
      (state : State) → StatesMatch p graph trees state → Kinded graph state
      → tree_events bodies trees items ≡ graph_events graph state items
  unfolding tree_events graph_events
  same_events bodies ground [] trees state m kinded = refl
  same_events bodies ground (j ∷ items) trees state m kinded =
      ap (λ e. e ∷ tree_events bodies (tree_step_of bodies trees j) items)
      (same_event bodies ground trees state m kinded j)
      ∙ ap (λ more. event_of graph state j ∷ more)
      (same_events bodies ground items (tree_step_of bodies trees j) (step_of graph state j)
      (same_step bodies ground trees state m kinded j)
      (step_kinded graph ground.supplied state j kinded).kinded)

  pub same_states : (bodies : Bodies) → Ground p graph bodies → (items : List ℕ) (trees : TreeState)
      (state : State) → StatesMatch p graph trees state → Kinded graph state
      → StatesMatch p graph (tree_reach bodies trees items) (graph_reach graph state items)
  unfolding tree_reach graph_reach
  same_states bodies ground [] trees state m kinded = m
  same_states bodies ground (j ∷ items) trees state m kinded =
      same_states bodies ground items (tree_step_of bodies trees j) (step_of graph state j)
      (same_step bodies ground trees state m kinded j)
      (step_kinded graph ground.supplied state j kinded).kinded
