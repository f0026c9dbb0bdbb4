-- A state of the machine on the written tree beside one of the machine on a graph.
use Rattle.std.specs.Prelude.{◌≡◌, ℕ, List, [], ◌∷◌, fold}
use Rattle.std.specs.List.{AllZip}
use Rattle.sw_graph.specs.declared.graph.Graph.{Graph}
use Rattle.sw_graph.specs.Supplied.{IsSupplied}
use Rattle.sw_isolation_rules.specs.declared.note.Capture.{Capture}
use Rattle.sw_value.specs.declared.cell.HeapCell.{HeapCell}
use Rattle.sw_value.specs.declared.cell.HeapCell.TheVariants as cell
use Rattle.sw_value.specs.declared.job.Job.{Job}
use Rattle.sw_value.specs.declared.job.Status.{Status}
use Rattle.sw_value.specs.declared.job.Status.TheVariants as status
use Rattle.sw_value.specs.declared.state.State.{State}
use Rattle.sw_value.specs.declared.value.Value.{Value}
use Rattle.sw_value.specs.Reach.{step_of}
use Rattle.sw_step.specs.declared.event.Event.{Event}
use Rattle.sw_step.specs.Event.{event_of}
use Rattle.sw_machine_kind_facts.specs.Standing.{awaited_in}
use Rattle.sw_tree_work.specs.Bodies.{Bodies}
use Rattle.sw_tree_step.specs.State.{Closed, Ended, Env, Kept, Ready, Running, TreeCell, TreeJob}
use Rattle.sw_tree_step.specs.State.{TreeState, TreeStatus, Waiting, value_in}
use Rattle.sw_spots.specs.Spots.{AnyFunction, BeginsAt, BodiesStand, Program, Stands}
use Rattle.sw_tree_same.specs.Frames.{FramesMatch, is_boxed}

-- what a closure has captured, by variable and by place: boxes of variables that it shares, and values
abbrev pub AreCaptured : List Capture → Env → List Value → Type 0
AreCaptured [] [] [] = Unit {0}
AreCaptured (one ∷ more) (held ∷ env) (v ∷ values) = (held.key ≡ one.variable)
    × (is_boxed held.room ≡ one.by_ref) × (value_in held.room ≡ v) × AreCaptured more env values
AreCaptured _ _ _ = ⊥

abbrev pub IsNoClosure : HeapCell → Type 0
IsNoClosure (cell.Closure number values) = ⊥
IsNoClosure other = Unit {0}

abbrev pub StatusesMatch : TreeStatus → Status → Type 0
StatusesMatch Ready status.Ready = Unit {0}
StatusesMatch Running status.Running = Unit {0}
StatusesMatch (Waiting on) (status.Waiting other r) = on ≡ other
StatusesMatch (Ended v) (status.Ended w) = v ≡ w
StatusesMatch _ _ = ⊥

module _ (p : Program) where
  -- Cells are the same. A closure's body stands in the function of the graph's closure, and both have
  -- captured the same.
  abbrev pub CellsMatch : TreeCell → HeapCell → Type 0
  CellsMatch (Kept one) other = (one ≡ other) × IsNoClosure other
  CellsMatch (Closed key params body env) (cell.Closure number values) = (captures : List Capture)
      × AreCaptured captures env values
      × BeginsAt p number captures params AnyFunction (λ g next. Stands p body g [] next)
  CellsMatch (Closed key params body env) other = ⊥

  pub record JobsMatch (graph : Graph) (tree : TreeJob) (job : Job) : Type 0 where
    pub status : StatusesMatch tree.status job.status
    pub frames : FramesMatch p graph (awaited_in job.status) tree.frames job.frames

  -- the states of both machines after the same items
  pub record StatesMatch (graph : Graph) (tree : TreeState) (state : State) : Type 0 where
    pub cells : AllZip CellsMatch tree.cells state.cells
    pub globals : tree.globals ≡ state.globals
    pub jobs : AllZip (JobsMatch graph) tree.jobs state.jobs
    pub halted : tree.halted ≡ state.halted

  -- What is asked of a graph and of a program's bodies. Each body that is found by its name stands in a
  -- function, and the graph is supplied: its functions get as many values as they take.
  pub record Ground (graph : Graph) (bodies : Bodies) : Type 0 where
    pub functions : p.functions ≡ graph.functions
    pub stand : BodiesStand p bodies
    pub supplied : IsSupplied graph

-- the events of items on the graph, as those on the tree are listed
unfoldable pub graph_events : Graph → State → List ℕ → List Event
graph_events graph state [] = []
graph_events graph state (j ∷ items) =
    event_of graph state j ∷ graph_events graph (step_of graph state j) items

-- the state of the graph's machine after items
unfoldable pub graph_reach : Graph → State → List ℕ → State
graph_reach graph state items = fold (step_of graph) state items
