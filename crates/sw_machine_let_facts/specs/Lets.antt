-- The `let`s of a graph, the places in cells, and the jobs that give first values.
use Rattle.std.specs.Prelude.{◌≡◌, ℕ, false, IsTrue, Some, slice_get}
use Rattle.std.specs.List.{Contains}
use Rattle.sw_types.specs.declared.shape.Part.{Part}
use Rattle.sw_types.specs.declared.shape.Shape.{Shape}
use Rattle.sw_graph.specs.declared.graph.Graph.{Graph}
use Rattle.sw_value.specs.declared.frame.Frame.{Frame}
use Rattle.sw_value.specs.declared.job.Job.{Job}
use Rattle.sw_value.specs.declared.race.Place.{Place}
use Rattle.sw_value.specs.declared.race.Place.TheVariants.{Prop, Global, BoxOf}
use Rattle.sw_value.specs.declared.state.State.{State}
use Rattle.sw_value.specs.Job.{top_frame, is_running}
use Rattle.sw_value.specs.Reach.{step_of}
use Rattle.sw_machine_access_facts.specs.Location.{content_of}

-- part i of shape k is a `let`
pub record IsLet (graph : Graph) (k i : ℕ) : Type 0 where
  pub shape : Shape
  pub part : Part
  pub shape_is : slice_get graph.shapes k ≡ Some shape
  pub part_is : slice_get shape.parts i ≡ Some part
  pub fixed : part.mutable ≡ false

-- the place is in a cell: a part of an object or an actor, or what a box holds
abbrev pub IsInCell : Place → Type 0
IsInCell (Prop c i) = Unit {0}
IsInCell (BoxOf c) = Unit {0}
IsInCell (Global g) = ⊥

-- the step of job j changes what the place has
abbrev pub Changes : Graph → State → ℕ → Place → Type 0
Changes graph state j place =
    ¬ (content_of (step_of graph state j) place ≡ content_of state place)

-- job j runs, and its top frame is of a function that gives a global its first value
pub record RunsFirst (graph : Graph) (state : State) (j : ℕ) : Type 0 where
  pub job : Job
  pub is : slice_get state.jobs j ≡ Some job
  pub runs : IsTrue (is_running job)
  pub frame : Frame
  pub top : top_frame job ≡ Some frame
  pub first : Contains graph.starts frame.function

-- no frame is of a function that gives a global its first value
abbrev pub IsPastFirsts : Graph → State → Type 0
IsPastFirsts graph state = (j : ℕ) (job : Job) → slice_get state.jobs j ≡ Some job → (i : ℕ)
    (frame : Frame) → slice_get job.frames i ≡ Some frame → ¬ Contains graph.starts frame.function
