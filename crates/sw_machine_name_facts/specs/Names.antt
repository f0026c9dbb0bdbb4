-- Which cells the values of a state name: those that they refer to, through structs and cases of enums.
use Rattle.std.specs.Prelude.{◌≡◌, ℕ, Option, Some, List, slice_get, Contains}
use Rattle.sw_graph.specs.declared.graph.Graph.{Graph}
use Rattle.sw_value.specs.declared.cell.HeapCell.TheVariants.{Closure}
use Rattle.sw_value.specs.declared.executor.Executor.TheVariants.{ActorOf}
use Rattle.sw_value.specs.declared.frame.Frame.{Frame}
use Rattle.sw_value.specs.declared.job.Job.{Job}
use Rattle.sw_value.specs.declared.race.Place.{Place}
use Rattle.sw_value.specs.declared.race.Place.TheVariants.{Prop}
use Rattle.sw_value.specs.declared.state.State.{State}
use Rattle.sw_value.specs.declared.value.Value.{Value}
use Rattle.sw_value.specs.State.{result_of}
use Rattle.sw_machine_access_facts.specs.Location.{IsLocation, content_of}
use Rattle.sw_reach_facts.specs.Reached.{references}

-- one of the registers has a value that names cell k
pub record RegistersName (regs : List (Option Value)) (k : ℕ) : Type 0 where
  pub register : ℕ
  pub value : Value
  pub has : slice_get regs register ≡ Some (Some value)
  pub names : Contains (references value) k

-- a frame of job j has such a register
pub record JobNames (state : State) (j k : ℕ) : Type 0 where
  pub job : Job
  pub there : slice_get state.jobs j ≡ Some job
  pub depth : ℕ
  pub frame : Frame
  pub at : slice_get job.frames depth ≡ Some frame
  pub names : RegistersName frame.regs k

-- the value with which job j ended names cell k
pub record ResultNames (state : State) (j k : ℕ) : Type 0 where
  pub value : Value
  pub ended : result_of state j ≡ Some value
  pub names : Contains (references value) k

-- the value that stands at a place names cell k
pub record PlaceNames (state : State) (place : Place) (k : ℕ) : Type 0 where
  pub value : Value
  pub has : content_of state place ≡ Some value
  pub names : Contains (references value) k

-- a value that closure c captured names cell k
pub record CapturesName (state : State) (c k : ℕ) : Type 0 where
  pub function : ℕ
  pub captures : List Value
  pub is : slice_get state.cells c ≡ Some (Closure function captures)
  pub value : Value
  pub among : Contains captures value
  pub names : Contains (references value) k

-- what of cell c never changes, a `let` part or a capture, names cell k
pub data FixedNames (graph : Graph) (state : State) (c k : ℕ) : Type 0 where
  in_part : (i : ℕ) → ¬ IsLocation graph state (Prop c i) → PlaceNames state (Prop c i) k
      → FixedNames graph state c k
  in_capture : CapturesName state c k → FixedNames graph state c k

-- a frame of job j runs on the actor in cell c
pub record StandsOn (state : State) (j c : ℕ) : Type 0 where
  pub job : Job
  pub there : slice_get state.jobs j ≡ Some job
  pub depth : ℕ
  pub frame : Frame
  pub at : slice_get job.frames depth ≡ Some frame
  pub on : frame.executor ≡ ActorOf c
