-- Globals get their first values before anything reads them.
use Rattle.std.specs.Prelude.{◌≡◌, ℕ, ◌+◌, false, Some}
use Rattle.std.specs.Prelude.{List, [], ◌∷◌, slice_get}
use Rattle.sw_graph.specs.declared.function.Function.{Function}
use Rattle.sw_graph.specs.declared.graph.Graph.{Graph}
use Rattle.sw_graph.specs.Placed.{GivesFirst}
use Rattle.sw_graph.specs.Ways.{Way}
use Rattle.sw_value.specs.declared.value.Value.{Value}
use Rattle.sw_value.specs.declared.cell.HeapCell.TheVariants.{Closure}
use Rattle.sw_value.specs.declared.frame.Frame.{Frame}
use Rattle.sw_value.specs.declared.job.Job.{Job}
use Rattle.sw_value.specs.declared.state.State.{State}
use Rattle.sw_value.specs.Value.{value_at}
use Rattle.sw_graph.specs.Stores.{has_stored, StoresFirst}

-- a frame is yet to give global g a value
pub record IsDue (graph : Graph) (g : ℕ) (frame : Frame) : Type 0 where
  pub function : Function
  pub is : slice_get graph.functions frame.function ≡ Some function
  pub stores : StoresFirst g function
  pub passed : List ℕ
  pub way : Way function frame.point passed
  pub not_yet : has_stored function passed g ≡ false

-- A global has no value yet, but a frame of the one job there is is yet to give it one. Above the
-- entry there are only first-value functions and what they lead to, and so in closures.
pub record IsBeginning (graph : Graph) (state : State) (g : ℕ) : Type 0 where
  pub job : Job
  pub alone : state.jobs ≡ job ∷ []
  pub firsts : (i : ℕ) (frame : Frame) → slice_get job.frames (i + 1) ≡ Some frame
      → GivesFirst graph frame.function
  pub closures : (c f : ℕ) (captures : List Value)
      → slice_get state.cells c ≡ Some (Closure f captures) → GivesFirst graph f
  pub index : ℕ
  pub frame : Frame
  pub here : slice_get job.frames (index + 1) ≡ Some frame
  pub due : IsDue graph g frame

abbrev pub HasValue : State → ℕ → Type 0
HasValue state g = (v : Value) × (value_at state.globals g ≡ Some v)
