-- What every state of an accepted program keeps, with its colours: its view is sound, and memory,
-- colours and waiting frames are as the next step needs them.
use Rattle.std.specs.Prelude.{◌≡◌, ◌≢◌, ◌<◌, ℕ, true, IsTrue, Option, Some, None, List, length}
use Rattle.std.specs.Prelude.{slice_get, slice_index_or, Contains}
use Rattle.sw_types.specs.declared.ty.Ty.{Ty}
use Rattle.sw_graph.specs.declared.function.Function.{Function}
use Rattle.sw_graph.specs.declared.graph.Graph.{Graph}
use Rattle.sw_graph.specs.Bodies.{has_self}
use Rattle.sw_graph.specs.Clean.{may_cross}
use Rattle.sw_value.specs.declared.frame.Frame.{Frame}
use Rattle.sw_value.specs.declared.job.Job.{Job}
use Rattle.sw_value.specs.declared.job.Status.TheVariants.{Waiting}
use Rattle.sw_value.specs.declared.state.State.{State}
use Rattle.sw_partition.specs.Regions.{Regions}
use Rattle.sw_machine_kind_facts.specs.Standing.{awaited_at}
use Rattle.sw_owner_facts.specs.Colours.{Colour, OfJob}
use Rattle.sw_view_facts.specs.Views.{Colours}
use Rattle.sw_store_facts.specs.Sound.{IsColoured}
use Rattle.sw_secure_facts.specs.Memory.{OwnsMemory}

-- Each job has a colour for the `Here` of each of its frames.
pub record HeresFit (state : State) (colours : Colours) : Type 0 where
  pub jobs : length colours.heres ≡ length state.jobs
  pub frames : (j : ℕ) (job : Job) (row : List Colour) → slice_get state.jobs j ≡ Some job
      → slice_get colours.heres j ≡ Some row → length row ≡ length job.frames

-- What waits: no frame for a result in the register of its own `self`, and no job for one that may
-- not cross. `gives` has the types of the jobs' results.
pub record WaitsFit (graph : Graph) (gives : List Ty) (state : State) : Type 0 where
  pub selves : (j i r : ℕ) (job : Job) (frame : Frame) (function : Function)
      → slice_get state.jobs j ≡ Some job → slice_get job.frames i ≡ Some frame
      → slice_get graph.functions frame.function ≡ Some function → IsTrue (has_self function)
      → awaited_at job i ≡ Some r → r ≢ 0
  pub results : (j on r : ℕ) (job : Job) (result : Ty) → slice_get state.jobs j ≡ Some job
      → job.status ≡ Waiting on r → slice_get gives on ≡ Some result
      → may_cross graph result ≡ true

pub record IsSecure (graph : Graph) (states : ℕ → List (Option Regions)) (state : State)
    (colours : Colours) : Type 0 where
  pub coloured : IsColoured graph states state colours
  pub memory : OwnsMemory graph state colours
  pub heres : HeresFit state colours
  pub waits : WaitsFit graph coloured.kinded.world.results state

-- the numbers of the jobs' colours in use are below this one
pub record AreNumberedBelow (bound : ℕ) (colours : Colours) : Type 0 where
  pub cells : (c job number : ℕ) → slice_index_or colours.cells c None ≡ Some (OfJob job number)
      → number < bound
  pub heres : (row : List Colour) (job number : ℕ) → Contains colours.heres row
      → Contains row (OfJob job number) → number < bound
