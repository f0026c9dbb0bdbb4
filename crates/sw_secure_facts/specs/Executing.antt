-- A step of a secure state that executes an effect.
use Rattle.std.specs.Prelude.{◌≡◌, ℕ, Bool, true, false, Option, List, length}
use Rattle.sw_graph.specs.declared.function.Function.{Function}
use Rattle.sw_graph.specs.declared.graph.Graph.{Graph}
use Rattle.sw_graph.specs.Points.{Point}
use Rattle.sw_value.specs.declared.effect.Effect.{Effect}
use Rattle.sw_value.specs.declared.effect.Effect.TheVariants as effect
use Rattle.sw_value.specs.declared.frame.Frame.{Frame}
use Rattle.sw_value.specs.declared.job.Job.{Job}
use Rattle.sw_value.specs.declared.state.State.{State}
use Rattle.sw_value.specs.Effect.{point_effect}
use Rattle.sw_value.specs.Reach.{step_of}
use Rattle.sw_partition.specs.Regions.{Regions}
use Rattle.sw_owner_facts.specs.View.{Frame as Spot}
use Rattle.sw_view_facts.specs.Standing.{StandsAt}
use Rattle.sw_view_facts.specs.Views.{Colours}
use Rattle.sw_secure_facts.specs.Painting.{MayUnite, Paints, joined_by}
use Rattle.sw_secure_facts.specs.Secure.{AreNumberedBelow, IsSecure}

-- In a secure state the job of q runs, and its top frame f stands at a point with this effect. The
-- number is that of no colour in use.
pub record Executing (graph : Graph) (states : ℕ → List (Option Regions)) (state : State)
    (colours : Colours) (q : Spot) (number : ℕ) (job : Job) (f : Frame) (function : Function)
    (point : Point) (e : Effect) : Type 0 where
  pub secure : IsSecure graph states state colours
  pub numbered : AreNumberedBelow number colours
  pub stands : StandsAt graph state q job f function point
  pub gives : point_effect graph state (length job.frames) f point ≡ e

-- The state after the step is secure, with the colours that the effect makes.
abbrev pub StaysSecure : Graph → (ℕ → List (Option Regions)) → State → Colours → Spot → ℕ → Frame
    → Point → Effect → Type 0
StaysSecure graph states state colours q number f point e = (after : Colours)
    → Paints graph state colours q number f point e after
    → IsSecure graph states (step_of graph state q.job) after

-- The colours that become one by the effect may.
abbrev pub MayJoin : Graph → State → Colours → Spot → ℕ → Frame → Point → Effect → Type 0
MayJoin graph state colours q number f point e =
    MayUnite q (joined_by graph state colours q number f point e)

-- ---- sorts of effects
-- it makes no cell, frame or job, and takes no frame off
abbrev pub is_of_values : Effect → Bool
is_of_values (effect.Set r v next) = true
is_of_values (effect.SetField r i v next) = true
is_of_values (effect.Print r line next) = true
is_of_values (effect.Write c slot v next) = true
is_of_values (effect.WriteGlobal g v next) = true
is_of_values (effect.Goto next) = true
is_of_values (effect.Wait on r next) = true
is_of_values (effect.Rest r next) = true
is_of_values _ = false

abbrev pub makes_cell : Effect → Bool
makes_cell (effect.New r cell c next) = true
makes_cell _ = false

abbrev pub is_call : Effect → Bool
is_call (effect.Enter frame next) = true
is_call _ = false
