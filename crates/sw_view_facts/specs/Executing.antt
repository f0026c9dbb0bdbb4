-- A step that executes an effect on its top frame, between two views.
use Rattle.std.specs.Prelude.{◌≡◌, ◌≢◌, ℕ, true, Option, Some, List, slice_get}
use Rattle.sw_graph.specs.declared.function.Function.{Function}
use Rattle.sw_graph.specs.declared.graph.Graph.{Graph}
use Rattle.sw_value.specs.declared.effect.Effect.{Effect}
use Rattle.sw_value.specs.declared.frame.Frame.{Frame}
use Rattle.sw_value.specs.declared.job.Job.{Job}
use Rattle.sw_value.specs.declared.state.State.{State}
use Rattle.sw_value.specs.Reach.{after_effect}
use Rattle.sw_partition.specs.Regions.{Regions}
use Rattle.sw_owner_facts.specs.View.{Frame as Spot}
use Rattle.sw_view_facts.specs.Changes.{KeepsReach}
use Rattle.sw_view_facts.specs.Effects.{is_inside}
use Rattle.sw_view_facts.specs.Steps.{TopAt}
use Rattle.sw_view_facts.specs.Views.{Colours, annotated, here_at}

-- The effect e changes the frame f at q, the top one of its job, and no other frame. Frame f is in
-- region state a before and c after, and each other frame in that of its point.
pub record Executes (graph : Graph) (states : ℕ → List (Option Regions)) (state next : State)
    (q : Spot) (f : Frame) (function : Function) (e : Effect)
    (regions later : Spot → Option Regions) (colours after : Colours) (a c : Regions) : Type 0 where
  pub job : Job
  pub top : TopAt state q job f
  pub is : slice_get graph.functions f.function ≡ Some function
  pub steps : next ≡ after_effect q.job e state
  pub inside : is_inside e ≡ true
  pub before : regions q ≡ Some a
  pub behind : later q ≡ Some c
  pub elsewhere : (p : Spot) → p ≢ q → regions p ≡ annotated states state p
  pub others : (p : Spot) → p ≢ q → later p ≡ annotated states next p
  pub heres : (p : Spot) → here_at after p ≡ here_at colours p
  pub reach : KeepsReach state next colours after
