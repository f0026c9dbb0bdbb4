-- Whose a job's colour may become in a step (SE-0414, SE-0430).
use Rattle.std.specs.Prelude.{◌≡◌, ◌⊎◌, ℕ, suc, Bool, true, false, Some, None, List, length}
use Rattle.std.specs.Prelude.{slice_get}
use Rattle.sw_graph.specs.declared.graph.Graph.{Graph}
use Rattle.sw_value.specs.declared.cell.HeapCell.TheVariants.{Actor}
use Rattle.sw_value.specs.declared.effect.Act.TheVariants.{Execute}
use Rattle.sw_value.specs.declared.effect.Effect.{Effect}
use Rattle.sw_value.specs.declared.effect.Effect.TheVariants as effect
use Rattle.sw_value.specs.declared.frame.Frame.{Frame}
use Rattle.sw_value.specs.declared.job.Job.{Job}
use Rattle.sw_value.specs.declared.state.State.{State}
use Rattle.sw_value.specs.declared.value.Value.{Value}
use Rattle.sw_value.specs.Act.{act_of}
use Rattle.sw_color_rules.specs.declared.colored.Colored.{Colored}
use Rattle.sw_color_rules.specs.declared.colors.Owner.{Owner}
use Rattle.sw_color_rules.specs.declared.colors.Owner.TheVariants as owner
use Rattle.sw_color_rules.specs.Machine.{colored_step}
use Rattle.sw_owner_facts.specs.View.{above, bottom, Frame as Spot}
use Rattle.sw_late_facts.specs.Alike.{job_of}
use Rattle.sw_owned_facts.specs.Holding.{here_colour, owner_by}

-- the frame is the top one of the job with this number
pub record IsTopOf (state : State) (j : ℕ) (p : Spot) : Type 0 where
  pub own : p.job ≡ j
  pub job : Job
  pub there : slice_get state.jobs j ≡ Some job
  pub top : length job.frames ≡ suc p.depth

-- the actor or the global actor owns the colour of the frame's `Here`
pub record OwnsHere (colored : Colored) (p : Spot) (one : Owner) : Type 0 where
  pub actor : job_of (Some one) ≡ None
  pub colour : ℕ
  pub is : here_colour colored p ≡ Some colour
  pub owned : owner_by colored colour ≡ Some one

-- the job with this number executes the effect
abbrev pub Does : Graph → Colored → ℕ → Effect → Type 0
Does graph colored j e = act_of graph colored.state j ≡ Some (Execute e)

-- whether an effect makes a job or an actor, to which it hands colours
abbrev pub makes_owner : Effect → Bool
makes_owner (effect.New r (Actor k parts) made next) = true
makes_owner (effect.Spawn r frame made cell next) = true
makes_owner _ = false

-- Who may take colours of the job that the item steps.
pub data MayTake (graph : Graph) (before : Colored) (item : ℕ) (one : Owner) : Type 0 where
  -- the actor that owns the `Here` of the job's top frame, unless there is a new owner
  AtHere : (p : Spot) (e : Effect) → IsTopOf before.state item p → Does graph before item e
      → makes_owner e ≡ false → OwnsHere before p one → MayTake graph before item one
  -- by a call, the actor that owns the `Here` of the frame that is pushed on top of that one
  ByCall : (p : Spot) (frame : Frame) (next : ℕ) → IsTopOf before.state item p
      → Does graph before item (effect.Enter frame next)
      → OwnsHere (colored_step graph before item) (above p) one → MayTake graph before item one
  -- by a task, the new job, or the actor that owns the `Here` of its first frame
  ByTask : (r : ℕ) (frame : Frame) (made cell next : ℕ)
      → Does graph before item (effect.Spawn r frame made cell next)
      → (one ≡ owner.Job made) ⊎ OwnsHere (colored_step graph before item) (bottom made) one
      → MayTake graph before item one
  -- what makes an actor hands colours to that actor
  ByActor : (r k : ℕ) (parts : List Value) (made next : ℕ)
      → Does graph before item (effect.New r (Actor k parts) made next)
      → one ≡ owner.ActorOf made → MayTake graph before item one
