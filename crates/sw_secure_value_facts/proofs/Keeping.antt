-- What has to be shown of an effect, and effects that join no colours and change no memory.
use Rattle.std.proofs.Common.{◌≡◌, ℕ, true, false, Option, List, [], length, refl, sym, subst, inl}
use Rattle.sw_graph.specs.declared.function.Function.{Function}
use Rattle.sw_graph.specs.declared.graph.Graph.{Graph}
use Rattle.sw_graph.specs.Points.{Point}
use Rattle.sw_value.specs.declared.effect.Effect.{Effect}
use Rattle.sw_value.specs.declared.effect.Effect.TheVariants as effect
use Rattle.sw_value.specs.declared.frame.Frame.{Frame}
use Rattle.sw_value.specs.declared.job.Job.{Job}
use Rattle.sw_value.specs.declared.state.State.{State}
use Rattle.sw_value.specs.declared.value.Value.{Value}
use Rattle.sw_value.specs.Effect.{point_effect}
use Rattle.sw_value.specs.Reach.{after_effect, step_of}
use Rattle.sw_value.specs.State.{in_job}
use Rattle.sw_partition.specs.Regions.{Regions}
use Rattle.sw_owner_facts.specs.Colours.{Colour, OfJob}
use Rattle.sw_owner_facts.specs.View.{Frame as Spot}
use Rattle.sw_view_facts.specs.Effects.{is_inside}
use Rattle.sw_view_facts.specs.Standing.{StandsAt}
use Rattle.sw_view_facts.specs.Views.{Colours}
use Rattle.sw_store_facts.specs.Sound.{HasSoundView}
use Rattle.sw_secure_facts.specs.Executing.{MayJoin, StaysSecure}
use Rattle.sw_secure_facts.specs.Painting.{Unites, joined_by}
use Rattle.sw_secure_facts.specs.Secure.{IsSecure}
use Rattle.sw_secure_facts.proofs.Staying.{waits_on_job}
use Rattle.sw_secure_facts.proofs.Uniting.{nothing_unites}
use Rattle.sw_secure_value_facts.proofs.Securing.{united_secured}

-- An effect keeps the state secure, and the colours that become one by it may.
pub record Keeps (graph : Graph) (states : ℕ → List (Option Regions)) (state : State)
    (colours : Colours) (q : Spot) (number : ℕ) (f : Frame) (point : Point) (e : Effect) : Type 0
  where
    pub stays : StaysSecure graph states state colours q number f point e
    pub joins : MayJoin graph state colours q number f point e

module _ (graph : Graph) (states : ℕ → List (Option Regions)) (state : State) (colours : Colours)
    (s : IsSecure graph states state colours) (q : Spot) (job : Job) (f : Frame)
    (function : Function) (point : Point) (x : StandsAt graph state q job f function point)
    (number : ℕ) where
  -- nothing becomes one, and memory stays
  pub plainly_secured : (e : Effect) → is_inside e ≡ true → waits_on_job e ≡ false
      → point_effect graph state (length job.frames) f point ≡ e
      → (after_effect q.job e state).cells ≡ state.cells
      → (after_effect q.job e state).globals ≡ state.globals
      → HasSoundView graph states (step_of graph state q.job) colours → (after : Colours)
      → Unites q.job [] colours after → IsSecure graph states (step_of graph state q.job) after
  plainly_secured e inside no_wait gives cells globals sound after u =
      subst (IsSecure graph states (step_of graph state q.job))
      (sym (nothing_unites q.job colours after u))
      (united_secured graph states state colours s q job f function point x e inside gives no_wait
      cells globals [] (OfJob q.job 0) sound)

  -- a register gets a value that isn't made of others
  pub set_kept : (dst : ℕ) (v : Value) (next : ℕ)
      → joined_by graph state colours q number f point (effect.Set dst v next) ≡ []
      → point_effect graph state (length job.frames) f point ≡ effect.Set dst v next
      → HasSoundView graph states (step_of graph state q.job) colours
      → Keeps graph states state colours q number f point
      (point_effect graph state (length job.frames) f point)
  unfolding in_job
  set_kept dst v next none gives sound =
      subst (Keeps graph states state colours q number f point) (sym gives) (record {
        stays = λ after u. plainly_secured (effect.Set dst v next) refl refl gives refl refl sound
            after (subst (λ (l : List Colour). Unites q.job l colours after) none u);
        joins = inl none;
      })
