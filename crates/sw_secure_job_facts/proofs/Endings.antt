-- A step that returns from the last frame of a job, and returns of any frame.
use Rattle.std.proofs.Common.{◌≡◌, ◌-◌, ℕ, zero, suc, Option, List, [], ◌∷◌, ◌++◌}
use Rattle.std.proofs.Common.{length, refl, sym, subst, ap, ◌∙◌, arith}
use Rattle.sw_graph.specs.declared.function.Function.{Function}
use Rattle.sw_graph.specs.declared.graph.Graph.{Graph}
use Rattle.sw_graph.specs.Points.{Point}
use Rattle.sw_value.specs.declared.effect.Effect.TheVariants.{Leave}
use Rattle.sw_value.specs.declared.frame.Frame.{Frame}
use Rattle.sw_value.specs.declared.job.Job.{Job}
use Rattle.sw_value.specs.declared.job.Status.TheVariants.{Ended}
use Rattle.sw_value.specs.declared.state.State.{State}
use Rattle.sw_value.specs.declared.value.Value.{Value}
use Rattle.sw_value.specs.Job.{leave}
use Rattle.sw_value.specs.Reach.{step_of}
use Rattle.sw_value.specs.State.{in_job}
use Rattle.sw_value.proofs.JobLemmas.{leave_some, return_to_none}
use Rattle.sw_partition.specs.Regions.{Regions}
use Rattle.sw_owner_facts.specs.View.{bottom, Frame as Spot}
use Rattle.sw_owner_facts.proofs.ReturnedLemmas.{ended}
use Rattle.sw_view_facts.specs.Views.{Colours, view_at}
use Rattle.sw_view_facts.proofs.EffectLemmas.{step_is}
use Rattle.sw_view_facts.proofs.EndLemmas.{job_ends}
use Rattle.sw_view_facts.proofs.TopLemmas.{ends_with}
use Rattle.sw_secure_facts.specs.Executing.{Executing, StaysSecure}
use Rattle.sw_secure_facts.specs.Painting.{without_here}
use Rattle.sw_secure_facts.specs.Secure.{IsSecure}
use Rattle.sw_secure_job_facts.proofs.Changed.{have_changed, memory_changed, waits_changed}
use Rattle.sw_secure_job_facts.proofs.Next.{WaitsAs, secure_after}
use Rattle.sw_secure_job_facts.proofs.Returns.{returns_above}
use Rattle.sw_secure_job_facts.proofs.Rows.{here_elsewhere, heres_popped, memory_uncoloured}
use Rattle.sw_secure_facts.proofs.Uniting.{nothing_unites}

alone : (frames : List Frame) → length frames ≡ zero → frames ≡ []
alone [] is = refl
alone (f ∷ fs) is = absurd (omega (arith, is))

module _ (graph : Graph) (states : ℕ → List (Option Regions)) (state : State) (colours : Colours)
    (j number : ℕ) (job : Job) (t : Frame) (callee : Function) (point : Point) (v : Value)
    (x : Executing graph states state colours (bottom j) number job t callee point (Leave v)) where
  abbrev next : State
  next = step_of graph state j

  steps : next ≡ in_job (leave v) j state
  steps = step_is graph state (bottom j) job t callee point (Leave v) x.stands x.gives refl

  left : leave v job ≡ record { frames = []; status = Ended v }
  left =
      let top = x.stands.top in
      let split = ends_with job.frames zero t top.top top.height in
      leave_some v job [] t (split.1 ∙ ap (λ l. l ++ t ∷ []) (alone split.0 split.2))
      ∙ return_to_none [] t v job.status refl

  waits : WaitsAs job (leave v job)
  waits = subst (λ now. WaitsAs job now) (sym left) (record {
    frames = λ i r h at awaits. cc;
    status = λ on r is. cc;
  })

  shorter : length (leave v job).frames ≡ length job.frames - 1
  shorter = ap (λ (o : Job). length o.frames) left
      ∙ (let h = x.stands.top.height in let e : 0 ≡ length job.frames - 1 = omega (arith, h) in e)

  pub ends_stay : StaysSecure graph states state colours (bottom j) number t point (Leave v)
  ends_stay after unites =
      subst (IsSecure graph states next)
      (sym (nothing_unites j (without_here j colours) after unites))
      (secure_after graph states state colours x.secure j (without_here j colours)
      (have_changed (leave v) j state next steps job x.stands.top.there graph colours
      x.secure.coloured.have)
      (ended (view_at graph states state colours)
      (view_at graph states next (without_here j colours)) j x.secure.coloured.sound
      (job_ends graph states state next j job t v colours (without_here j colours) x.stands.top
      steps refl (λ p differ. here_elsewhere j colours p differ)))
      (memory_uncoloured graph next colours (without_here j colours) refl
      (memory_changed (leave v) j state next steps job x.stands.top.there graph colours
      x.secure.memory))
      (heres_popped (leave v) j state next steps job x.stands.top.there colours shorter
      x.secure.heres)
      (waits_changed (leave v) j state next steps job x.stands.top.there waits))

pub returns_stay : (graph : Graph) (states : ℕ → List (Option Regions)) (state : State)
    (colours : Colours) (q : Spot) (number : ℕ) (job : Job) (f : Frame) (function : Function)
    (point : Point) (v : Value)
    → Executing graph states state colours q number job f function point (Leave v)
    → StaysSecure graph states state colours q number f point (Leave v)
returns_stay graph states state colours q number job f function point v = by q.depth refl where
  at : (n : ℕ) → q.depth ≡ n → record { job = q.job; depth = n } ≡ q
  at n is = ap (λ d. record { job = q.job; depth = d }) (sym is)

  by : (n : ℕ) → q.depth ≡ n
      → Executing graph states state colours q number job f function point (Leave v)
      → StaysSecure graph states state colours q number f point (Leave v)
  by zero is = subst (λ (s : Spot).
      Executing graph states state colours s number job f function point (Leave v)
      → StaysSecure graph states state colours s number f point (Leave v)) (at zero is)
      (ends_stay graph states state colours q.job number job f function point v)
  by (suc n) is = subst (λ (s : Spot).
      Executing graph states state colours s number job f function point (Leave v)
      → StaysSecure graph states state colours s number f point (Leave v)) (at (suc n) is)
      (returns_above graph states state colours (record { job = q.job; depth = n }) number job f
      function point v)
