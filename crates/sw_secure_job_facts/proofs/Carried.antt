-- What a task is given: it is of the maker's job, or of the actor that the task shares with its
-- maker.
use Rattle.std.proofs.Common.{◌≡◌, ◌⊎◌, ℕ, false, Option, Some, List, [], length}
use Rattle.std.proofs.Common.{Contains, refl, sym, subst, ap, ◌∙◌, inl, inr}
use Rattle.sw_list.proofs.Members.{in_flat_map}
use Rattle.sw_graph.specs.declared.function.Function.{Function}
use Rattle.sw_graph.specs.declared.graph.Graph.{Graph}
use Rattle.sw_value.specs.declared.frame.Frame.{Frame}
use Rattle.sw_value.specs.declared.job.Job.{Job}
use Rattle.sw_value.specs.declared.state.State.{State}
use Rattle.sw_value.specs.declared.value.Value.{Value}
use Rattle.sw_partition.specs.Regions.{Regions}
use Rattle.sw_owner_facts.specs.Colours.{Actor, Colour, OfActor, OfJob}
use Rattle.sw_owner_facts.specs.View.{Element, Here, HoldsLive, View, Frame as Spot}
use Rattle.sw_region_facts.specs.FrameRegions.{LiveIn}
use Rattle.sw_region_facts.specs.Moves.{IsSent, Sends}
use Rattle.sw_reach_facts.specs.Reached.{colours_of}
use Rattle.sw_view_facts.specs.Changes.{HoldsIn}
use Rattle.sw_view_facts.specs.Views.{Colours, annotated, closes_at, frame_at, here_at, is_return}
use Rattle.sw_view_facts.specs.Views.{state_with, view_at}
use Rattle.sw_view_facts.proofs.ShapeLemmas.{open_here}
use Rattle.sw_view_facts.proofs.TopLemmas.{height_is, nothing_above}
use Rattle.sw_store_facts.proofs.Holding.{holds_live}
use Rattle.sw_secure_facts.specs.Painting.{actor_on, passed}
use Rattle.sw_secure_job_facts.proofs.Captured.{HeldIn, later_in, passed_held, passed_is}
use Rattle.sw_secure_job_facts.proofs.Frames.{together_at}
use Rattle.sw_secure_job_facts.proofs.Making.{MakesTask, Shares, elements, here, shares_or_sends}
use Rattle.sw_secure_job_facts.proofs.Making.{there}
use Rattle.sw_secure_job_facts.proofs.Making.{xs}

module _ (graph : Graph) (states : ℕ → List (Option Regions)) (state : State) (colours : Colours)
    (q : Spot) (job : Job) (f : Frame) (function : Function) (r : ℕ) (frame : Frame)
    (m : MakesTask graph states state colours q job f function r frame) where
  abbrev w : View
  w = view_at graph states state colours

  abbrev tracked_ones : List Element
  tracked_ones = xs graph states state colours q job f function r frame m

  abbrev a : Regions
  a = (here graph states state colours q job f function r frame m).a

  abbrev c : Regions
  c = (here graph states state colours q job f function r frame m).c

  abbrev registered : List (Option ℕ)
  registered = elements graph states state colours q job f function r frame m

  pub top_there : frame_at state q ≡ Some f
  top_there = there graph states state colours q job f function r frame m

  pub stands_before : annotated states state q ≡ Some a
  stands_before = ap (state_with states) top_there
      ∙ (here graph states state colours q job f function r frame m).at

  pub still_open : closes_at graph function f.point ≡ false
  still_open = open_here graph function f.point (ap is_return m.stands.here)

  pub held_before : (y : Element) (d : Colour) → LiveIn registered a y
      → HoldsIn state colours f (here_at colours q) y d → HoldsLive w q y d
  held_before = holds_live graph state colours q f function top_there m.stands.is
      (nothing_above state q job f m.stands.top) (height_is state q job f m.stands.top) still_open
      (annotated states state) a stands_before

  abbrev pub Held : Colour → Type 0
  Held = HeldIn graph states state colours m.secure.coloured q f function top_there m.stands.is
      m.captures m.values m.have

  pub given_held : (d : Colour) → Contains (passed state colours [] frame.regs) d → Held d
  given_held d has =
      passed_held graph states state colours m.secure.coloured q f function top_there m.stands.is
      m.captures m.values m.have (length m.begun.function.regs) d
      (subst (λ regs. Contains (passed state colours [] regs) d) m.begun.regs has)

  -- what a value reaches is passed
  pub value_passed : (v : Value) → Contains m.values v → (d : Colour)
      → Contains (colours_of state.cells colours.cells v) d
      → Contains (passed state colours [] frame.regs) d
  value_passed v among d has =
      subst (λ regs. Contains (passed state colours [] regs) d) (sym m.begun.regs)
      (subst (λ l. Contains l d)
      (sym (passed_is state colours (length m.begun.function.regs) m.values))
      (in_flat_map (colours_of state.cells colours.cells) m.values v d among has))

  -- a task's colour, by whose it is
  abbrev pub IsOurs : Colour → Type 0
  IsOurs d = ((owner : Actor) × (actor_on frame.executor ≡ Some owner) × (d ≡ OfActor owner))
      ⊎ ((n : ℕ) × (d ≡ OfJob q.job n))

  of_job : (d : Colour) (y : Element) → HoldsLive w q y d
      → ((owner : Actor) → d ≡ OfActor owner → IsOurs d) → IsOurs d
  of_job (OfJob j n) y held actors =
      let own = m.secure.coloured.sound.owned.owned held in
      inr (n, ap (λ k. OfJob k n) own)
  of_job (OfActor owner) y held actors = actors owner refl

  shared : Shares graph states state colours q job f function r frame m → (d : Colour) → Held d
      → IsOurs d
  shared s d held =
      let live = s.gathers.uses.used held.element
      (later_in Here tracked_ones held.element held.among) in
      let holds = held_before held.element d live held.holds in
      of_job d held.element holds (λ owner is.
      let own = m.secure.coloured.sound.owned.actors
      (subst (λ e. HoldsLive w q held.element e) is holds) in
      let same : s.actor ≡ owner =
      (let both : OfActor s.actor ≡ OfActor owner = sym s.here_is ∙ own in actor_is s.actor owner
      both)
      in
      inl (owner, s.on ∙ ap Some same, is))
    where
      actor_is : (x y : Actor) → OfActor x ≡ OfActor y → x ≡ y
      actor_is x y e = cc

  -- what is given away is of the job
  pub sent : Sends registered tracked_ones a c → (d : Colour) → Held d
      → (n : ℕ) × (d ≡ OfJob q.job n)
  sent s d held = by d (held_before held.element d is_sent.used held.holds) where
    is_sent : IsSent registered a c held.element
    is_sent = s.sent held.element held.among

    by : (e : Colour) → HoldsLive w q held.element e → (n : ℕ) × (e ≡ OfJob q.job n)
    by (OfJob j n) holds = (n, ap (λ k. OfJob k n) (m.secure.coloured.sound.owned.owned holds))
    by (OfActor owner) holds =
        absurd (is_sent.free (together_at graph (annotated states state) state colours q f function
        top_there m.stands.is a stands_before held.element Here
        (m.secure.coloured.sound.owned.together holds (held_before Here (OfActor owner) tt
        (m.secure.coloured.sound.owned.actors holds)))))

  pub ours : (d : Colour) → Contains (passed state colours [] frame.regs) d → IsOurs d
  ours d has = elim (shares_or_sends graph states state colours q job f function r frame m) [
    | inl shares ↦ shared shares d (given_held d has)
    | inr sends ↦ inr (sent sends d (given_held d has))
  ]
