-- There are colours that a step leads to that makes a task.
use Rattle.std.proofs.Common.{None, ◌≡◌, ◌≢◌, ◌⊎◌, ℕ, Bool, true, false, cond, Option, Some, List}
use Rattle.std.proofs.Common.{[], ◌∷◌, length, Contains, refl, sym, subst, ap, ◌∙◌, arith, inl, inr}
use Rattle.std.proofs.lemmas.Option.{slice_get_within}
use Rattle.sw_list.proofs.Members.{first_or_later, in_flat_map, of_flat_map}
use Rattle.sw_graph.specs.declared.function.Function.{Function}
use Rattle.sw_graph.specs.declared.graph.Graph.{Graph}
use Rattle.sw_value.specs.declared.frame.Frame.{Frame}
use Rattle.sw_value.specs.declared.job.Job.{Job}
use Rattle.sw_value.specs.declared.state.State.{State}
use Rattle.sw_partition.specs.Regions.{Regions}
use Rattle.sw_owner_facts.specs.Colours.{Actor, Colour, OfActor, OfJob}
use Rattle.sw_owner_facts.specs.View.{Frame as Spot, bottom}
use Rattle.sw_reach_facts.specs.Reached.{colours_of}
use Rattle.sw_reach_facts.proofs.RenamedLemmas.{colours_renamed}
use Rattle.sw_view_facts.specs.Renaming.{recoloured_by}
use Rattle.sw_view_facts.specs.Views.{Colours}
use Rattle.sw_late_facts.specs.Late.{goes_away}
use Rattle.sw_secure_facts.specs.Painting.{IsOwn, MayUnite, PaintsTask, actor_on, begun_here}
use Rattle.sw_secure_facts.specs.Painting.{Unites, handed, joined_by_task, passed}
use Rattle.sw_secure_facts.proofs.Recoloured.{reached_was}
use Rattle.sw_secure_facts.proofs.Uniting.{may_unite_some, numbered, numbers_are, numbers_of}
use Rattle.sw_secure_job_facts.proofs.Captured.{first_in, in_map, passed_is}
use Rattle.sw_secure_job_facts.proofs.Carried.{ours, value_passed}
use Rattle.sw_secure_job_facts.proofs.Handing.{handed_actor, handed_colour, handed_given, handed_is}
use Rattle.sw_secure_job_facts.proofs.Making.{MakesTask}

module _ (graph : Graph) (states : ℕ → List (Option Regions)) (state : State) (colours : Colours)
    (q : Spot) (job : Job) (f : Frame) (function : Function) (r : ℕ) (frame : Frame)
    (m : MakesTask graph states state colours q job f function r frame) (number : ℕ) where
  abbrev made : ℕ
  made = length state.jobs

  -- the maker's job isn't the new one
  pub not_made : q.job ≢ made
  not_made same = let inside = slice_get_within state.jobs q.job job m.stands.top.there in
      omega (arith, inside, same)

  abbrev pub begun : Colour
  begun = begun_here (actor_on frame.executor) made number

  abbrev pub carried : List Colour
  carried = passed state colours [] frame.regs

  -- the colour of the new frame's `Here`, if that is an actor's
  pub begun_is : (owner : Actor) → actor_on frame.executor ≡ Some owner → begun ≡ OfActor owner
  begun_is owner is = ap (λ o. begun_here o made number) is

  -- what is carried becomes, where it is handed over, the new job's, or stays its actor's
  pub carried_later : (given : List ℕ) (d : Colour)
      → Contains (passed state (handed q.job made given colours) [] frame.regs) d
      → (old : Colour) × Contains carried old × (handed_colour q.job made given old ≡ d)
  carried_later given d has =
      let after = recoloured_by (handed_colour q.job made given) colours in
      let all = subst (λ regs. Contains (passed state after [] regs) d) m.begun.regs
      (subst (λ cs. Contains (passed state cs [] frame.regs) d)
      (handed_is q.job made given colours) has) in
      let found = of_flat_map (colours_of state.cells after.cells) m.values d
      (subst (λ l. Contains l d)
      (passed_is state after (length m.begun.function.regs) m.values) all) in
      let was = reached_was graph state (handed_colour q.job made given) colours
      (handed_actor q.job made given) found.0 d found.2 in (
        was.0,
        value_passed graph states state colours q job f function r frame m found.0 found.1
            was.0 was.1,
        was.2,
      )

  -- and each of them does
  pub carried_to : (given : List ℕ) (old : Colour) → Contains carried old
      → Contains (passed state (handed q.job made given colours) [] frame.regs)
      (handed_colour q.job made given old)
  carried_to given old has =
      let after = recoloured_by (handed_colour q.job made given) colours in
      let found = of_flat_map (colours_of state.cells colours.cells) m.values old
      (subst (λ l. Contains l old) (passed_is state colours (length m.begun.function.regs) m.values)
      (subst (λ regs. Contains (passed state colours [] regs) old) m.begun.regs has)) in
      let new = handed_colour q.job made given old in
      let there = subst (λ l. Contains l new)
      (sym (colours_renamed (handed_colour q.job made given) state.cells colours.cells found.0))
      (in_map (handed_colour q.job made given) (colours_of state.cells colours.cells found.0) old
      found.2) in
      subst (λ cs. Contains (passed state cs [] frame.regs) new)
      (sym (handed_is q.job made given colours))
      (subst (λ regs. Contains (passed state after [] regs) new) (sym m.begun.regs)
      (subst (λ l. Contains l new)
      (sym (passed_is state after (length m.begun.function.regs) m.values))
      (in_flat_map (colours_of state.cells after.cells) m.values found.0 new found.1 there)))

  -- they are the job's, or an actor's
  gives_by : (d : Colour) → Contains carried d
      → ((owner : Actor) × (d ≡ OfActor owner))
      ⊎ ((n : ℕ) × Contains (numbers_of q.job carried) n × (d ≡ OfJob q.job n))
  gives_by d has = elim (ours graph states state colours q job f function r frame m d has) [
    | inl (owner, on, is) ↦ inl (owner, is)
    | inr (n, is) ↦ inr (
      n,
      numbered q.job carried n
          (subst (λ e. Contains carried e) is has),
      is,
    )
  ]

  begun_own : IsOwn (bottom made) begun
  begun_own = by (actor_on frame.executor) where
    by : (o : Option Actor) → IsOwn (bottom made) (begun_here o made number)
    by None = inr (number, refl)
    by (Some owner) = inl (owner, refl)

  -- once handed over, all of them but the actor's are the new job's
  may_unite : (away : Bool) → MayUnite (bottom made) (cond away []
      (begun ∷ passed state (handed q.job made (numbers_of q.job carried) colours) [] frame.regs))
  may_unite true = inl refl
  may_unite false = inr (
    begun,
    first_in begun later,
    λ d has.
        elim (first_or_later begun later d has) [
          | inl same ↦ inl (sym same)
          | inr there ↦
              let old = carried_later (numbers_of q.job carried) d there in
              elim (ours graph states state colours q job f function r frame m old.0 old.1) [
                | inl (owner, on, is) ↦ inl (sym old.2
                    ∙ ap (handed_colour q.job made (numbers_of q.job carried)) is
                    ∙ handed_actor q.job made (numbers_of q.job carried) owner
                    ∙ sym (begun_is owner on))
                | inr (n, is) ↦ inr (
                  n,
                  sym old.2
                      ∙ ap (handed_colour q.job made (numbers_of q.job carried)) is
                      ∙ handed_given q.job made (numbers_of q.job carried) n not_made
                      (numbered q.job carried n (subst (λ e. Contains carried e) is old.1)),
                )
              ]
        ],
    begun_own,
  )
    where
      later : List Colour
      later = passed state (handed q.job made (numbers_of q.job carried) colours) [] frame.regs

  pub task_paints : (base : Colours)
      → (after : Colours) × PaintsTask state colours q.job made number f frame base after
  task_paints base = (
    second.0,
    record {
      given = numbers_of q.job carried;
      gives = gives_by;
      only = λ n has. numbers_are q.job carried n has;
      unites = second.1;
    },
  )
    where
      second : (after : Colours) × Unites made
          (joined_by_task state (handed q.job made (numbers_of q.job carried) colours) made number f
          frame) (handed q.job made (numbers_of q.job carried) base) after
      second = may_unite_some (bottom made)
          (joined_by_task state (handed q.job made (numbers_of q.job carried) colours) made number f
          frame) (may_unite (goes_away f.executor frame.executor))
          (handed q.job made (numbers_of q.job carried) base)
