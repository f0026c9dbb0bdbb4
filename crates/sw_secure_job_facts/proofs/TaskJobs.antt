-- The view stays sound where the job of a task is added.
use Rattle.std.specs.Option.{option_and_then, option_map}
use Rattle.std.specs.List.{slice_get, slice_index_or}
use Rattle.std.proofs.Common.{◌≡◌, ◌≢◌, ◌⊎◌, ◌<◌, ◌==◌, ◌&&◌, ℕ, zero, Bool, true, false, cond}
use Rattle.std.proofs.Common.{Option, Some, None, List, [], ◌∷◌, ◌++◌, length, Contains, refl, sym}
use Rattle.std.proofs.Common.{subst, ap, ◌∙◌, arith, inl, inr}
use Rattle.std.proofs.lemmas.Option.{get_or_from_slice_get}
use Rattle.sw_list.proofs.ListLemmas.{some_injective, slice_get_first}
use Rattle.sw_list.proofs.Members.{first_or_later, none_in}
use Rattle.sw_types.specs.declared.isolation.Iso.{Iso}
use Rattle.sw_types.specs.declared.isolation.Iso.TheVariants as iso
use Rattle.sw_graph.specs.declared.function.Function.{Function}
use Rattle.sw_graph.specs.declared.graph.Graph.{Graph}
use Rattle.sw_value.specs.declared.executor.Executor.TheVariants as executor
use Rattle.sw_value.specs.declared.frame.Frame.{Frame}
use Rattle.sw_value.specs.declared.job.Job.{Job}
use Rattle.sw_value.specs.declared.state.State.{State}
use Rattle.sw_value.specs.Executor.{executor_of}
use Rattle.sw_value.specs.Job.{new_job}
use Rattle.sw_value.specs.State.{add_job}
use Rattle.sw_value.specs.Value.{reference_of, registers, value_at}
use Rattle.sw_value.proofs.ListLemmas.{slice_get_end}
use Rattle.sw_partition.specs.Regions.{Regions}
use Rattle.sw_owner_facts.specs.Calls.{IsOnActor, IsOnNone}
use Rattle.sw_owner_facts.specs.Colours.{Actor, Colour, GlobalActor, Instance, OfActor, OfJob}
use Rattle.sw_owner_facts.specs.Colours.{On}
use Rattle.sw_owner_facts.specs.Owned.{IsSound}
use Rattle.sw_owner_facts.specs.View.{Element, FrameShape, HoldsLive, IsDisconnected, IsUnheld}
use Rattle.sw_owner_facts.specs.View.{IsolatedTo, MakesActor, View, bottom, Frame as Spot}
use Rattle.sw_owner_facts.proofs.CallLemmas.{spawned}
use Rattle.sw_region_facts.proofs.Annotated.{lent_here}
use Rattle.sw_reach_facts.proofs.FitLemmas.{colours_fit, conformances_hold}
use Rattle.sw_view_facts.specs.Memory.{coloured_more}
use Rattle.sw_view_facts.specs.Views.{Colours, annotated, frame_at, here_at, isolation_by, on_actor}
use Rattle.sw_view_facts.specs.Views.{over, shape_with, stands_on, state_with, view_of}
use Rattle.sw_view_facts.proofs.EffectLemmas.{over_other}
use Rattle.sw_view_facts.proofs.SpawnLemmas.{job_spawns, shape_after}
use Rattle.sw_view_facts.proofs.TakenLemmas.{untracked_shows}
use Rattle.sw_late_facts.specs.Late.{goes_away}
use Rattle.sw_secure_facts.specs.Painting.{PaintsTask, actor_on, begun_here, handed}
use Rattle.sw_secure_facts.specs.Painting.{joined_by_task, passed, with_job}
use Rattle.sw_secure_facts.proofs.Recoloured.{have_recoloured, heres_recoloured, reached_was}
use Rattle.sw_secure_facts.proofs.Uniting.{joined_become, others_stay, united_colour}
use Rattle.sw_secure_job_facts.proofs.Captured.{first_in, later_in}
use Rattle.sw_secure_job_facts.proofs.Carried.{given_held, ours, sent, value_passed}
use Rattle.sw_secure_job_facts.proofs.Entry.{BeginsLent, holds_given, holds_together}
use Rattle.sw_secure_job_facts.proofs.Handing.{handed_actor, handed_colour, handed_given}
use Rattle.sw_secure_job_facts.proofs.Handing.{handed_heir}
use Rattle.sw_secure_job_facts.proofs.Making.{MakesTask, apart, body, here, shares_or_sends}
use Rattle.sw_secure_job_facts.proofs.Rows.{or_same}
use Rattle.sw_secure_job_facts.proofs.TaskColours.{none_made, regions, renamed, renamed_actor}
use Rattle.sw_secure_job_facts.proofs.TaskColours.{renewed}
use Rattle.sw_secure_job_facts.proofs.TaskColours.{renewed_sound}
use Rattle.sw_secure_job_facts.proofs.TaskEntry.{entry, function_is, lent, value_kind}
use Rattle.sw_secure_job_facts.proofs.TaskPaints.{begun, carried_later, carried_to, not_made}

module _ (graph : Graph) (states : ℕ → List (Option Regions)) (state : State) (colours : Colours)
    (q : Spot) (job : Job) (f : Frame) (function : Function) (r : ℕ) (frame : Frame)
    (m : MakesTask graph states state colours q job f function r frame) (number : ℕ)
    (after : Colours)
    (u : PaintsTask state colours q.job (length state.jobs) number f frame
    (with_job (begun graph states state colours q job f function r frame m number)
    (coloured_more None colours)) after) where
  abbrev made : ℕ
  made = length state.jobs

  abbrev first : Colour
  first = begun graph states state colours q job f function r frame m number

  abbrev run_body : Function
  run_body = body graph states state colours q job f function r frame m

  differs : q.job ≢ made
  differs = not_made graph states state colours q job f function r frame m number

  abbrev changed : Colour → Colour
  changed = renamed graph states state colours q job f function r frame m number after u

  abbrev later : Colours
  later = renewed graph states state colours q job f function r frame m number after u

  -- the colour of the new frame's `Here`
  abbrev pub own : Colour
  own = changed first

  abbrev pub more_jobs : State
  more_jobs = add_job (new_job (frame ∷ [])) state

  abbrev pub more_heres : Colours
  more_heres = with_job own later

  abbrev c : Regions
  c = (here graph states state colours q job f function r frame m).c

  abbrev pub more_regions : Spot → Option Regions
  more_regions = over (annotated states more_jobs) q c

  abbrev old : View
  old = view_of graph
      (regions graph states state colours q job f function r frame m number after u) state later

  abbrev new : View
  new = view_of graph more_regions more_jobs more_heres

  sound : IsSound old
  sound = renewed_sound graph states state colours q job f function r frame m number after u

  -- ---- the other jobs
  job_other : (i : ℕ) → i < made → slice_get more_jobs.jobs i ≡ slice_get state.jobs i
  unfolding add_job
  job_other i inside = slice_get_first state.jobs (new_job (frame ∷ []) ∷ []) i inside

  annotated_other : (p : Spot) → p.job < made
      → annotated states more_jobs p ≡ annotated states state p
  annotated_other p inside =
      ap (λ o. state_with states (option_and_then (λ (k : Job). slice_get k.frames p.depth) o))
      (job_other p.job inside)

  rows : length later.heres ≡ made
  rows = (heres_recoloured graph state changed colours
      (renamed_actor graph states state colours q job f function r frame m number after u)
      m.secure.heres).jobs

  heres_other : (p : Spot) → p.job < made → here_at more_heres p ≡ here_at later p
  heres_other p inside = ap (λ (row : List Colour). slice_index_or row p.depth (OfJob p.job 0))
      (or_same (later.heres ++ (own ∷ []) ∷ []) later.heres p.job []
      (slice_get_first later.heres ((own ∷ []) ∷ []) p.job (let n = rows in omega (
        arith,
        n,
        inside,
      ))))

  regions_other : (p : Spot) → p.job < made → more_regions p
      ≡ regions graph states state colours q job f function r frame m number after u p
  regions_other p inside = ap (λ o. cond ((p.job == q.job) && (p.depth == q.depth)) (Some c) o)
      (annotated_other p inside)

  -- ---- the new one
  there : frame_at more_jobs (bottom made) ≡ Some frame
  unfolding add_job new_job
  there = ap (option_and_then (λ (k : Job). slice_get k.frames zero))
      (slice_get_end state.jobs (new_job (frame ∷ [])))

  here_is : here_at more_heres (bottom made) ≡ own
  here_is = ap (λ (row : List Colour). slice_index_or row zero (OfJob made 0))
      (get_or_from_slice_get (later.heres ++ (own ∷ []) ∷ []) made (own ∷ []) []
      (ap (slice_get (later.heres ++ (own ∷ []) ∷ [])) (sym rows)
      ∙ slice_get_end later.heres (own ∷ [])))

  not_q : bottom made ≢ q
  not_q same = differs (ap (λ (p : Spot). p.job) (sym same))

  abbrev e : Regions
  e = (entry graph states state colours q job f function r frame m).0

  begins : BeginsLent graph more_regions more_jobs more_heres (bottom made) frame run_body m.values
      e
  unfolding add_job
  begins = record {
    there = there;
    is = function_is graph states state colours q job f function r frame m;
    regs = m.begun.regs;
    stands = over_other (annotated states more_jobs) q c (bottom made) not_q
        ∙ ap (state_with states) there
        ∙ (entry graph states state colours q job f function r frame m).1;
    with_here = λ k x v at is. lent_here graph run_body (states m.number)
        (m.secure.coloured.annotates m.number run_body m.begun.is) e
        (entry graph states state colours q job f function r frame m).2 k x
        (lent graph states state colours q job f function r frame m k v at) is;
    bare = λ k v d at none has.
        let kind = value_kind graph states state colours q job f function r frame m k v at in
        let s = m.secure.coloured in
        untracked_shows graph (conformances_hold graph s.clean) s.kinded.world state later
        (colours_fit graph s.clean state s.kinded later.cells
        (have_recoloured graph state changed colours
        (renamed_actor graph states state colours q job f function r frame m number after u)
        s.have))
        run_body k kind.0 v d none kind.1 kind.2 has;
  }

  -- ---- what it holds
  abbrev united_there : Colour → Colour
  united_there = united_colour made u.unites.numbers u.unites.kept

  abbrev passed_later : List Colour
  passed_later = passed state (handed q.job made u.given colours) [] frame.regs

  joined_is : goes_away f.executor frame.executor ≡ false
      → joined_by_task state (handed q.job made u.given colours) made number f frame
      ≡ first ∷ passed_later
  joined_is stays = ap (λ b. cond b [] (first ∷ passed_later)) stays

  joins : goes_away f.executor frame.executor ≡ false → (d : Colour)
      → Contains (first ∷ passed_later) d → united_there d ≡ u.unites.kept
  joins stays d has = joined_become made
      (joined_by_task state (handed q.job made u.given colours) made number f frame)
      (handed q.job made u.given (with_job first (coloured_more None colours))) after u.unites d
      (subst (λ l. Contains l d) (sym (joined_is stays)) has)

  first_stays : handed_colour q.job made u.given first ≡ first
  first_stays = by (actor_on frame.executor) where
    by : (o : Option Actor) → handed_colour q.job made u.given (begun_here o made number)
        ≡ begun_here o made number
    by None = handed_heir q.job made u.given number differs
    by (Some owner) = handed_actor q.job made u.given owner

  own_kept : goes_away f.executor frame.executor ≡ false → own ≡ u.unites.kept
  own_kept stays = ap united_there first_stays ∙ joins stays first (first_in first passed_later)

  -- what was passed, renamed
  held_one : (old_colour : Colour)
      → Contains (passed state colours [] frame.regs) old_colour
      → (own ≡ changed old_colour) ⊎ IsDisconnected old made (changed old_colour)
  held_one d has = by (goes_away f.executor frame.executor) refl where
    nothing_joins : goes_away f.executor frame.executor ≡ true → (n : ℕ)
        → Contains u.unites.numbers n → ⊥
    nothing_joins away n among =
        none_in (OfJob made n) (subst (λ l. Contains l (OfJob made n))
        (ap (λ b. cond b [] (first ∷ passed_later)) away) (u.unites.only n among))

    of_job : (away : goes_away f.executor frame.executor ≡ true)
        → (n : ℕ) × (d ≡ OfJob q.job n) → IsDisconnected old made (changed d)
    of_job away (n, is) = elim (u.gives d has) [
      | inl (owner, actors) ↦
          let clash : OfActor owner ≡ OfJob q.job n = sym actors ∙ is in absurd (let z : ⊥ = cc in
          z)
      | inr (k, given, mine) ↦
          let now : changed d ≡ OfJob made k =
          ap united_there (ap (handed_colour q.job made u.given) mine
          ∙ handed_given q.job made u.given k differs given)
          ∙ others_stay made u.unites.numbers u.unites.kept (OfJob made k)
          (λ i among same. nothing_joins away i among) in
          record {
            number = k;
            owner = now;
            unheld = subst (λ x. IsUnheld old x) (sym now)
                (none_made graph states state colours q job f function r frame m number after u
                later sound k);
          }
    ]

    by : (b : Bool) → goes_away f.executor frame.executor ≡ b
        → (own ≡ changed d) ⊎ IsDisconnected old made (changed d)
    by false stays = inl (own_kept stays ∙ sym (joins stays (handed_colour q.job made u.given d)
        (later_in first passed_later (handed_colour q.job made u.given d)
        (carried_to graph states state colours q job f function r frame m number u.given d has))))
    by true away = elim (shares_or_sends graph states state colours q job f function r frame m) [
      | inl shares ↦
          let clash : true ≡ false = sym away ∙ shares.stays in absurd (let z : ⊥ = cc in z)
      | inr sends ↦ inr (of_job away
          (sent graph states state colours q job f function r frame m sends d
          (given_held graph states state colours q job f function r frame m d has)))
    ]

  held : (y : Element) (d : Colour) → HoldsLive new (bottom made) y d
      → (here_at more_heres (bottom made) ≡ d) ⊎ IsDisconnected old made d
  unfolding add_job
  held y d holds = elim (holds_given graph more_regions more_jobs more_heres (bottom made) frame
      run_body m.values e begins y d holds) [
        | inl same ↦ inl same
        | inr (v, among, has) ↦
            let was = reached_was graph state changed colours
            (renamed_actor graph states state colours q job f function r frame m number after u) v d
            has in
            elim (held_one was.0 (value_passed graph states state colours q job f function r frame m
            v among was.0 was.1)) [
              | inl same ↦ inl (here_is ∙ same ∙ was.2)
              | inr free ↦ inr (subst (IsDisconnected old made) was.2 free)
            ]
      ]

  -- ---- where it stands
  shape_is : new.shape (bottom made) ≡ shape_with graph None frame (Some run_body)
  shape_is = shape_after graph more_regions state frame more_heres
      ∙ ap (shape_with graph None frame)
      (function_is graph states state colours q job f function r frame m)

  isolation_is : (i : Iso) → run_body.iso ≡ i
      → (new.shape (bottom made)).isolation
      ≡ isolation_by i (registers (length run_body.regs) m.values)
  isolation_is i same =
      ap (λ (s : FrameShape). s.isolation) shape_is
      ∙ ap (λ b. cond b MakesActor (isolation_by run_body.iso frame.regs))
      (apart graph states state colours q job f function r frame m).1.actor
      ∙ ap (λ k. isolation_by k frame.regs) same ∙ ap (isolation_by i) m.begun.regs

  executor_is : (new.shape (bottom made)).executor ≡ stands_on frame.executor
  executor_is = ap (λ (s : FrameShape). s.executor) shape_is

  -- on an actor
  on_some : (owner : Actor) → actor_on frame.executor ≡ Some owner
      → (new.shape (bottom made)).isolation ≡ IsolatedTo owner
      → stands_on frame.executor ≡ On owner → IsOnActor new (bottom made) owner
  on_some owner is isolation stands = record {
    isolation = isolation;
    executor = executor_is ∙ stands;
    here = here_is ∙ ap (λ o. changed (begun_here o made number)) is
        ∙ renamed_actor graph states state colours q job f function r frame m number after u owner;
  }

  -- on none: its `Here` is one of what joins it, and so the job's
  on_none : frame.executor ≡ executor.Generic → (n : ℕ) × (own ≡ OfJob made n)
  on_none generic = by
      (first_or_later first passed_later u.unites.kept
      (subst (λ l. Contains l u.unites.kept) (joined_is stays)
      (u.unites.among first (subst (λ l. Contains l first) (sym (joined_is stays))
      (first_in first passed_later)))))
    where
      stays : goes_away f.executor frame.executor ≡ false
      stays = ap (goes_away f.executor) generic

      by : (first ≡ u.unites.kept) ⊎ Contains passed_later u.unites.kept
          → (n : ℕ) × (own ≡ OfJob made n)
      by (inl same) = (
        number,
        own_kept stays ∙ sym same
            ∙ ap (λ x. begun_here (actor_on x) made number) generic,
      )
      by (inr there) =
          let was = carried_later graph states state colours q job f function r frame m number
          u.given u.unites.kept there in
          elim (u.gives was.0 was.1) [
            | inl (owner, actors) ↦
                elim (ours graph states state colours q job f function r frame m was.0 was.1) [
                  | inl (other, on, is) ↦
                      let clash : None ≡ Some other = sym (ap actor_on generic) ∙ on in
                      absurd (let z : ⊥ = cc in z)
                  | inr (n, is) ↦
                      let clash : OfActor owner ≡ OfJob q.job n = sym actors ∙ is in
                      absurd (let z : ⊥ = cc in z)
                ]
            | inr (n, given, is) ↦ (
              n,
              own_kept stays ∙ sym was.2
                  ∙ ap (handed_colour q.job made u.given) is
                  ∙ handed_given q.job made u.given n differs given,
            )
          ]

  stands : ((owner : Actor) × IsOnActor new (bottom made) owner) ⊎ IsOnNone new (bottom made)
  stands = by run_body.iso refl m.begun.executor where
    named : (c : Option ℕ)
        → option_and_then reference_of (value_at (registers (length run_body.regs) m.values) 0) ≡ c
        → option_map executor.ActorOf c ≡ Some frame.executor → run_body.iso ≡ iso.Own
        → ((owner : Actor) × IsOnActor new (bottom made) owner) ⊎ IsOnNone new (bottom made)
    named None refers is task = absurd (let z : ⊥ = cc in z)
    named (Some n) refers is task =
        let on : executor.ActorOf n ≡ frame.executor = some_injective is in
        inl (
          Instance n,
          on_some (Instance n) (ap actor_on (sym on))
              (isolation_is iso.Own task ∙ ap on_actor refers) (ap stands_on (sym on)),
        )

    by : (i : Iso) → run_body.iso ≡ i
        → executor_of i (registers (length run_body.regs) m.values) ≡ Some frame.executor
        → ((owner : Actor) × IsOnActor new (bottom made) owner) ⊎ IsOnNone new (bottom made)
    by iso.Free task is =
        let on : executor.Generic ≡ frame.executor = some_injective is in
        let none = on_none (sym on) in
        inr (record {
          isolation = isolation_is iso.Free task;
          executor = executor_is ∙ ap stands_on (sym on);
          here = (none.0, here_is ∙ none.1);
        })
    by (iso.Global g) task is =
        let on : executor.Global g ≡ frame.executor = some_injective is in
        inl (
          GlobalActor g,
          on_some (GlobalActor g) (ap actor_on (sym on))
              (isolation_is (iso.Global g) task) (ap stands_on (sym on)),
        )
    by iso.Own task is = named
        (option_and_then reference_of (value_at (registers (length run_body.regs) m.values) 0)) refl
        is task
    by iso.Caller task is =
        absurd ((apart graph states state colours q job f function r frame m).1.iso task)

  pub with_job_sound : IsSound new
  unfolding add_job
  with_job_sound = spawned old new made sound
      (job_spawns graph (regions graph states state colours q job f function r frame m number after
      u) more_regions state frame later more_heres refl heres_other regions_other
      (holds_together graph more_regions more_jobs more_heres (bottom made) frame run_body m.values
      e begins) held stands)
