-- A step that makes a task keeps the state secure.
use Rattle.std.specs.Option.{option_and_then}
use Rattle.std.specs.List.{slice_get}
use Rattle.std.proofs.Common.{◌≡◌, ◌+◌, ◌-◌, ℕ, zero, suc, true, false, IsTrue, Option, Some}
use Rattle.std.proofs.Common.{None, List, [], ◌∷◌, ◌++◌, length, Contains, refl, sym, subst, ap}
use Rattle.std.proofs.Common.{◌∙◌}
use Rattle.std.proofs.Common.{add-one, arith, inl, inr}
use Rattle.std.proofs.lemmas.List.{length-append}
use Rattle.std.proofs.lemmas.Option.{slice_get_within}
use Rattle.sw_list.proofs.ListLemmas.{some_injective}
use Rattle.sw_list.proofs.Members.{member_at, none_in}
use Rattle.sw_graph.specs.declared.function.Function.{Function}
use Rattle.sw_graph.specs.declared.graph.Graph.{Graph}
use Rattle.sw_graph.specs.Bodies.{has_self, is_own}
use Rattle.sw_graph.specs.Points.{Middle}
use Rattle.sw_graph.specs.Ways.{is_number, point_sets}
use Rattle.sw_value.specs.declared.cell.HeapCell.TheVariants.{TaskOf}
use Rattle.sw_value.specs.declared.effect.Effect.{Effect}
use Rattle.sw_value.specs.declared.effect.Effect.TheVariants as effect
use Rattle.sw_value.specs.declared.frame.Frame.{Frame}
use Rattle.sw_value.specs.declared.job.Job.{Job}
use Rattle.sw_value.specs.declared.job.Status.TheVariants.{Ready, Running}
use Rattle.sw_value.specs.declared.state.State.{State}
use Rattle.sw_value.specs.declared.value.Value.TheVariants as value
use Rattle.sw_value.specs.Frame.{finish_instr}
use Rattle.sw_value.specs.Job.{in_top, new_job}
use Rattle.sw_value.specs.Reach.{after_effect, step_of}
use Rattle.sw_value.specs.State.{add_cell, add_job, in_job}
use Rattle.sw_value.specs.Value.{operand_value, value_at}
use Rattle.sw_value.proofs.ListLemmas.{length-changed_at}
use Rattle.sw_partition.specs.Regions.{Regions}
use Rattle.sw_machine_kind_facts.specs.Standing.{awaited_in, or_above}
use Rattle.sw_machine_kind_facts.proofs.ItemLemmas.{at_end}
use Rattle.sw_owner_facts.specs.Colours.{Actor, Colour, OfActor}
use Rattle.sw_owner_facts.specs.View.{Frame as Spot}
use Rattle.sw_region_facts.proofs.Comes.{sets_weaker}
use Rattle.sw_reach_facts.specs.Coloured.{HaveColours}
use Rattle.sw_reach_facts.specs.Named.{NamesCells}
use Rattle.sw_reach_facts.specs.Reached.{colours_of}
use Rattle.sw_view_facts.specs.Changes.{KeepsReach, KeepsShape}
use Rattle.sw_view_facts.specs.Effects.{turn_of}
use Rattle.sw_view_facts.specs.Executing.{Executes}
use Rattle.sw_view_facts.specs.Memory.{RegistersName, coloured_more}
use Rattle.sw_view_facts.specs.Steps.{ChangesFrame}
use Rattle.sw_view_facts.specs.Views.{Colours, annotated, state_with}
use Rattle.sw_view_facts.proofs.EffectLemmas.{inside_changes, inside_keeps_shape, over_other}
use Rattle.sw_view_facts.proofs.EffectLemmas.{over_there, reach_added, step_is}
use Rattle.sw_view_facts.proofs.NewLemmas.{bare_shows, registers_name}
use Rattle.sw_view_facts.proofs.ShapeLemmas.{open_after}
use Rattle.sw_view_facts.proofs.SpawnLemmas.{top_after}
use Rattle.sw_view_facts.proofs.StepLemmas.{effect_sets}
use Rattle.sw_view_facts.proofs.ValueLemmas.{register_shows}
use Rattle.sw_store_facts.specs.Sound.{HasSoundView}
use Rattle.sw_store_facts.proofs.Getting.{no_maker}
use Rattle.sw_secure_facts.specs.Memory.{OwnsMemory}
use Rattle.sw_secure_facts.specs.Painting.{PaintsTask, with_job}
use Rattle.sw_secure_facts.specs.Secure.{HeresFit, IsSecure}
use Rattle.sw_secure_facts.proofs.Recoloured.{have_recoloured, heres_recoloured, memory_recoloured}
use Rattle.sw_secure_facts.proofs.Staying.{memory_stays}
use Rattle.sw_secure_job_facts.proofs.Captured.{of_each}
use Rattle.sw_secure_job_facts.proofs.Carried.{top_there}
use Rattle.sw_secure_job_facts.proofs.Changed.{heres_changed, job_was, waits_turned}
use Rattle.sw_view_facts.proofs.EntryLemmas.{given_value}
use Rattle.sw_secure_job_facts.proofs.Making.{MakesTask, elements, here, instr}
use Rattle.sw_secure_job_facts.proofs.Next.{IsIdle, WaitsAs, WaitsOn, secure_after, waits_itself}
use Rattle.sw_secure_job_facts.proofs.Rows.{memory_uncoloured}
use Rattle.sw_secure_job_facts.proofs.TaskCell.{have_task, memory_task}
use Rattle.sw_secure_job_facts.proofs.TaskColours.{after_is, renamed, renamed_actor, renewed}
use Rattle.sw_secure_job_facts.proofs.TaskJobs.{more_heres, more_jobs, more_regions, own}
use Rattle.sw_secure_job_facts.proofs.TaskJobs.{with_job_sound}
use Rattle.sw_secure_job_facts.proofs.TaskPaints.{begun}

module _ (graph : Graph) (states : ℕ → List (Option Regions)) (state : State) (colours : Colours)
    (q : Spot) (job : Job) (f : Frame) (function : Function) (r : ℕ) (frame : Frame)
    (m : MakesTask graph states state colours q job f function r frame) (number : ℕ)
    (after : Colours)
    (u : PaintsTask state colours q.job (length state.jobs) number f frame
    (with_job (begun graph states state colours q job f function r frame m number)
    (coloured_more None colours)) after) where
  abbrev made : ℕ
  made = length state.jobs

  abbrev next : State
  next = step_of graph state q.job

  abbrev changed : Colour → Colour
  changed = renamed graph states state colours q job f function r frame m number after u

  stay : (owner : Actor) → changed (OfActor owner) ≡ OfActor owner
  stay = renamed_actor graph states state colours q job f function r frame m number after u

  abbrev later : Colours
  later = renewed graph states state colours q job f function r frame m number after u

  -- the state with the job, and with the cell too
  abbrev jobs_more : State
  jobs_more = more_jobs graph states state colours q job f function r frame m number after u

  abbrev mid : State
  mid = add_cell (TaskOf made) jobs_more

  abbrev heres_more : Colours
  heres_more = more_heres graph states state colours q job f function r frame m number after u

  abbrev painted : Colours
  painted = coloured_more None heres_more

  abbrev own_here : Colour
  own_here = own graph states state colours q job f function r frame m number after u

  -- the effect there
  abbrev e : Effect
  e = effect.New r (TaskOf made) (length state.cells) (f.point + 1)

  abbrev turned : Job → Job
  turned = in_top (finish_instr r (value.Cell (length state.cells)) (f.point + 1))

  steps : next ≡ after_effect q.job e jobs_more
  steps = step_is graph state q job f function
      (Middle (instr graph states state colours q job f function r frame m))
      (effect.Spawn r frame made (length state.cells) (f.point + 1)) m.stands m.gives refl

  steps_mid : next ≡ in_job turned q.job mid
  steps_mid = steps

  -- ---- the view
  abbrev c : Regions
  c = (here graph states state colours q job f function r frame m).c

  abbrev regions_more : Spot → Option Regions
  regions_more = more_regions graph states state colours q job f function r frame m number after u

  changes : ChangesFrame jobs_more next q f (turn_of e f)
  changes = subst (λ s. ChangesFrame jobs_more s q f (turn_of e f)) (sym steps)
      (inside_changes jobs_more q job f (top_after state frame q job f m.stands.top) e refl)

  behind : annotated states next q ≡ Some c
  unfolding finish_instr
  behind = ap (state_with states) changes.now
      ∙ (here graph states state colours q job f function r frame m).behind

  counts : length later.cells ≡ length state.cells
  counts = (memory_recoloured graph state changed colours stay m.secure.memory).count

  named : RegistersName jobs_more
  unfolding add_job new_job
  named p h s v at has = by (slice_get jobs_more.jobs p.job) refl at where
    known : RegistersName state
    known = registers_name graph state m.secure.coloured.kinded

    of_new : h ≡ frame → NamesCells state.cells v
    of_new same =
        let there = given_value (length m.begun.function.regs) m.values s v
        (sym (ap (λ l. value_at l s) m.begun.regs)
        ∙ ap (λ (k : Frame). value_at k.regs s) (sym same) ∙ has) in
        let from = of_each (operand_value f.regs) m.captures m.values v m.have
        (member_at m.values s v there) in
        known q f from.0.reg v (top_there graph states state colours q job f function r frame m)
        from.2

    last_frame : (d : ℕ) → slice_get (frame ∷ []) d ≡ Some h → h ≡ frame
    last_frame zero is = sym (some_injective is)
    last_frame (suc d) is = cc

    by : (o : Option Job) → slice_get jobs_more.jobs p.job ≡ o
        → option_and_then (λ (k : Job). slice_get k.frames p.depth) o ≡ Some h
        → NamesCells state.cells v
    by None is at = cc
    by (Some k) is at = elim (at_end state.jobs (new_job (frame ∷ [])) k p.job is) [
      | inl before ↦ known p h s v
          (ap (option_and_then (λ (k : Job). slice_get k.frames p.depth)) before ∙ at) has
      | inr (place, new) ↦ of_new (last_frame p.depth
          (sym (ap (λ (k : Job). slice_get k.frames p.depth) new) ∙ at))
    ]

  reach : KeepsReach jobs_more next heres_more painted
  unfolding add_job
  reach = subst (λ s. KeepsReach jobs_more s heres_more painted) (sym steps)
      (reach_added jobs_more heres_more q.job r (TaskOf made) (length state.cells) (f.point + 1)
      None
      counts named)

  executes : Executes graph states jobs_more next q f function e regions_more
      (annotated states next) heres_more painted c c
  executes = record {
    job = job;
    top = top_after state frame q job f m.stands.top;
    is = m.stands.is;
    steps = steps;
    inside = refl;
    before = over_there (annotated states jobs_more) q c;
    behind = behind;
    elsewhere = λ p differ. over_other (annotated states jobs_more) q c p differ;
    others = λ p differ. refl;
    heres = λ p. refl;
    reach = reach;
  }

  -- its own `self` stays, since no instruction sets it
  shape : KeepsShape graph f (turn_of e f)
  shape = inside_keeps_shape graph state q job f function
      (Middle (instr graph states state colours q job f function r frame m)) m.stands e
      (f.point + 1) refl refl
      (open_after graph function f.point
      (Middle (instr graph states state colours q job f function r frame m)) m.stands.here
      (no_maker (is_own function.iso)))
      (λ self sets. stays self sets)
    where
      stays : IsTrue (has_self function) → Some r ≡ Some 0 → ⊥
      stays self sets =
          let never = (m.secure.coloured.clean.placed.selves f.function function m.stands.is
          self).stays f.point in
          let is_set : point_sets 0 (Some (Middle
          (instr graph states state colours q job f function r frame m))) ≡ true =
          ap (is_number 0) sets in
          let clash : true ≡ false = sym is_set ∙ sym (ap (point_sets 0) m.stands.here) ∙ never in
          cc

  cells : next.cells ≡ state.cells ++ TaskOf made ∷ []
  unfolding in_job add_cell add_job
  cells = ap (λ (s : State). s.cells) steps_mid

  globals : next.globals ≡ state.globals
  unfolding in_job add_cell add_job
  globals = ap (λ (s : State). s.globals) steps_mid

  sound : HasSoundView graph states next painted
  sound = effect_sets graph states jobs_more next q f function e regions_more
      (annotated states next) heres_more painted c c executes shape r [] refl
      (sets_weaker (elements graph states state colours q job f function r frame m) r c c
      (record { together = λ x y same. same; live = λ x live. live }))
      (λ colour in_r. absurd (bare colour (register_shows next painted f e r
      (value.Cell (length state.cells)) colour refl refl in_r)))
      (with_job_sound graph states state colours q job f function r frame m number after u)
    where
      bare : (colour : Colour)
          → Contains (colours_of next.cells painted.cells (value.Cell (length state.cells))) colour
          → ⊥
      bare colour has = none_in colour (subst (λ l. Contains l colour)
          (ap (λ cs. colours_of cs painted.cells (value.Cell (length state.cells))) cells
          ∙ bare_shows state.cells later.cells (TaskOf made) counts
          (λ k captures is. let z : ⊥ = cc in z)) has)

  -- ---- the rest of the state
  abbrev celled : State
  celled = add_cell (TaskOf made) state

  memory : OwnsMemory graph next painted
  unfolding add_cell
  memory = memory_stays graph painted celled next cells globals
      (memory_uncoloured graph celled (coloured_more None later) painted refl
      (memory_task graph state m.secure.coloured.kinded later made
      (memory_recoloured graph state changed colours stay m.secure.memory)))

  have : HaveColours graph next.cells painted.cells
  unfolding add_cell
  have = subst (λ cs. HaveColours graph cs painted.cells) (sym cells)
      (have_task graph state m.secure.coloured.kinded later made
      (have_recoloured graph state changed colours stay m.secure.coloured.have))

  mid_job : slice_get mid.jobs q.job ≡ Some job
  unfolding add_cell
  mid_job = (top_after state frame q job f m.stands.top).there

  heres_mid : HeresFit mid painted
  unfolding add_cell add_job new_job
  heres_mid =
      let fit = heres_recoloured graph state changed colours stay m.secure.heres in
      let rows = fit.jobs in
      record {
        jobs = (let one = length-append later.heres ((own_here ∷ []) ∷ []) in
            let two = length-append state.jobs (new_job (frame ∷ []) ∷ []) in
            omega (arith, one, two, rows));
        frames = λ j k row there has. elim (at_end state.jobs (new_job (frame ∷ [])) k j there) [
          | inl before ↦ elim (at_end later.heres (own_here ∷ []) row j has) [
            | inl old ↦ fit.frames j k row before old
            | inr (place, last) ↦
                absurd (let inside = slice_get_within state.jobs j k before in
                omega (arith, inside, place, rows))
          ]
          | inr (place, new) ↦ elim (at_end later.heres (own_here ∷ []) row j has) [
            | inl old ↦
                absurd (let inside = slice_get_within later.heres j row old in
                omega (arith, inside, place, rows))
            | inr (at, last) ↦ ap (λ (l : List Colour). length l) last
                ∙ sym (ap (λ (i : Job). length i.frames) new)
          ]
        ];
      }

  heres : HeresFit next painted
  unfolding in_top
  heres = heres_changed turned q.job mid next steps_mid job mid_job painted
      (length-changed_at (finish_instr r (value.Cell (length state.cells)) (f.point + 1))
      (length job.frames - 1) job.frames) heres_mid

  waits_job : WaitsAs job (turned job)
  unfolding finish_instr
  waits_job = waits_turned (finish_instr r (value.Cell (length state.cells)) (f.point + 1))
      (λ h. refl) (λ h. refl) job (ap awaited_in m.stands.running)

  idle : IsIdle (new_job (frame ∷ []))
  unfolding new_job
  idle = record {
    frames = λ i s h at waits. by i s (slice_get (frame ∷ []) (i + 1)) refl waits;
    status = λ on s is. cc;
  }
    where
      by : (i s : ℕ) (o : Option Frame) → slice_get (frame ∷ []) (i + 1) ≡ o
          → or_above o None ≡ Some s → ⊥
      by i s None at waits = cc
      by i s (Some t) at waits =
          let clash : None ≡ Some t = ap (slice_get (frame ∷ [])) (sym (add-one i)) ∙ at in cc

  not_new : job ≡ new_job (frame ∷ []) → ⊥
  unfolding new_job
  not_new same =
      let clash : Running ≡ Ready = sym m.stands.running ∙ ap (λ (k : Job). k.status) same in cc

  waits : WaitsOn state next
  unfolding add_cell add_job
  waits j now at =
      let old = job_was turned q.job mid next steps_mid job mid_job j now at in
      elim (at_end state.jobs (new_job (frame ∷ [])) old.0 j old.1) [
        | inl before ↦ inl (
          old.0,
          before,
          elim old.2 [
            | inl same ↦ subst (λ n. WaitsAs old.0 n) (sym same) (waits_itself old.0)
            | inr both ↦ subst (λ n. WaitsAs old.0 n) (sym both.1)
                (subst (λ k. WaitsAs k (turned job)) (sym both.0) waits_job)
          ],
        )
        | inr (place, new) ↦ elim old.2 [
          | inl same ↦ inr (subst IsIdle (sym (same ∙ new)) idle)
          | inr both ↦ absurd (not_new (sym both.0 ∙ new))
        ]
      ]

  pub task_stays : IsSecure graph states next after
  task_stays = subst (IsSecure graph states next)
      (sym (after_is graph states state colours q job f function r frame m number after u))
      (secure_after graph states state colours m.secure q.job painted have sound memory heres waits)
