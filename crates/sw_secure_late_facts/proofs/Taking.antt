-- What a task that goes away takes along, in the state after it was made.
use Rattle.std.proofs.Common.{◌≡◌, ◌≢◌, ◌⊎◌, ◌<◌, ℕ, suc, Bool, true, false, cond, Option, Some}
use Rattle.std.proofs.Common.{None, List, []}
use Rattle.std.proofs.Common.{◌∷◌, ◌++◌, length, Contains, refl, sym, subst, ap, ◌∙◌, arith, inl}
use Rattle.std.proofs.Common.{inr}
use Rattle.std.specs.List.{slice_get}
use Rattle.std.specs.Option.{option_map_or}
use Rattle.std.proofs.lemmas.List.Elements.{All-head, All-tail}
use Rattle.std.proofs.lemmas.Option.{slice_get_within}
use Rattle.sw_list.proofs.Members.{first_or_later, none_in}
use Rattle.sw_graph.specs.declared.function.Function.{Function}
use Rattle.sw_graph.specs.declared.graph.Graph.{Graph}
use Rattle.sw_graph.specs.Points.{Point}
use Rattle.sw_value.specs.declared.effect.Effect.TheVariants.{Spawn}
use Rattle.sw_value.specs.declared.frame.Frame.{Frame}
use Rattle.sw_value.specs.declared.job.Job.{Job}
use Rattle.sw_value.specs.declared.state.State.{State}
use Rattle.sw_value.specs.Job.{new_job, top_frame}
use Rattle.sw_value.specs.Reach.{after_effect, step_of}
use Rattle.sw_value.specs.State.{add_cell, add_job, in_job}
use Rattle.sw_value.specs.Value.{value_at}
use Rattle.sw_value.proofs.ListLemmas.{slice_get_end}
use Rattle.sw_solve.specs.Annotation as annotation
use Rattle.sw_machine_access_facts.proofs.CellLemmas.{changed_other}
use Rattle.sw_color_rules.specs.declared.colors.Colors.{Colors}
use Rattle.sw_color_rules.specs.declared.colors.Palette.{Palette}
use Rattle.sw_color_rules.specs.declared.plan.Plan.{Plan}
use Rattle.sw_color_rules.specs.Changes.{after_changes}
use Rattle.sw_color_rules.specs.Palette.{IsWhole, hand_over}
use Rattle.sw_color_rules.specs.Plans.{next_color, number_on, passed}
use Rattle.sw_color_rules.specs.Ranges.{AreBelow}
use Rattle.sw_partition.specs.Regions.{Regions}
use Rattle.sw_owner_facts.specs.Colours.{Colour, OfActor, OfJob}
use Rattle.sw_owner_facts.specs.View.{Element, Here, HoldsLive, InOneRegion, Register, bottom}
use Rattle.sw_owner_facts.specs.View.{Frame as Spot}
use Rattle.sw_owner_facts.proofs.FrameLemmas.{same_frame}
use Rattle.sw_view_facts.specs.Standing.{StandsAt}
use Rattle.sw_view_facts.specs.Views.{view_at}
use Rattle.sw_view_facts.proofs.EffectLemmas.{step_is}
use Rattle.sw_late_facts.specs.Hues.{hue}
use Rattle.sw_late_facts.specs.Late.{Late, givings, goes_away, late_by, later_of}
use Rattle.sw_late_facts.proofs.HueLemmas.{handed_goes, handed_stays}
use Rattle.sw_secure_facts.specs.Painting.{actor_on}
use Rattle.sw_secure_facts.specs.Secure.{IsSecure}
use Rattle.sw_secure_job_facts.proofs.Carried.{given_held, sent}
use Rattle.sw_view_facts.proofs.EntryLemmas.{given_value}
use Rattle.sw_secure_job_facts.proofs.Making.{MakesTask, shares_or_sends}
use Rattle.sw_secure_job_facts.proofs.TaskEntry as entry
use Rattle.sw_hue_facts.specs.Hued.{hued}
use Rattle.sw_hue_facts.proofs.Counts.{handed_count, handed_whole}
use Rattle.sw_hue_facts.proofs.Handing.{givings_are, hand_all}
use Rattle.sw_secure_late_facts.specs.LateSecure.{CargoFits, IsLateSecure}
use Rattle.sw_secure_late_facts.proofs.Beginning.{spawned_there}
use Rattle.sw_secure_late_facts.proofs.Handed.{all_stays}
use Rattle.sw_secure_late_facts.proofs.Joining.{base_of}
use Rattle.sw_secure_late_facts.proofs.Knowing.{shows}
use Rattle.sw_secure_late_facts.proofs.Lending.{IsNumbered, holds_by, lent_with_here, numbered_on}
use Rattle.sw_secure_late_facts.proofs.Numbers.{all_in}
use Rattle.sw_secure_late_facts.proofs.Plans.{Gives}
use Rattle.sw_secure_late_facts.proofs.Same.{in_hues}
use Rattle.sw_secure_late_facts.proofs.Showing.{passed_made, passed_shows}
use Rattle.sw_secure_late_facts.proofs.TaskBase.{TaskBase, task_plan}
use Rattle.sw_secure_late_facts.proofs.Tasked.{has, makes, task_joins}
use Rattle.sw_secure_late_facts.proofs.Tasks as task
use Rattle.sw_secure_late_facts.proofs.Turning.{PlanJoins, changed, hues_made, plan_renamed}

-- each of the job's colours that is handed over is the heir's
all_given : (job heir : ℕ) (ns : List ℕ) (p : Palette) → IsWhole p → AreBelow (length p.names) ns
    → (n l : ℕ) → Contains ns n → hue p n ≡ OfJob job l → hue (hand_all heir ns p) n ≡ OfJob heir l
all_given job heir [] p whole below n l has is = absurd (none_in n has)
all_given job heir (m ∷ ns) p whole below n l has is =
    by (handed_goes m heir p whole (All-head (λ k. k < length p.names) m ns below))
    (first_or_later m ns n has)
    (λ later was. all_given job heir ns (hand_over m heir p) (handed_whole m heir p whole)
    (subst (λ count. AreBelow count ns) (sym (handed_count m heir p))
    (All-tail (λ k. k < length p.names) m ns below)) n l later was)
  where
    inside : m < length p.names
    inside = All-head (λ k. k < length p.names) m ns below

    rest : AreBelow (length (hand_over m heir p).names) ns
    rest = subst (λ count. AreBelow count ns) (sym (handed_count m heir p))
        (All-tail (λ k. k < length p.names) m ns below)

    there : hue (hand_over m heir p) n ≡ OfJob heir l
        → hue (hand_all heir ns (hand_over m heir p)) n ≡ OfJob heir l
    there now = all_stays heir ns (hand_over m heir p) (handed_whole m heir p whole) rest n
        (OfJob heir l) (inr (l, refl)) now

    by : ((i number : ℕ) → hue p m ≡ OfJob i number → (k : ℕ)
        → (((hue p k ≡ OfJob i number) × (hue (hand_over m heir p) k ≡ OfJob heir number))
        ⊎ ((hue p k ≢ OfJob i number) × (hue (hand_over m heir p) k ≡ hue p k))))
        → (m ≡ n) ⊎ Contains ns n
        → (Contains ns n → hue (hand_over m heir p) n ≡ OfJob job l
        → hue (hand_all heir ns (hand_over m heir p)) n ≡ OfJob heir l)
        → hue (hand_all heir ns (hand_over m heir p)) n ≡ OfJob heir l
    by goes (inl same) further =
        let m_is : hue p m ≡ OfJob job l = ap (hue p) same ∙ is in
        elim (goes job l m_is n) [
          | inl now ↦ there now.1
          | inr stays ↦ absurd (stays.0 is)
        ]
    by goes (inr later) further = of_hue (hue p m) refl where
      of_hue : (c : Colour) → hue p m ≡ c
          → hue (hand_all heir ns (hand_over m heir p)) n ≡ OfJob heir l
      of_hue (OfActor a) m_is =
          further later (handed_stays m heir p whole a m_is n ∙ is)
      of_hue (OfJob i k) m_is = elim (goes i k m_is n) [
        | inl now ↦
            let same : OfJob job l ≡ OfJob i k = sym is ∙ now.0 in
            let number : k ≡ l = cc in
            there (now.1 ∙ ap (OfJob heir) number)
        | inr stays ↦ further later (stays.1 ∙ is)
      ]

module _ (graph : Graph) (states : ℕ → List (Option Regions)) (late : Late)
    (s : IsLateSecure graph states late) (q : Spot) (job : Job) (f : Frame) (function : Function)
    (point : Point) (stands : StandsAt graph late.state q job f function point) (r : ℕ)
    (frame : Frame) (cell next : ℕ) (gives : Gives graph states late s q job f function point stands
    (Spawn r frame (length late.state.jobs) cell next)) where
  abbrev colors : Colors
  colors = late.colors

  abbrev made : ℕ
  made = length late.state.jobs

  abbrev ns : List ℕ
  ns = passed colors.cells [] frame.regs

  abbrev plan : Plan
  plan = task_plan colors made (number_on colors frame.executor) ns

  abbrev m : MakesTask graph states late.state (hued colors) q job f function r frame
  m = makes graph states late s q job f function point stands r frame cell next gives

  abbrev body : Function
  body = m.begun.function

  abbrev later : State
  later = step_of graph late.state q.job

  stepped : later ≡ after_effect q.job (Spawn r frame made cell next) late.state
  stepped = step_is graph late.state q job f function point (Spawn r frame made cell next) stands
      gives refl

  there : slice_get later.jobs made ≡ Some (new_job (frame ∷ []))
  unfolding in_job add_job add_cell
  there = ap (λ (t : State). slice_get t.jobs made) stepped
      ∙ changed_other _ q.job made (late.state.jobs ++ new_job (frame ∷ []) ∷ [])
      (λ e. absurd (let inside = slice_get_within late.state.jobs q.job job stands.top.there in
      omega (arith, e, inside)))
      ∙ slice_get_end late.state.jobs (new_job (frame ∷ []))

  module _ (a : ℕ) (away : cond (goes_away f.executor frame.executor)
      (number_on colors frame.executor) None
      ≡ Some a) (after : Colors) (is_after : after ≡ after_changes (late_by q.job plan (Some a))
      colors)
      (secure : IsSecure graph states later (hued after)) where
    goes : goes_away f.executor frame.executor ≡ true
    goes = by (goes_away f.executor frame.executor) refl away where
      by : (b : Bool) → goes_away f.executor frame.executor ≡ b
          → cond b (number_on colors frame.executor) None ≡ Some a → goes_away f.executor
          frame.executor ≡ true
      by true is e = is
      by false is e = absurd (let clash : ⊥ = cc in clash)

    number : number_on colors frame.executor ≡ Some a
    number = sym (ap (λ b. cond b (number_on colors frame.executor) None) goes) ∙ away

    numbered : IsNumbered colors frame.executor a
    numbered = numbered_on colors frame.executor
        (has graph states late s q job f function point stands r frame cell next gives) a number

    joins : PlanJoins q.job colors plan (Some a)
    joins = task_joins graph states late s q job f function point stands r frame cell next gives
        (Some a)

    abbrev base : Colors
    base = base_of q.job plan colors

    abbrev t : TaskBase graph late.state.cells colors q.job made (actor_on frame.executor)
        (number_on colors frame.executor) ns
    t = task.t graph states late.state colors q job f function r frame m
        (shows graph states late s q job f function point stands) s.tints s.secure.memory.earlier
        (has graph states late s q job f function point stands r frame cell next gives)

    hue_actor : hue after.palette a ≡ OfActor numbered.actor
    hue_actor = ap (λ (c : Colors). hue c.palette a) is_after
        ∙ (plan_renamed q.job colors plan (Some a) joins s.whole).actors a numbered.actor
        (hues_made q.job plan colors s.whole a numbered.below ∙ numbered.hue_is)

    -- what it takes was the job's
    was_ours : (n : ℕ) → Contains ns n → (l : ℕ) × (hue colors.palette n ≡ OfJob q.job l)
    was_ours n among = elim (shares_or_sends graph states late.state (hued colors) q job f function
        r frame m) [
          | inl shares ↦ absurd (let clash : true ≡ false = sym goes ∙ shares.stays in
              let wrong : ⊥ = cc in wrong)
          | inr sends ↦ sent graph states late.state (hued colors) q job f function r frame m sends
              (hue colors.palette n) (given_held graph states late.state (hued colors) q job f
              function
              r frame m
              (hue colors.palette n)
              ((passed_shows late.state colors q (shows graph states late s q job f function point
              stands) []
              frame.regs).to (hue colors.palette n) (in_hues colors.palette ns n among)))
        ]

    ns_below : AreBelow (next_color colors) ns
    ns_below = passed_made late.state colors q (shows graph states late s q job f function point
        stands) []
        frame.regs

    palette_is : after.palette ≡ hand_all made ns t.palette
    palette_is = ap (λ (c : Colors). c.palette)
        (is_after ∙ changed q.job colors plan (Some a) joins s.whole)
        ∙ ap (λ l. (after_changes (givings (Some made) (later_of l)) base).palette) t.joined
        ∙ ap (λ (c : Colors). c.palette) (givings_are made ns base)
        ∙ ap (λ (c : Colors). hand_all made ns c.palette) t.made

    -- and is the new job's
    now_its : (n : ℕ) → Contains ns n → (l : ℕ) × (hue after.palette n ≡ OfJob made l)
    now_its n among =
        let was = was_ours n among in
        let inside = all_in (λ k. k < next_color colors) ns n ns_below among in (
          was.0,
          ap (λ p. hue p n) palette_is
              ∙ all_given q.job made ns t.palette t.whole t.below n was.0 among
              (ap (λ (c : Colors). hue c.palette n) (sym t.made)
              ∙ hues_made q.job plan colors s.whole n inside ∙ was.1),
        )

    -- ---- what it holds
    at_bottom : (p : Spot) → p.job ≡ made → (x : Element) (c : Colour)
        → HoldsLive (view_at graph states later (hued after)) p x c → p.depth ≡ 0
    unfolding new_job
    at_bottom p own x c h =
        let low : p.depth < 1 = subst (λ o. p.depth < option_map_or (λ (j : Job). length j.frames) o
        0)
        (ap (slice_get later.jobs) own ∙ there) h.frame in
        omega (arith, low)

    with_here : (x : Element) (c : Colour)
        → HoldsLive (view_at graph states later (hued after)) (bottom made) x c
        → InOneRegion (view_at graph states later (hued after)) (bottom made) x Here
    with_here Here c h = refl
    with_here (Register k) c h =
        let e = entry.entry graph states late.state (hued colors) q job f function r frame m in
        let at_entry = ap (λ n. annotation.value_at (states n) 0) m.begun.number_is ∙ e.2 in
        let is = entry.function_is graph states late.state (hued colors) q job f function r frame m
        in
        let spot = spawned_there graph late.state q job f function point stands r frame cell next
        gives in
        let v = holds_by graph states later (hued after) secure (bottom made) frame body e.0 spot is
        m.begun.point at_entry k c h.holds in
        lent_with_here graph states later (hued after) secure (bottom made) frame body e.0 spot is
        m.begun.point at_entry k c h.holds
        (entry.lent graph states late.state (hued colors) q job f function r frame m k v.0
        (given_value (length body.regs) m.values k v.0
        (ap (λ l. value_at l k) (sym m.begun.regs) ∙ v.1)))

    pub task_takes : CargoFits graph states later after
        (record { job = made; actor = a; colors = later_of plan.joined })
    unfolding new_job top_frame
    task_takes = record {
      job = new_job (frame ∷ []);
      there = there;
      frame = frame;
      top = refl;
      entry = m.begun.point;
      entered = inl refl;
      actor = numbered.actor;
      on = numbered.is_on;
      is = hue_actor;
      owned = λ n among. now_its n (subst (λ l. Contains (later_of l) n) t.joined among);
      alone = λ n l among is p x own h.
          let low = at_bottom p own x (OfJob made l) h in
          let same : p ≡ bottom made = same_frame {p = p} {q = bottom made} own low in (
            ap suc (sym low),
            subst (λ z. InOneRegion (view_at graph states later (hued after)) z x Here) (sym same)
                (with_here x (OfJob made l)
                (subst (λ z. HoldsLive (view_at graph states later (hued after)) z x (OfJob made l))
                same h)),
          );
    }
