-- What the plan of a task comes to by hue.
use Rattle.std.proofs.Common.{◌≡◌, ◌≢◌, ◌⊎◌, ◌<◌, ℕ, Bool, true, false, cond, Option, Some, None}
use Rattle.std.proofs.Common.{List, [], ◌∷◌, ◌++◌}
use Rattle.std.proofs.Common.{length, Contains, refl, sym, subst, ap, ◌∙◌, arith, inl, inr}
use Rattle.std.proofs.lemmas.List.Elements.{All-cons}
use Rattle.std.proofs.lemmas.List.Sums.{fold-append}
use Rattle.std.proofs.lemmas.Option.{slice_get_within}
use Rattle.sw_list.proofs.Members.{first_or_later}
use Rattle.sw_graph.specs.declared.function.Function.{Function}
use Rattle.sw_graph.specs.declared.graph.Graph.{Graph}
use Rattle.sw_value.specs.declared.executor.Executor.{Executor}
use Rattle.sw_value.specs.declared.executor.Executor.TheVariants as executor
use Rattle.sw_value.specs.declared.frame.Frame.{Frame}
use Rattle.sw_value.specs.declared.job.Job.{Job}
use Rattle.sw_value.specs.declared.state.State.{State}
use Rattle.sw_value.specs.declared.value.Value.{Value}
use Rattle.sw_color_rules.specs.declared.colors.Colors.{Colors}
use Rattle.sw_color_rules.specs.declared.colors.Palette.{Palette}
use Rattle.sw_color_rules.specs.Changes.{after_change, after_changes, on_palette}
use Rattle.sw_color_rules.specs.Palette.{IsWhole}
use Rattle.sw_color_rules.specs.Plans as plans
use Rattle.sw_color_rules.specs.Plans.{makings, merges, next_color, number_on}
use Rattle.sw_color_rules.specs.Ranges.{AreBelow}
use Rattle.sw_color_rules.specs.Tints.{colors_in}
use Rattle.sw_partition.specs.Regions.{Regions}
use Rattle.sw_owner_facts.specs.Colours.{Actor as Owner, Colour, GlobalActor, Instance, OfActor}
use Rattle.sw_owner_facts.specs.Colours.{OfJob}
use Rattle.sw_owner_facts.specs.View.{Frame as Spot, bottom}
use Rattle.sw_late_facts.specs.Hues.{hue}
use Rattle.sw_late_facts.specs.Late.{givings, goes_away, late_by, later_of, merges_here}
use Rattle.sw_reach_facts.specs.Coloured.{CaptureEarlier}
use Rattle.sw_reach_facts.specs.Reached.{colours_of}
use Rattle.sw_view_facts.specs.Memory.{coloured_more}
use Rattle.sw_view_facts.specs.Views.{Colours}
use Rattle.sw_secure_facts.specs.Painting.{MayUnite, PaintsTask, Unites, actor_on, begun_here}
use Rattle.sw_secure_facts.specs.Painting.{handed, passed}
use Rattle.sw_secure_facts.specs.Painting.{with_job}
use Rattle.sw_secure_job_facts.proofs.Captured.{first_in}
use Rattle.sw_secure_job_facts.proofs.Carried.{ours}
use Rattle.sw_secure_job_facts.proofs.Handing.{handed_actor, handed_colour, handed_given}
use Rattle.sw_secure_job_facts.proofs.Making.{MakesTask}
use Rattle.sw_secure_job_facts.proofs.TaskPaints.{carried_later}
use Rattle.sw_hue_facts.specs.Hued.{SameColours, hued, hues_of}
use Rattle.sw_hue_facts.specs.Tinted.{TintsFit}
use Rattle.sw_hue_facts.proofs.Handing.{givings_are, givings_hand_over, hand_all}
use Rattle.sw_hue_facts.proofs.Retinted.{tints_handed}
use Rattle.sw_secure_late_facts.proofs.Begun.{HasNumber, begins_on}
use Rattle.sw_secure_late_facts.proofs.Handed.{IsTaken, all_count, all_stays, all_whole}
use Rattle.sw_secure_late_facts.proofs.Handed.{handed_same}
use Rattle.sw_secure_late_facts.proofs.Joining.{none_unite, numbers_unite}
use Rattle.sw_secure_late_facts.proofs.Reading.{value_reads}
use Rattle.sw_secure_late_facts.proofs.Same.{in_hues, may_unite_same, same_hues, same_more}
use Rattle.sw_secure_late_facts.proofs.Same.{same_refl}
use Rattle.sw_secure_late_facts.proofs.Same.{unites_same}
use Rattle.sw_secure_late_facts.proofs.Showing.{Shows, passed_made}
use Rattle.sw_secure_late_facts.proofs.TaskBase.{TaskBase, in_palette, task_base, task_hues}
use Rattle.sw_secure_late_facts.proofs.TaskBase.{task_more}
use Rattle.sw_secure_late_facts.proofs.TaskBase.{task_plan}

-- what a frame that begins is passed, where values read alike
passed_reads : (state : State) (colors : Colors)
    → ((v : Value) → SameColours (hues_of colors.palette (colors_in colors.cells v))
    (colours_of state.cells (hued colors).cells v)) → (regs : List (Option Value))
    → SameColours (hues_of colors.palette (plans.passed colors.cells [] regs))
    (passed state (hued colors) [] regs)
passed_reads state colors values [] = same_refl []
passed_reads state colors values (None ∷ regs) = same_refl []
passed_reads state colors values (Some v ∷ regs) =
    same_hues colors.palette (colors_in colors.cells v) (plans.passed colors.cells [] regs)
    (colours_of state.cells (hued colors).cells v) (passed state (hued colors) [] regs)
    (values v) (passed_reads state colors values regs)

-- whether a task goes away, and the number of its actor if it does
data Goes : Bool → Option ℕ → Type 0 where
  Away : (n : ℕ) → Goes true (Some n)
  Near : Goes false None

goes : (colors : Colors) (own other : Executor) → HasNumber colors other
    → Goes (goes_away own other) (cond (goes_away own other) (number_on colors other) None)
goes colors own executor.Generic has = Near
goes colors own (executor.ActorOf c) has = by (goes_away own (executor.ActorOf c)) where
  by : (b : Bool) → Goes b (cond b (number_on colors (executor.ActorOf c)) None)
  by true = let number = has (Instance c) refl in subst (Goes true) (sym number.1) (Away number.0)
  by false = Near
goes colors own (executor.Global g) has = by (goes_away own (executor.Global g)) where
  by : (b : Bool) → Goes b (cond b (number_on colors (executor.Global g)) None)
  by true = let number = has (GlobalActor g) refl in subst (Goes true) (sym number.1)
      (Away number.0)
  by false = Near

module _ (graph : Graph) (states : ℕ → List (Option Regions)) (state : State) (colors : Colors)
    (q : Spot) (job : Job) (f : Frame) (function : Function) (r : ℕ) (frame : Frame)
    (m : MakesTask graph states state (hued colors) q job f function r frame)
    (shows : Shows state colors q) (tints : TintsFit graph state.cells colors)
    (earlier : CaptureEarlier state.cells) (has : HasNumber colors frame.executor) where
  abbrev k : ℕ
  k = length state.jobs

  abbrev ns : List ℕ
  ns = plans.passed colors.cells [] frame.regs

  abbrev on : Option Owner
  on = actor_on frame.executor

  abbrev number : Option ℕ
  number = number_on colors frame.executor

  abbrev begun : Colour
  begun = begun_here on k (next_color colors)

  abbrev carried : List Colour
  carried = passed state (hued colors) [] frame.regs

  abbrev painted : Colours
  painted = with_job begun (coloured_more None (hued colors))

  apart : q.job ≢ k
  apart same = let inside = slice_get_within state.jobs q.job job m.stands.top.there in
      omega (arith, inside, same)

  begun_taken : IsTaken k begun
  begun_taken = by on where
    by : (o : Option Owner) → IsTaken k (begun_here o k (next_color colors))
    by None = inr (next_color colors, refl)
    by (Some a) = inl (a, refl)

  pub t : TaskBase graph state.cells colors q.job k on number ns
  t = task_base graph state.cells colors q.job k on number ns shows.whole shows.made tints
      (passed_made state colors q shows [] frame.regs) (begins_on colors frame.executor has)

  abbrev inner : Colors
  inner = in_palette colors t.palette

  abbrev more : Colors
  more = task_more colors t.palette t.first

  -- the palette after what is handed over
  abbrev later : Palette
  later = hand_all k ns t.palette

  more_is : hued more ≡ painted
  more_is = task_hues colors t.palette t.first
      ∙ ap (λ c. with_job c (coloured_more None (hued inner))) t.shows
      ∙ ap (λ cs. with_job begun (coloured_more None cs)) t.hues

  -- what is carried, by number
  carried_reads : SameColours (hues_of t.palette ns) carried
  carried_reads = subst (λ cs. SameColours (hues_of t.palette ns) (passed state cs [] frame.regs))
      t.hues
      (passed_reads state inner (value_reads graph state.cells inner t.tints earlier) frame.regs)

  pub own : (n : ℕ) → Contains ns n → ((a : Owner) × (hue t.palette n ≡ OfActor a))
      ⊎ ((l : ℕ) × (hue t.palette n ≡ OfJob q.job l))
  own n has = elim (ours graph states state (hued colors) q job f function r frame m
      (hue t.palette n)
      (carried_reads.to (hue t.palette n) (in_hues t.palette ns n has))) [
        | inl (owner, stands, is) ↦ inl (owner, is)
        | inr (l, is) ↦ inr (l, is)
      ]

  -- what is handed over, of the colours with the new cell and of those without
  record Handing (from : Colors) : Type 0 where
    given : List ℕ
    only : (n : ℕ) → Contains given n → Contains carried (OfJob q.job n)
    each : (n : ℕ) → Contains carried (OfJob q.job n) → Contains given n
    is : hued (on_palette (hand_all k ns) from) ≡ handed q.job k given (hued from)

  hands : (from : Colors) → from.palette ≡ t.palette → Handing from
  hands from same =
      let found = givings_hand_over q.job k ns from (subst IsWhole (sym same) t.whole)
      (subst (λ (p : Palette). AreBelow (length p.names) ns) (sym same) t.below)
      (λ n has. subst (λ (p : Palette). ((a : Owner) × (hue p n ≡ OfActor a))
      ⊎ ((l : ℕ) × (hue p n ≡ OfJob q.job l))) (sym same) (own n has)) in
      record {
        given = found.0;
        only = λ n has. carried_reads.to (OfJob q.job n)
            (subst (λ (p : Palette). Contains (hues_of p ns) (OfJob q.job n)) same (found.1 n has));
        each = λ n has. found.2 n (subst (λ (p : Palette). Contains (hues_of p ns) (OfJob q.job n))
            (sym same) (carried_reads.from (OfJob q.job n) has));
        is = ap hued (sym (givings_are k ns from)) ∙ found.3;
      }

  outer : Handing more
  outer = hands more refl

  within : Handing inner
  within = hands inner refl

  abbrev given : List ℕ
  given = outer.given

  -- what is carried, once it is handed over
  abbrev taken : List Colour
  taken = passed state (handed q.job k given (hued colors)) [] frame.regs

  within_is : hued (on_palette (hand_all k ns) inner) ≡ handed q.job k given (hued colors)
  within_is = within.is
      ∙ handed_same q.job k apart within.given given
      (λ n has. outer.each n (within.only n has)) (λ n has. within.each n (outer.only n has))
      (hued inner)
      ∙ ap (handed q.job k given) t.hues

  taken_reads : SameColours (hues_of later ns) taken
  taken_reads =
      subst (λ cs. SameColours (hues_of later ns) (passed state cs [] frame.regs)) within_is
      (passed_reads state (on_palette (hand_all k ns) inner)
      (value_reads graph state.cells (on_palette (hand_all k ns) inner)
      (subst (TintsFit graph state.cells) (givings_are k ns inner)
      (tints_handed graph state.cells k ns inner t.whole t.below t.tints)) earlier) frame.regs)

  first_stays : hue later t.first ≡ begun
  first_stays = all_stays k ns t.palette t.whole t.below t.first begun begun_taken t.shows

  all_reads : SameColours (hues_of later (t.first ∷ ns)) (begun ∷ taken)
  all_reads = same_more (hue later t.first) begun (hues_of later ns) taken first_stays taken_reads

  -- all of them but the actor's are the new job's
  may : MayUnite (bottom k) (begun ∷ taken)
  may = inr (
    begun,
    first_in begun taken,
    (λ d has. elim (first_or_later begun taken d has) [
      | inl same ↦ inl (sym same)
      | inr there ↦
          let old = carried_later graph states state (hued colors) q job f function r frame m
          (next_color colors) given d there in
          elim (ours graph states state (hued colors) q job f function r frame m old.0 old.1) [
            | inl (owner, stands, is) ↦ inl (sym old.2 ∙ ap (handed_colour q.job k given) is
                ∙ handed_actor q.job k given owner
                ∙ sym (ap (λ o. begun_here o k (next_color colors)) stands))
            | inr (n, is) ↦ inr (
              n,
              sym old.2 ∙ ap (handed_colour q.job k given) is
                  ∙ handed_given q.job k given n apart
                  (outer.each n (subst (λ c. Contains carried c) is old.1)),
            )
          ]
    ]),
    begun_taken,
  )

  -- so what is joined by number may become one
  pub joined_may : MayUnite (bottom k) (hues_of later (t.first ∷ ns))
  joined_may = may_unite_same (bottom k) (begun ∷ taken) (hues_of later (t.first ∷ ns))
      (record { to = all_reads.from; from = all_reads.to }) may

  abbrev end : Colors
  end = on_palette (hand_all k ns) more

  end_is : hued end ≡ handed q.job k given painted
  end_is = outer.is ∙ ap (handed q.job k given) more_is

  united : Unites k (begun ∷ taken) (hued end) (hued (after_changes (merges (t.first ∷ ns)) end))
  united = unites_same k (hues_of later (t.first ∷ ns)) (begun ∷ taken) (hued end)
      (hued (after_changes (merges (t.first ∷ ns)) end)) all_reads
      (numbers_unite (bottom k) (t.first ∷ ns) end (all_whole k ns t.palette t.whole)
      (subst (λ count. AreBelow count (t.first ∷ ns)) (sym (all_count k ns t.palette))
      (All-cons (λ n. n < length t.palette.names) t.first ns t.first_in t.below))
      (may_unite_same (bottom k) (begun ∷ taken) (hues_of later (t.first ∷ ns))
      (record { to = all_reads.from; from = all_reads.to }) may))

  changed : (to : Option ℕ) → after_changes (late_by q.job (task_plan colors k number ns) to) colors
      ≡ after_changes (merges_here to (t.first ∷ ns)) end
  changed to =
      ap (λ js. after_changes (makings q.job (task_plan colors k number ns)
      ++ (givings (Some k) (later_of js) ++ merges_here to js)) colors) t.joined
      ∙ fold-append after_change colors (makings q.job (task_plan colors k number ns))
      (givings (Some k) ns ++ merges_here to (t.first ∷ ns))
      ∙ ap (after_changes (givings (Some k) ns ++ merges_here to (t.first ∷ ns))) t.made
      ∙ fold-append after_change more (givings (Some k) ns) (merges_here to (t.first ∷ ns))
      ∙ ap (after_changes (merges_here to (t.first ∷ ns))) (givings_are k ns more)

  unites : (away : Bool) (to : Option ℕ) → Goes away to
      → Unites k (cond away [] (begun ∷ taken)) (handed q.job k given painted)
      (hued (after_changes (late_by q.job (task_plan colors k number ns) to) colors))
  unites _ _ (Away n) =
      subst (λ cs. Unites k [] cs (hued (after_changes (late_by q.job (task_plan colors k number ns)
      (Some n)) colors))) end_is
      (subst (λ (c : Colors). Unites k [] (hued end) (hued c)) (sym (changed (Some n)))
      (none_unite k (hued end)))
  unites _ _ Near =
      subst (λ cs. Unites k (begun ∷ taken) cs (hued (after_changes (late_by q.job
      (task_plan colors k number ns) None) colors))) end_is
      (subst (λ (c : Colors). Unites k (begun ∷ taken) (hued end) (hued c)) (sym (changed None))
      united)

  pub task_paints : PaintsTask state (hued colors) q.job k (next_color colors) f frame painted
      (hued (after_changes (late_by q.job (task_plan colors k number ns)
      (cond (goes_away f.executor frame.executor) number None)) colors))
  task_paints = record {
    given = given;
    gives = λ c has. elim (ours graph states state (hued colors) q job f function r frame m c has) [
      | inl (owner, stands, is) ↦ inl (owner, is)
      | inr (n, is) ↦ inr (n, outer.each n (subst (λ d. Contains carried d) is has), is)
    ];
    only = outer.only;
    unites = unites (goes_away f.executor frame.executor)
        (cond (goes_away f.executor frame.executor) number None)
        (goes colors f.executor frame.executor has);
  }
