-- Whose the colours are that the plan of an effect joins, and who takes them.
use Rattle.std.proofs.Common.{◌≡◌, ◌⊎◌, ◌<◌, ◌++◌, ℕ, suc, true, false, Option, Some, None, List}
use Rattle.std.proofs.Common.{[], ◌∷◌, length, map, Contains, refl, sym, subst, ap, ◌∙◌, arith}
use Rattle.std.proofs.Common.{inl, inr}
use Rattle.std.specs.List.{slice_get}
use Rattle.std.specs.Option.{option_and_then, option_map, option_map_or}
use Rattle.std.proofs.lemmas.List.{append-nil, length-map}
use Rattle.std.proofs.lemmas.Option.{slice_get-map, slice_get_within}
use Rattle.sw_list.proofs.ListLemmas.{some_injective}
use Rattle.sw_list.proofs.Members.{first_in, first_or_later, none_in}
use Rattle.sw_graph.specs.declared.function.Function.{Function}
use Rattle.sw_graph.specs.declared.graph.Graph.{Graph}
use Rattle.sw_graph.specs.Clean.{IsClean}
use Rattle.sw_graph.specs.Points.{Point}
use Rattle.sw_graph.specs.Supplied.{IsSupplied}
use Rattle.sw_value.specs.declared.cell.HeapCell.{HeapCell}
use Rattle.sw_value.specs.declared.cell.HeapCell.TheVariants.{Actor, BoxOf, Closure, Object}
use Rattle.sw_value.specs.declared.cell.HeapCell.TheVariants.{TaskOf}
use Rattle.sw_value.specs.declared.effect.Effect.{Effect}
use Rattle.sw_value.specs.declared.effect.Effect.TheVariants as effect
use Rattle.sw_value.specs.declared.frame.Frame.{Frame}
use Rattle.sw_value.specs.declared.job.Job.{Job}
use Rattle.sw_value.specs.declared.value.Value.{Value}
use Rattle.sw_value.proofs.ListLemmas.{changed_at_found, slice_get_end}
use Rattle.sw_machine_kind_facts.proofs.ItemLemmas.{found_within}
use Rattle.sw_color_rules.specs.declared.colored.Colored.{Colored}
use Rattle.sw_color_rules.specs.declared.colors.Colors.{Colors}
use Rattle.sw_color_rules.specs.declared.colors.Owner.{Owner}
use Rattle.sw_color_rules.specs.declared.colors.Owner.TheVariants as owner
use Rattle.sw_color_rules.specs.declared.colors.Tint.TheVariants.{Bare}
use Rattle.sw_color_rules.specs.declared.plan.FrameChange.TheVariants.{Begun, Pushed}
use Rattle.sw_color_rules.specs.declared.plan.Plan.{Plan}
use Rattle.sw_color_rules.specs.Changes.{after_changes, begin_heres, mark, push_here}
use Rattle.sw_color_rules.specs.Changes.{with_last}
use Rattle.sw_color_rules.specs.Machine.{changes_of, colored_reach, colored_step}
use Rattle.sw_color_rules.specs.Palette.{IsWhole}
use Rattle.sw_color_rules.specs.Plans as plans
use Rattle.sw_color_rules.specs.Plans.{begun_with, called_number, changes_by, effect_plan, handing}
use Rattle.sw_color_rules.specs.Plans.{makings, merges, next_color, number_on, plan_of, sending_of}
use Rattle.sw_color_rules.proofs.PaletteLemmas.{changes_whole}
use Rattle.sw_partition.specs.Regions.{Regions}
use Rattle.sw_owner_facts.specs.Colours.{Actor as Keeper, Colour, GlobalActor, Instance, OfActor}
use Rattle.sw_owner_facts.specs.Colours.{OfJob}
use Rattle.sw_owner_facts.specs.View.{above, bottom, HoldsLive, Frame as Spot}
use Rattle.sw_view_facts.specs.Memory.{coloured_more}
use Rattle.sw_view_facts.specs.Standing.{StandsAt}
use Rattle.sw_view_facts.specs.Views.{here_at, view_at}
use Rattle.sw_view_facts.proofs.TopLemmas.{frame_was}
use Rattle.sw_late_facts.specs.Alike.{job_of}
use Rattle.sw_late_facts.specs.Hues.{hue}
use Rattle.sw_late_facts.specs.Late.{carrier, destination_by, givings, late_by, later_of}
use Rattle.sw_late_facts.proofs.Cells.{changes_heres, handing_quiet, heres_after}
use Rattle.sw_late_facts.proofs.Cells.{heres_both, merges_quiet, quiet_both}
use Rattle.sw_secure_facts.specs.Executing.{is_of_values}
use Rattle.sw_secure_facts.specs.Painting.{called_on, joined_by}
use Rattle.sw_secure_facts.specs.Painting.{MayUnite, actor_on, cell_colour, joined_in_cell}
use Rattle.sw_secure_facts.specs.Painting.{reached_by_all}
use Rattle.sw_secure_cell_facts.proofs.Stays as makers
use Rattle.sw_hue_facts.specs.Hued.{hued}
use Rattle.sw_hue_facts.proofs.Made.{fresh_made}
use Rattle.sw_secure_job_facts.specs.Begins.{AreAnnotated}
use Rattle.sw_secure_job_facts.proofs.Carried.{ours}
use Rattle.sw_secure_job_facts.proofs.Effects.{SpawnsBy, spawns_from}
use Rattle.sw_secure_job_facts.proofs.Making.{MakesTask}
use Rattle.sw_secure_late_facts.specs.LateSecure.{IsLateSecure, taking_nothing}
use Rattle.sw_secure_late_facts.proofs.Acted.{plan_is}
use Rattle.sw_secure_late_facts.proofs.Begun.{BeginsOn, HasNumber, Nowhere, On, begins_on}
use Rattle.sw_secure_late_facts.proofs.Begun.{called_begins}
use Rattle.sw_secure_late_facts.proofs.Calling as calling
use Rattle.sw_secure_late_facts.proofs.Calls as calls
use Rattle.sw_secure_late_facts.proofs.Cells.{cell_fits}
use Rattle.sw_secure_late_facts.proofs.Joining.{PlanFits, base_of}
use Rattle.sw_secure_late_facts.proofs.Knowing.{executing, shows}
use Rattle.sw_secure_late_facts.proofs.Numbers.{all_in}
use Rattle.sw_secure_late_facts.proofs.Planned.{plan_joins}
use Rattle.sw_secure_late_facts.proofs.Plans.{Gives}
use Rattle.sw_secure_late_facts.proofs.Same.{in_hues}
use Rattle.sw_secure_late_facts.proofs.Showing.{Shows, passed_made, passed_shows}
use Rattle.sw_secure_late_facts.proofs.Tasked as tasked
use Rattle.sw_secure_late_facts.proofs.Turning.{PlanJoins, Renamed, hues_made, plan_renamed}
use Rattle.sw_secure_late_facts.proofs.Values.{value_fits}
use Rattle.sw_owned_facts.specs.Holding.{colour_with, here_number, owner_by}
use Rattle.sw_owned_facts.specs.Taking.{AtHere, ByActor, ByCall, ByTask, Does, IsTopOf, MayTake}
use Rattle.sw_owned_facts.specs.Taking.{OwnsHere, makes_owner}
use Rattle.sw_owned_facts.proofs.Frames.{here_coloured, here_has}
use Rattle.sw_owned_facts.proofs.Keeping.{keeps}
use Rattle.sw_owned_facts.proofs.Numbers.{IsKnown, actor_owns, is_actors, owner_as, owner_left}
use Rattle.sw_owned_facts.proofs.Owned.{colored_known}
use Rattle.sw_owned_facts.proofs.Passing.{IsOfCell, calls_held, cells_held}
use Rattle.sw_owned_facts.proofs.Sources.{AreHeld, IsHeld, values_held_at, values_of}

as_actor : (a : Keeper) → job_of (Some (owner_as a)) ≡ None
as_actor (Instance c) = refl
as_actor (GlobalActor g) = refl

-- without heir, and where nothing goes away, both colourings change alike
same_changes : (heir : Option ℕ) (ns : List ℕ) → heir ≡ None
    → merges ns ++ handing ns heir ≡ givings heir (later_of ns) ++ merges ns
same_changes None [] is = refl
same_changes None (a ∷ ns) is = append-nil (merges (a ∷ ns))
same_changes (Some k) ns is = absurd (let no : ⊥ = cc in no)

module _ (graph : Graph) (clean : IsClean graph) (supplied : IsSupplied graph)
    (states : ℕ → List (Option Regions)) (annotated : AreAnnotated graph states) (items : List ℕ)
    (q : Spot) (job : Job) (f : Frame) (function : Function) (point : Point)
    (stands : StandsAt graph (colored_reach graph items).state q job f function point) where
  abbrev pub before : Colored
  before = colored_reach graph items

  abbrev pub after : Colored
  after = colored_step graph (colored_reach graph items) q.job

  pub known : IsKnown graph states (colored_reach graph items)
  known = colored_known graph clean supplied states annotated items

  abbrev colors : Colors
  colors = before.colors

  abbrev pub late : IsLateSecure graph states (taking_nothing (colored_reach graph items))
  late = known.late

  abbrev number : ℕ
  number = next_color colors

  abbrev pub plan : Effect → Plan
  plan e = effect_plan graph (colored_reach graph items).colors q.job f point e

  abbrev pub base : Effect → Colors
  base e = base_of q.job (effect_plan graph (colored_reach graph items).colors q.job f point e)
      (colored_reach graph items).colors

  abbrev pub GivesIt : Effect → Type 0
  GivesIt e = Gives graph states (taking_nothing (colored_reach graph items)) known.late q job f
      function point stands e

  abbrev pub DoesIt : Effect → Type 0
  DoesIt e = Does graph (colored_reach graph items) q.job e

  abbrev Held : Colour → Type 0
  Held = IsHeld graph states before.state (hued before.colors) late.secure q job f function

  abbrev pub tinted : Effect → ℕ → Colour
  tinted e l = hue (base e).palette l

  -- what is an actor's is that actor's after the step
  abbrev pub IsKept : Effect → ℕ → Type 0
  IsKept e l = (a : Keeper) → hue (base e).palette l ≡ OfActor a
      → owner_by (colored_step graph (colored_reach graph items) q.job) l ≡ Some (owner_as a)

  abbrev pub Takes : Owner → Type 0
  Takes one = MayTake graph (colored_reach graph items) q.job one

  -- the effect makes the job with this number
  abbrev pub MakesJob : Effect → ℕ → Type 0
  MakesJob e k = (r : ℕ) × (frame : Frame) × (cell next : ℕ)
      × (e ≡ effect.Spawn r frame k cell next)

  -- Whose a colour is that the plan joins: it is the job's, or that of an actor that may take
  -- colours, or a new one of a new job.
  pub data Comes (e : Effect) (l : ℕ) : Type 0 where
    Own : (k : ℕ) → hue (base e).palette l ≡ OfJob q.job k → Comes e l
    OfTaker : (a : Keeper) → hue (base e).palette l ≡ OfActor a → IsKept e l → Takes (owner_as a)
        → Comes e l
    OfHeir : (k : ℕ) → hue (base e).palette l ≡ OfJob k (next_color (colored_reach graph
        items).colors) → MakesJob e k → Comes e l

  -- ---- the changes of the effect
  module _ (e : Effect) (gives : GivesIt e) (does : DoesIt e) where
    changes_are : changes_of graph before q.job ≡ changes_by q.job (plan e)
    unfolding changes_of
    changes_are =
        ap (λ o. option_map_or (λ act. changes_by q.job (plan_of graph before.state colors q.job
        act)) o []) does
        ∙ ap (changes_by q.job) (plan_is graph states (taking_nothing before) late q job f function
        point stands e)

    pub after_is : (colored_step graph (colored_reach graph items) q.job).colors
        ≡ after_changes (changes_by q.job (plan e)) (colored_reach graph items).colors
    unfolding colored_step
    after_is = ap (λ cs. after_changes cs colors) changes_are

    pub joins : PlanJoins q.job (colored_reach graph items).colors
        (effect_plan graph (colored_reach graph items).colors q.job f point e)
        (destination_by (colored_reach graph items).colors f point e)
    joins = plan_joins graph states (taking_nothing before) late q job f function point stands e
        gives

    pub base_whole : IsWhole (base e).palette
    base_whole = changes_whole (makings q.job (plan e)) colors late.whole

    -- an actor that was there keeps its colour
    low_kept : (l : ℕ) → l < number → IsKept e l
    low_kept l low a is = keeps graph clean supplied states annotated items q.job l (owner_as a)
        (as_actor a) (actor_owns colors.palette l a
        (sym (hues_made q.job (plan e) colors late.whole l low) ∙ is))

    -- and where nothing goes away, any does
    here_kept : (plan e).heir ≡ None → destination_by colors f point e ≡ None → (l : ℕ)
        → IsKept e l
    here_kept heir to l a is = actor_owns after.colors.palette l a
        (subst (λ (c : Colors). hue c.palette l ≡ OfActor a) (sym (after_is ∙ same)) (renamed.actors
        l a is))
      where
        same : after_changes (changes_by q.job (plan e)) colors
            ≡ after_changes (late_by q.job (plan e) None) colors
        same = ap (λ cs. after_changes (makings q.job (plan e) ++ cs) colors)
            (same_changes (plan e).heir (plan e).joined heir)

        renamed : Renamed q.job (carrier q.job (plan e).heir) (base e).palette
            (after_changes (late_by q.job (plan e) None) colors).palette
        renamed = plan_renamed q.job colors (plan e) None
            (subst (PlanJoins q.job colors (plan e)) to joins) late.whole

    -- what the top frame holds live is the job's, or that of the actor which owns `Here`
    held_comes : (l : ℕ) → IsKept e l → Held (tinted e l)
        → ((a : Keeper) → tinted e l ≡ OfActor a → here_at (hued colors) q ≡ OfActor a
        → Takes (owner_as a)) → Comes e l
    held_comes l kept held takes = by (tinted e l) refl where
      by : (c : Colour) → tinted e l ≡ c → Comes e l
      by (OfJob i k) is = Own k (is ∙ ap (λ j. OfJob j k) (late.secure.coloured.sound.owned.owned
          (subst (HoldsLive (view_at graph states before.state (hued colors)) q held.0) is held.1)))
      by (OfActor a) is = OfTaker a is kept (takes a is (late.secure.coloured.sound.owned.actors
          (subst (HoldsLive (view_at graph states before.state (hued colors)) q held.0) is held.1)))

    -- ---- the colours of `Here`
    heres_are : after.colors.heres ≡ heres_after (makings q.job (plan e)) colors.heres
    heres_are =
        ap (λ (c : Colors). c.heres) after_is
        ∙ changes_heres (changes_by q.job (plan e)) colors
        ∙ heres_both (makings q.job (plan e)) (merges (plan e).joined
        ++ handing (plan e).joined (plan e).heir) colors.heres
        ∙ (quiet_both (merges (plan e).joined) (handing (plan e).joined (plan e).heir)
        (merges_quiet (plan e).joined) (handing_quiet (plan e).joined (plan e).heir)).heres
        (heres_after (makings q.job (plan e)) colors.heres)

    owns_here : (p : Spot) (l : ℕ) (a : Keeper) → here_number after p ≡ Some l
        → owner_by after l ≡ Some (owner_as a) → OwnsHere after p (owner_as a)
    owns_here p l a at owned = record {
      actor = as_actor a;
      colour = colour_with after l;
      is = ap (option_map (colour_with after)) at;
      owned = owner_left after.colors.palette after_whole l ∙ owned;
    }
      where
        after_whole : IsWhole after.colors.palette
        after_whole = subst (λ (c : Colors). IsWhole c.palette) (sym after_is)
            (changes_whole (changes_by q.job (plan e)) colors late.whole)

  -- the job's top frame
  pub top : IsTopOf (colored_reach graph items).state q.job q
  top = record { own = refl; job = job; there = stands.top.there; top = stands.top.height }

  -- an actor that owns its `Here`
  takes_here : (e : Effect) → DoesIt e → makes_owner e ≡ false → (a : Keeper)
      → here_at (hued colors) q ≡ OfActor a → Takes (owner_as a)
  takes_here e does plain a is =
      let there = frame_was before.state q job f stands.top in
      let here = here_has graph states before known q f there in
      AtHere q e top does plain (record {
        actor = as_actor a;
        colour = colour_with before here.number;
        is = here_coloured graph states before known q f there;
        owned = is_actors graph states before known here.number (colour_with before here.number) a
            refl (sym here.is ∙ is);
      })

  -- ---- effects that make no cell, frame or job
  value_comes : (e : Effect) → GivesIt e → DoesIt e → is_of_values e ≡ true
      → makes_owner e ≡ false → destination_by colors f point e ≡ None
      → joined_by graph before.state (hued colors) q number f point e
      ≡ values_of graph states before.state (hued colors) late.secure q job f function number point
      e
      → (l : ℕ) → Contains (plan e).joined l → Comes e l
  value_comes e gives does is plain to same l has =
      let fits = value_fits graph before.state colors q
      (shows graph states (taking_nothing before) late q job f function point stands) number f point
      e is in
      held_comes e gives does l (here_kept e gives does fits.heir to l)
      (subst (AreHeld graph states before.state (hued colors) late.secure q job f function)
      (ap (values_of graph states before.state (hued colors) late.secure q job f function number
      point) gives ∙ sym same)
      (values_held_at graph states before.state (hued colors) late.secure q job f function number
      (length job.frames) point stands) (tinted e l)
      (fits.same.to (tinted e l) (in_hues (base e).palette (plan e).joined l has)))
      (λ a shade. takes_here e does plain a)

  -- ---- a cell
  module _ (r : ℕ) (cell : HeapCell) (c next : ℕ) (gives : GivesIt (effect.New r cell c next))
      (does : DoesIt (effect.New r cell c next)) where
    abbrev making : Effect
    making = effect.New r cell c next

    fits : PlanFits q colors (plan making)
        (joined_in_cell graph before.state (hued colors) q number c cell)
        (coloured_more (cell_colour graph q.job number cell) (hued colors))
    fits = cell_fits graph before.state colors q
        (shows graph states (taking_nothing before) late q job f function point stands) c cell

    kept : (l : ℕ) → IsKept making l
    kept = here_kept making gives does fits.heir refl

    by_actor : (k : ℕ) (parts : List Value) → cell ≡ Actor k parts
        → Takes (owner_as (Instance c))
    by_actor k parts is = ByActor r k parts c next
        (subst (λ h. DoesIt (effect.New r h c next)) is does) refl

    -- what joins an actor that is made is the job's
    of_maker : (k : ℕ) (parts : List Value) → cell ≡ Actor k parts → (a : Keeper)
        → Contains (joined_in_cell graph before.state (hued colors) q number c cell) (OfActor a)
        → a ≡ Instance c
    of_maker k parts is a has = by
        (makers.joins graph states before.state (hued colors) q number job f function point making
        (executing graph states (taking_nothing before) late q job f function point stands making
        gives) refl)
      where
        actor_is : (x y : Keeper) → OfActor x ≡ OfActor y → x ≡ y
        actor_is x y e = cc

        its : Contains (joined_in_cell graph before.state (hued colors) q number c cell)
            (OfActor (Instance c))
        its = subst (λ h. Contains (joined_in_cell graph before.state (hued colors) q number c h)
            (OfActor (Instance c))) (sym is)
            (first_in (OfActor (Instance c)) (here_at (hued colors) q
            ∷ reached_by_all before.state (hued colors) parts))

        -- an actor's colour among those that may become one is the one that is kept
        is_kept : (kept : Colour) (x : Keeper)
            → (OfActor x ≡ kept) ⊎ ((n : ℕ) × (OfActor x ≡ OfJob q.job n)) → OfActor x ≡ kept
        is_kept kept x (inl same) = same
        is_kept kept x (inr (n, same)) = absurd (let no : ⊥ = cc in no)

        by : MayUnite q (joined_in_cell graph before.state (hued colors) q number c cell)
            → a ≡ Instance c
        by (inl none) = absurd (none_in (OfActor a) (subst (λ l. Contains l (OfActor a)) none has))
        by (inr (kept, among, others, own)) = actor_is a (Instance c)
            (is_kept kept a (others (OfActor a) has)
            ∙ sym (is_kept kept (Instance c) (others (OfActor (Instance c)) its)))

    takes_in : (h : HeapCell) → cell ≡ h → (a : Keeper)
        → Contains (joined_in_cell graph before.state (hued colors) q number c cell) (OfActor a)
        → here_at (hued colors) q ≡ OfActor a → Takes (owner_as a)
    takes_in (Actor k parts) is a has = λ here.
        subst (λ b. Takes (owner_as b)) (sym (of_maker k parts is a has)) (by_actor k parts is)
    takes_in (Object k parts) is a has =
        takes_here making does (ap (λ h. makes_owner (effect.New r h c next)) is) a
    takes_in (BoxOf v) is a has =
        takes_here making does (ap (λ h. makes_owner (effect.New r h c next)) is) a
    takes_in (Closure g values) is a has =
        takes_here making does (ap (λ h. makes_owner (effect.New r h c next)) is) a
    takes_in (TaskOf j) is a has =
        takes_here making does (ap (λ h. makes_owner (effect.New r h c next)) is) a

    cell_comes : (l : ℕ) → Contains (plan making).joined l → Comes making l
    cell_comes l has = by (cells_held graph states before.state (hued colors) late.secure q job f
        function number point (length job.frames) r cell c next stands gives (tinted making l)
        (among l has))
      where
        among : (l : ℕ) → Contains (plan making).joined l
            → Contains (joined_in_cell graph before.state (hued colors) q number c cell)
            (tinted making l)
        among l has = fits.same.to (tinted making l)
            (in_hues (base making).palette (plan making).joined l has)

        by : IsOfCell graph states before.state (hued colors) late.secure q job f function number c
            cell (tinted making l) → Comes making l
        by (inl held) = held_comes making gives does l (kept l) held
            (λ a shade. takes_in cell refl a (subst (Contains
            (joined_in_cell graph before.state (hued colors) q number c cell)) shade (among l has)))
        by (inr (inl is)) = Own number is
        by (inr (inr (k, parts, is_actor, is))) =
            OfTaker (Instance c) is (kept l) (by_actor k parts is_actor)

  -- ---- a call
  module _ (frame : Frame) (next : ℕ) (gives : GivesIt (effect.Enter frame next))
      (does : DoesIt (effect.Enter frame next)) where
    abbrev call : Effect
    call = effect.Enter frame next

    abbrev lent : List ℕ
    lent = plans.called_closure colors point f
        ++ plans.passed colors.cells (sending_of graph frame.function) frame.regs

    abbrev enters : Option ℕ → Plan
    enters o = begun_with o (owner.Job q.job) Pushed number lent

    there : Shows before.state colors q
    there = shows graph states (taking_nothing before) late q job f function point stands

    begins : HasNumber colors frame.executor
    begins = calling.has graph states (taking_nothing before) late q job f function point stands
        frame next gives

    lent_comes : (l : ℕ) → Contains lent l → Comes call l
    lent_comes l has = held_comes call gives does l (low_kept call gives does l low)
        (subst Held (sym (hues_made q.job (plan call) colors late.whole l low))
        (calls_held graph states before.state (hued colors) late.secure q job f function number
        (executing graph states (taking_nothing before) late q job f function point stands call
        gives).numbered point frame next stands gives (hue colors.palette l)
        ((calls.same graph before.state colors q there f frame next (length job.frames) point gives
        begins).to (hue colors.palette l) (in_hues colors.palette lent l has))))
        (λ a shade. takes_here call does refl a)
      where
        low : l < number
        low = all_in (λ n. n < number) lent l
            (calls.below graph before.state colors q there f frame next (length job.frames) point
            gives begins) has

    -- the colour of a new `Here`
    new_here : hue (base_of q.job (enters None) colors).palette number ≡ OfJob q.job number
    unfolding push_here
    new_here = (fresh_made (owner.Job q.job) colors late.whole late.made).1

    -- the colours of the job's frames
    row : (ns : List ℕ) × (slice_get colors.heres q.job ≡ Some ns)
    row = found_within colors.heres q.job
        (let low = slice_get_within before.state.jobs q.job job stands.top.there in
        let count = late.secure.heres.jobs in
        omega (arith, low, count, length-map colors.heres (map (hue colors.palette))))

    size : length row.0 ≡ suc q.depth
    size = sym (length-map row.0 (hue colors.palette))
        ∙ late.secure.heres.frames q.job job (map (hue colors.palette) row.0) stands.top.there
        (slice_get-map (map (hue colors.palette)) colors.heres q.job
        ∙ ap (option_map (map (hue colors.palette))) row.1)
        ∙ stands.top.height

    last : (n : ℕ) → slice_get (with_last n row.0) (suc q.depth) ≡ Some n
    unfolding with_last
    last n = ap (slice_get (row.0 ++ n ∷ [])) (sym size) ∙ slice_get_end row.0 n

    pushed_at : (n : ℕ) → called_number colors point frame ≡ Some n
        → here_number after (above q) ≡ Some n
    pushed_at n is =
        ap (λ (h : List (List ℕ)). option_and_then (λ (r : List ℕ). slice_get r (suc q.depth))
        (slice_get h q.job))
        (heres_are call gives does
        ∙ ap (λ o. heres_after (makings q.job (enters o)) colors.heres) is)
        ∙ ap (option_and_then (λ (r : List ℕ). slice_get r (suc q.depth)))
        (changed_at_found (with_last n) q.job colors.heres row.0 row.1)
        ∙ last n

    call_comes : (l : ℕ) → Contains (plan call).joined l → Comes call l
    call_comes l = by (called_on point frame) (called_number colors point frame)
        (called_begins colors point frame begins) refl
      where
        by : (on : Option Keeper) (o : Option ℕ) → BeginsOn colors on o
            → called_number colors point frame ≡ o → Contains (enters o).joined l → Comes call l
        by _ _ Nowhere is has = elim (first_or_later number lent l has) [
          | inl same ↦ Own number
              (subst (λ k. hue (base_of q.job (enters (called_number colors point frame))
              colors).palette k ≡ OfJob q.job number) same
              (subst (λ o. hue (base_of q.job (enters o) colors).palette number
              ≡ OfJob q.job number) (sym is) new_here))
          | inr there ↦ lent_comes l there
        ]
        by _ _ (On a n inside shade) is has = elim (first_or_later n lent l has) [
          | inl same ↦ subst (Comes call) same (OfTaker a (tint a n inside shade)
              (low_kept call gives does n inside)
              (ByCall q frame next top does (owns_here call gives does (above q) n a
              (pushed_at n is) (low_kept call gives does n inside a (tint a n inside shade)))))
          | inr there ↦ lent_comes l there
        ]
          where
            tint : (a : Keeper) (n : ℕ) → n < number → hue colors.palette n ≡ OfActor a
                → tinted call n ≡ OfActor a
            tint a n inside shade = hues_made q.job (plan call) colors late.whole n inside ∙ shade

  -- ---- a task
  module _ (r : ℕ) (frame : Frame) (made cell next : ℕ)
      (gives : GivesIt (effect.Spawn r frame made cell next))
      (does : DoesIt (effect.Spawn r frame made cell next)) where
    abbrev task : Effect
    task = effect.Spawn r frame made cell next

    abbrev given : List ℕ
    given = plans.passed colors.cells [] frame.regs

    abbrev starts : Option ℕ → Plan
    starts o = record (begun_with o (owner.Job made) Begun number given) {
      tint = Some Bare;
      heir = Some made;
    }

    from : SpawnsBy graph before.state (length job.frames) f point r frame made cell next
    from = spawns_from graph before.state (length job.frames) f point r frame made cell next gives

    spawns : GivesIt (effect.Spawn r frame (length before.state.jobs) cell next)
    spawns = gives ∙ ap (λ k. effect.Spawn r frame k cell next) from.made_is

    makes : MakesTask graph states before.state (hued colors) q job f function r frame
    makes = tasked.makes graph states (taking_nothing before) late q job f function point stands r
        frame cell next spawns

    -- what a task takes is the job's, or that of the actor on which it runs
    given_comes : ((a : Keeper) → actor_on frame.executor ≡ Some a → Takes (owner_as a)) → (l : ℕ)
        → Contains given l → Comes task l
    given_comes takes l has =
        by (ours graph states before.state (hued colors) q job f function r frame makes
        (hue colors.palette l)
        ((passed_shows before.state colors q there_too [] frame.regs).to (hue colors.palette l)
        (in_hues colors.palette given l has)))
      where
        there_too : Shows before.state colors q
        there_too = shows graph states (taking_nothing before) late q job f function point stands

        low : l < number
        low = all_in (λ n. n < number) given l
            (passed_made before.state colors q there_too [] frame.regs) has

        same : tinted task l ≡ hue colors.palette l
        same = hues_made q.job (plan task) colors late.whole l low

        by : ((a : Keeper) × (actor_on frame.executor ≡ Some a)
            × (hue colors.palette l ≡ OfActor a))
            ⊎ ((n : ℕ) × (hue colors.palette l ≡ OfJob q.job n)) → Comes task l
        by (inl (a, on, is)) =
            OfTaker a (same ∙ is) (low_kept task gives does l low) (takes a on)
        by (inr (n, is)) = Own n (same ∙ is)

    new_job : hue (base_of q.job (starts None) colors).palette number ≡ OfJob made number
    unfolding mark begin_heres
    new_job = (fresh_made (owner.Job made) colors late.whole late.made).1

    count : length colors.heres ≡ made
    count = sym (length-map colors.heres (map (hue colors.palette))) ∙ late.secure.heres.jobs
        ∙ sym from.made_is

    begun_at : (n : ℕ) → number_on colors frame.executor ≡ Some n
        → here_number after (bottom made) ≡ Some n
    begun_at n is =
        ap (λ (h : List (List ℕ)). option_and_then (λ (r : List ℕ). slice_get r 0)
        (slice_get h made))
        (heres_are task gives does
        ∙ ap (λ o. heres_after (makings q.job (starts o)) colors.heres) is)
        ∙ ap (option_and_then (λ (r : List ℕ). slice_get r 0))
        (ap (slice_get (colors.heres ++ (n ∷ []) ∷ [])) (sym count)
        ∙ slice_get_end colors.heres (n ∷ []))

    task_comes : (l : ℕ) → Contains (plan task).joined l → Comes task l
    task_comes l = by (actor_on frame.executor) (number_on colors frame.executor)
        (begins_on colors frame.executor (tasked.has graph states (taking_nothing before) late q job
        f function point stands r frame cell next spawns)) refl refl
      where
        tint : (a : Keeper) (n : ℕ) → n < number → hue colors.palette n ≡ OfActor a
            → tinted task n ≡ OfActor a
        tint a n inside shade = hues_made q.job (plan task) colors late.whole n inside ∙ shade

        takes : (a : Keeper) (n : ℕ) → n < number → hue colors.palette n ≡ OfActor a
            → number_on colors frame.executor ≡ Some n → Takes (owner_as a)
        takes a n inside shade is = ByTask r frame made cell next does (inr
            (owns_here task gives does (bottom made) n a (begun_at n is)
            (low_kept task gives does n inside a (tint a n inside shade))))

        by : (on : Option Keeper) (o : Option ℕ) → BeginsOn colors on o
            → actor_on frame.executor ≡ on → number_on colors frame.executor ≡ o
            → Contains (starts o).joined l → Comes task l
        by _ _ Nowhere on is has = elim (first_or_later number given l has) [
          | inl same ↦ OfHeir made
              (subst (λ k. hue (base_of q.job (starts (number_on colors frame.executor))
              colors).palette k ≡ OfJob made number) same
              (subst (λ o. hue (base_of q.job (starts o) colors).palette number
              ≡ OfJob made number) (sym is) new_job)) (r, frame, cell, next, refl)
          | inr there ↦ given_comes (λ a stands. absurd
              (let clash : None ≡ Some a = sym on ∙ stands in let no : ⊥ = cc in no)) l there
        ]
        by _ _ (On a n inside shade) on is has = elim (first_or_later n given l has) [
          | inl same ↦ subst (Comes task) same (OfTaker a (tint a n inside shade)
              (low_kept task gives does n inside) (takes a n inside shade is))
          | inr there ↦ given_comes (λ b stands. subst (λ c. Takes (owner_as c))
              (some_injective (sym on ∙ stands)) (takes a n inside shade is)) l there
        ]

  -- ---- each effect
  pub comes : (e : Effect) → GivesIt e → DoesIt e → (l : ℕ) → Contains (plan e).joined l
      → Comes e l
  comes (effect.Set r v next) gives does =
      value_comes (effect.Set r v next) gives does refl refl refl refl
  comes (effect.SetField r i v next) gives does =
      value_comes (effect.SetField r i v next) gives does refl refl refl refl
  comes (effect.Print r line next) gives does =
      value_comes (effect.Print r line next) gives does refl refl refl refl
  comes (effect.Write c slot v next) gives does =
      value_comes (effect.Write c slot v next) gives does refl refl refl refl
  comes (effect.WriteGlobal g v next) gives does =
      value_comes (effect.WriteGlobal g v next) gives does refl refl refl refl
  comes (effect.Goto next) gives does =
      value_comes (effect.Goto next) gives does refl refl refl refl
  comes (effect.Wait on r next) gives does =
      value_comes (effect.Wait on r next) gives does refl refl refl refl
  comes (effect.Rest r next) gives does =
      value_comes (effect.Rest r next) gives does refl refl refl refl
  comes (effect.New r cell c next) gives does = cell_comes r cell c next gives does
  comes (effect.Enter frame next) gives does = call_comes frame next gives does
  comes (effect.Spawn r frame made cell next) gives does =
      task_comes r frame made cell next gives does
  comes (effect.Leave v) gives does = λ l has. absurd (none_in l has)
  comes (effect.Halt kind at) gives does = λ l has. absurd (none_in l has)
  comes effect.Stuck gives does = λ l has. absurd (none_in l has)

  -- ---- an heir is a job that is made
  no_heir : (e : Effect) (k : ℕ) → (plan e).heir ≡ None → (plan e).heir ≡ Some k → MakesJob e k
  no_heir e k none is = let clash : None ≡ Some k = sym none ∙ is in
      absurd (let no : ⊥ = cc in no)

  value_heir : (e : Effect) (k : ℕ) → is_of_values e ≡ true → (plan e).heir ≡ Some k → MakesJob e k
  value_heir e k is = no_heir e k (value_fits graph before.state colors q
      (shows graph states (taking_nothing before) late q job f function point stands) number f point
      e is).heir

  pub heirs : (e : Effect) (k : ℕ) → (plan e).heir ≡ Some k → MakesJob e k
  heirs (effect.Set r v next) k = value_heir (effect.Set r v next) k refl
  heirs (effect.SetField r i v next) k = value_heir (effect.SetField r i v next) k refl
  heirs (effect.Print r line next) k = value_heir (effect.Print r line next) k refl
  heirs (effect.New r cell c next) k = no_heir (effect.New r cell c next) k
      (cell_fits graph before.state colors q
      (shows graph states (taking_nothing before) late q job f function point stands) c cell).heir
  heirs (effect.Write c slot v next) k = value_heir (effect.Write c slot v next) k refl
  heirs (effect.WriteGlobal g v next) k = value_heir (effect.WriteGlobal g v next) k refl
  heirs (effect.Goto next) k = value_heir (effect.Goto next) k refl
  heirs (effect.Enter frame next) k = no_heir (effect.Enter frame next) k
      (by (called_number colors point frame))
    where
      by : (o : Option ℕ) → (begun_with o (owner.Job q.job) Pushed number
          (plans.called_closure colors point f
          ++ plans.passed colors.cells (sending_of graph frame.function) frame.regs)).heir ≡ None
      by None = refl
      by (Some n) = refl
  heirs (effect.Spawn r frame made cell next) k = λ is.
      (r, frame, cell, next, ap (λ j. effect.Spawn r frame j cell next) (some_injective is))
  heirs (effect.Wait on r next) k = value_heir (effect.Wait on r next) k refl
  heirs (effect.Rest r next) k = value_heir (effect.Rest r next) k refl
  heirs (effect.Leave v) k = no_heir (effect.Leave v) k refl
  heirs (effect.Halt kind at) k = no_heir (effect.Halt kind at) k refl
  heirs effect.Stuck k = no_heir effect.Stuck k refl
